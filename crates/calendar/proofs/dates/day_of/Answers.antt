-- `calendar::dates::day_of` meets its contract: each return rewrites with the tests that led there.
-- Assumes nothing.
use native.Mathlib.Omega.{arith}
use borrow.Author.Tests.{le-leb, lt-leb}
use Rattle.calendar.specs.Dates.{valid, day_number}
use Rattle.calendar.specs.Answers.{day_of}
use Rattle.calendar.proofs.DateLaws.{year_start-le, month_start-le, month-real}
use Rattle.calendar.proofs.dates.day_of.Goals as goal

pub returns-then-year-lt1998 : goal.returns-then-year-lt1998
unfolding day_of valid
returns-then-year-lt1998 c = simp (lt-leb _ _ c.if-year-lt1998.true)

pub returns-then-year-gt2049 : goal.returns-then-year-gt2049
unfolding day_of valid
returns-then-year-gt2049 c = simp (le-leb _ _ c.if-year-lt1998.false, lt-leb _ _ c.if-year-gt2049.true)

pub returns-then-day-lt1 : goal.returns-then-day-lt1
unfolding day_of valid
returns-then-day-lt1 c =
    simp (le-leb _ _ c.if-year-lt1998.false, le-leb _ _ c.if-year-gt2049.false, lt-leb _ _ c.if-day-lt1.true)

pub returns-then-month_days-day : goal.returns-then-month_days-day
unfolding day_of valid
returns-then-month_days-day c =
    simp (le-leb _ _ c.if-year-lt1998.false, le-leb _ _ c.if-year-gt2049.false, le-leb _ _ c.if-day-lt1.false, ← c.month_days.ensures, lt-leb _ _ c.if-month_days-day.true)

pub month_start-requires : goal.month_start-requires
month_start-requires c =
    let x = c.args.date in
    omega (arith, month-real x.year x.month (omega arith))

pub overflow_add-before : goal.overflow_add-before
overflow_add-before c =
    let x = c.args.date in
    omega (arith, year_start-le x.year (omega arith), month_start-le x.year x.month)

pub overflow_add-result : goal.overflow_add-result
overflow_add-result c =
    let x = c.args.date in
    omega (arith, year_start-le x.year (omega arith), month_start-le x.year x.month)

pub returns : goal.returns
unfolding day_of valid day_number
returns c =
    simp (le-leb _ _ c.if-year-lt1998.false, le-leb _ _ c.if-year-gt2049.false, le-leb _ _ c.if-day-lt1.false, ← c.month_days.ensures, le-leb _ _ c.if-month_days-day.false, c.year_start.ensures, c.month_start.ensures)
