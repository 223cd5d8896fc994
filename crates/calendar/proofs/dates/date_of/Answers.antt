-- `calendar::dates::date_of` meets its contract: the day is counted back from the year and the month in which it lies.
-- Assumes nothing.
use native.Mathlib.Omega.{arith}
use borrow.Author.Tests.{le-leb, lt-leb}
use Rattle.calendar.specs.Answers.{date_of, date_in}
use Rattle.calendar.proofs.DateLaws.{month_days-le, year-found, month-found}
use Rattle.calendar.proofs.dates.date_of.Goals as goal

pub returns-then-n-gt-LAST_DAY : goal.returns-then-n-gt-LAST_DAY
unfolding date_of
returns-then-n-gt-LAST_DAY c = simp (lt-leb _ _ c.if-n-gt-LAST_DAY.true)

pub year_start-requires : goal.year_start-requires
year_start-requires c =
    let at = year-found c.args.day.0 c.year_of-year.result c.if-n-gt-LAST_DAY.false c.year_of-year.ensures in
    omega arith

pub overflow_sub-m : goal.overflow_sub-m
overflow_sub-m c =
    let at = year-found c.args.day.0 c.year_of-year.result c.if-n-gt-LAST_DAY.false c.year_of-year.ensures in
    omega arith

pub month_of-month-requires : goal.month_of-month-requires
month_of-month-requires c =
    let at = year-found c.args.day.0 c.year_of-year.result c.if-n-gt-LAST_DAY.false c.year_of-year.ensures in
    omega arith

pub month_start-requires : goal.month_start-requires
month_start-requires c =
    let n = c.args.day.0 in
    let at = year-found n c.year_of-year.result c.if-n-gt-LAST_DAY.false c.year_of-year.ensures in
    let in-month = month-found n c.year_of-year.result c.year_start.result c.month_of-month.result c.if-n-gt-LAST_DAY.false c.year_of-year.ensures c.year_start.ensures c.month_of-month.ensures in
    omega arith

pub overflow_sub-d : goal.overflow_sub-d
overflow_sub-d c =
    let n = c.args.day.0 in
    let in-month = month-found n c.year_of-year.result c.year_start.result c.month_of-month.result c.if-n-gt-LAST_DAY.false c.year_of-year.ensures c.year_start.ensures c.month_of-month.ensures in
    omega arith

pub overflow_cast-result : goal.overflow_cast-result
overflow_cast-result c =
    let n = c.args.day.0 in
    let in-month = month-found n c.year_of-year.result c.year_start.result c.month_of-month.result c.if-n-gt-LAST_DAY.false c.year_of-year.ensures c.year_start.ensures c.month_of-month.ensures in
    omega (arith, month_days-le c.year_of-year.result c.month_of-month.result)

pub returns : goal.returns
unfolding date_of date_in
returns c =
    rw (le-leb _ _ c.if-n-gt-LAST_DAY.false, ← c.year_of-year.ensures, ← c.year_start.ensures, ← c.month_of-month.ensures, ← c.month_start.ensures)
