-- `calendar::dates::month_start` meets its contract: the table is the list that the definition makes, by one computation over the whole of it.
-- Assumes nothing.
use mathlib.Core.Path.{sym, ◌∙◌}
use native.Mathlib.Omega.{arith}
use Rattle.laws.specs.Sums.{sum_to}
use Rattle.laws.specs.Lists.{table}
use Rattle.calendar.proofs.DateLaws.{month_starts, month_start-le, month-early, month-leap, month-plain}
use Rattle.calendar.proofs.dates.month_start.Goals as goal

pub returns-then-month-lt3 : goal.returns-then-month-lt3
unfolding sum_to table month_starts
returns-then-month-lt3 c = month-early c.args.year c.args.month (omega arith) c.if-month-lt3.true

pub overflow_add-result : goal.overflow_add-result
unfolding sum_to table month_starts
overflow_add-result c =
    let a = c.args in
    let leap = sym c.leap_in_calendar.ensures ∙ c.if-leap_in_calendar.true in
    omega (arith, month-leap a.year a.month (omega arith) c.if-month-lt3.false leap, month_start-le a.year a.month)

pub returns-then-leap_in_calendar : goal.returns-then-leap_in_calendar
unfolding sum_to table month_starts
returns-then-leap_in_calendar c =
    let a = c.args in
    month-leap a.year a.month (omega arith) c.if-month-lt3.false (sym c.leap_in_calendar.ensures ∙ c.if-leap_in_calendar.true)

pub returns : goal.returns
unfolding sum_to table month_starts
returns c =
    let a = c.args in
    month-plain a.year a.month (omega arith) c.if-month-lt3.false (sym c.leap_in_calendar.ensures ∙ c.if-leap_in_calendar.false)
