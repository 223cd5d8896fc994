-- `calendar::dates::month_days` meets its contract.
-- Assumes nothing.
use mathlib.Core.Path.{sym, ◌∙◌}
use Rattle.calendar.proofs.DateLaws.{month_days-plain, month_days-february, month_days-none}
use Rattle.calendar.proofs.dates.month_days.Goals as goal

pub returns-then-month-gt12 : goal.returns-then-month-gt12
returns-then-month-gt12 c = sym (month_days-none _ _ c.if-month-gt12.true)

pub returns-then-leap_in_calendar : goal.returns-then-leap_in_calendar
returns-then-leap_in_calendar c = rw (c.if-month-eq2.true, month_days-february, sym c.leap_in_calendar.ensures ∙ c.if-leap_in_calendar.true)

pub returns-then-month-eq2 : goal.returns-then-month-eq2
returns-then-month-eq2 c = rw (c.if-month-eq2.true, month_days-february, sym c.leap_in_calendar.ensures ∙ c.if-leap_in_calendar.false)

pub returns : goal.returns
returns c = sym (month_days-plain _ _ c.if-month-eq2.false)
