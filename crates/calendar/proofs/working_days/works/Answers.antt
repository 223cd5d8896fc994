-- `calendar::working_days::works` meets its contract: each return rewrites with the tests that led there. Assumes nothing.
use borrow.Author.Tests.{lt-ltb, le-ltb}
use Rattle.calendar.specs.Dates.{weekday}
use Rattle.calendar.specs.Holidays.{working}
use Rattle.calendar.proofs.working_days.works.Goals as goal

pub returns-then-day-lt5 : goal.returns-then-day-lt5
unfolding working weekday
returns-then-day-lt5 c = simp (lt-ltb _ _ c.if-day-lt5.true, c.is_holiday.ensures)

pub returns-else-day-lt5 : goal.returns-else-day-lt5
unfolding working weekday
returns-else-day-lt5 c = simp (le-ltb _ _ c.if-day-lt5.false)
