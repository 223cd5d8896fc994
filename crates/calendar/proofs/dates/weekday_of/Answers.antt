-- `calendar::dates::weekday_of` meets its contract.
-- Assumes nothing.
use borrow.Author.Tests.{le-leb, lt-leb}
use Rattle.calendar.specs.Dates.{weekday}
use Rattle.calendar.specs.Answers.{weekday_of}
use Rattle.calendar.proofs.dates.weekday_of.Goals as goal

pub returns-then-n-gt-LAST_DAY : goal.returns-then-n-gt-LAST_DAY
unfolding weekday_of
returns-then-n-gt-LAST_DAY c = simp (lt-leb _ _ c.if-n-gt-LAST_DAY.true)

pub returns : goal.returns
unfolding weekday_of weekday
returns c = simp (le-leb _ _ c.if-n-gt-LAST_DAY.false)
