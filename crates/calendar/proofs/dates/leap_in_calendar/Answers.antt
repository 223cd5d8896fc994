-- `calendar::dates::leap_in_calendar` meets its contract: each of the 52 years was tested, by one computation. Assumes nothing.
use native.Mathlib.Omega.{arith}
use Rattle.calendar.proofs.DateLaws.{leap-in}
use Rattle.calendar.proofs.dates.leap_in_calendar.Goals as goal

pub returns : goal.returns
returns c = leap-in c.args.year (omega arith) (omega arith)
