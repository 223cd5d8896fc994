-- `capi::days::dagskimra_holidays` meets its contract: the list has as many days as its table. Assumes nothing.
use mathlib.Core.Path.{sym}
use Rattle.calendar.proofs.HolidayLaws.{holidays-length}
use Rattle.capi.proofs.days.dagskimra_holidays.Goals as goal

pub returns : goal.returns
returns c = (sym holidays-length, c.mark.ensures)
