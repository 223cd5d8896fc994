-- `calendar::dates::year_of` meets its contract: it is the closed rule. Assumes nothing.
use mathlib.Core.Path.{refl}
use Rattle.calendar.specs.Dates.{year_of}
use Rattle.calendar.proofs.dates.year_of.Goals as goal

pub returns : goal.returns
unfolding year_of
returns c = refl
