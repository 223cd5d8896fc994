-- `calendar::dates::year_start` meets its contract: it is the closed rule. Assumes nothing.
use native.Mathlib.Omega.{arith}
use Rattle.calendar.specs.Dates.{year_start}
use Rattle.calendar.proofs.dates.year_start.Goals as goal

pub returns : goal.returns
unfolding year_start
returns c = omega arith
