-- `store_run::lay::lay` is safe and ends. The measure is what is left to do. Assumes nothing.
use Rattle.std.proofs.Common.{◌-◌, length}
use Rattle.store_run.proofs.lay.lay.Given as goal

abbrev pub decreases-loop-i : goal.decreases-loop-i
decreases-loop-i l = length l.s - l.i
