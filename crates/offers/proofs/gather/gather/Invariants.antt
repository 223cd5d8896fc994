-- `offers::gather::gather` meets its contract: each offer ends in the list. Assumes nothing.
use Rattle.std.proofs.Common.{◌≤◌, length}
use Rattle.offers.proofs.gather.gather.Given as goal

abbrev pub invariant-loop-k : goal.invariant-loop-k
invariant-loop-k g l = l.at ≤ length l.list
