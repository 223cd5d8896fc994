-- `faults::cut::rest` meets its contract. Assumes nothing.
use Prim.Native.Nat.{◌-◌, ◌≤◌}
use lib.ListN.{length, drop}
use mathlib.Core.Path.{◌≡◌}
use Rattle.faults.specs.Cut.{rest_at}
use Rattle.faults.proofs.cut.rest.Given as goal

abbrev pub invariant-loop : goal.invariant-loop
invariant-loop l = (l.at ≤ length l.s) × (rest_at l.s l.k ≡ rest_at (drop l.at l.s) (l.k - l.counter))
