-- `starting::tables::scratch::lay_out` meets its contract. Assumes nothing.
use Prim.Native.Nat.{◌-◌}
use Rattle.starting.proofs.tables.Spreading.{Turn}
use mathlib.Core.Path.{◌≡◌}
use lib.ListN.{length}
use Rattle.starting.proofs.tables.scratch.lay_out.Given as goal

abbrev pub invariant-loop-at : goal.invariant-loop-at
invariant-loop-at l = (length l.room ≡ length l.initial.room) × Turn l.text l.initial.room l.at l.n l.room

abbrev pub decreases-loop-at : goal.decreases-loop-at
decreases-loop-at l = length l.text - l.at
