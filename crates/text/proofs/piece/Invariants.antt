-- `text::piece` meets its contract: what is asked for is a piece of what starts at `at`. Assumes nothing.
use Prim.Native.Nat.{◌≤◌, ◌-◌}
use mathlib.Core.Path.{◌≡◌}
use lib.ListN.{length, drop}
use Rattle.laws.specs.Split.{piece_of}
use Rattle.text.proofs.piece.Given as goal

abbrev pub invariant-loop-passed : goal.invariant-loop-passed
invariant-loop-passed l = (l.at ≤ length l.s) × (piece_of l.sep l.s l.k ≡ piece_of l.sep (drop l.at l.s) (l.k - l._passed))
