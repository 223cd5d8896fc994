-- `layout::walk::digits_at` meets its contract: what the digits passed are worth, and what is left of the line, say what the field reads as. Assumes nothing.
use Prim.Native.Nat.{◌+◌, ◌-◌, ◌*◌, ◌^◌, ◌<◌}
use mathlib.Core.Path.{◌≡◌}
use lib.ListN.{drop}
use Rattle.fields.specs.Number.{digits_field_of}
use Rattle.layout.specs.Walk.{found_at}
use Rattle.layout.proofs.DigitsWalk.{found}
use Rattle.layout.proofs.walk.digits_at.Given as goal

abbrev pub invariant-loop-i : goal.invariant-loop-i
invariant-loop-i l =
    (found_at digits_field_of l.s l.at ≡ found (l.at + 12 - l.i) l.n l.i (drop l.i l.s)) × (l.n < 2 * 10 ^ (l.i - l.at))
