-- `text::spell` meets its contract: what is left of the digits spells the rest. Assumes nothing.
use Prim.Native.Nat.{◌<◌, ◌*◌, ◌^◌}
use mathlib.Core.Path.{◌≡◌}
use lib.ListN.{drop}
use Rattle.text.specs.Spelt.{spells}
use Rattle.text.proofs.spell.Given as goal

abbrev pub invariant-loop-b : goal.invariant-loop-b
invariant-loop-b l = (spells l.start l.f ≡ spells l.n (drop l.b-index l.f)) × (l.n < 2 * 10 ^ l.b-index)
