-- `store::numbers::twice::gather` meets its contract. Assumes nothing.
use mathlib.Core.Path.{◌≡◌}
use lib.ListN.{length, take}
use Rattle.store.specs.numbers.Twice.{keys_of}
use Rattle.store.proofs.numbers.twice.gather.Given as goal

abbrev pub invariant-loop-i : goal.invariant-loop-i
invariant-loop-i l = (length l.numbers ≡ length l.initial.numbers) × (take l.i l.numbers ≡ keys_of l.i l.lines)
