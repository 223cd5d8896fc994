-- `store::slots::run::write` meets its contract: what is written so far is an `overlay` of the first i bytes. Assumes nothing.
use mathlib.Core.Path.{◌≡◌}
use lib.ListN.{length, take}
use Rattle.laws.specs.Overlay.{overlay}
use Rattle.store.proofs.slots.run.write.Given as goal

abbrev pub invariant-loop-i : goal.invariant-loop-i
invariant-loop-i l = (length l.dst ≡ length l.initial.dst) × (l.dst ≡ overlay l.initial.dst l.at (take l.i l.src))
