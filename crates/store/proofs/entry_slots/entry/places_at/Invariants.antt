-- `store::entry_slots::entry::places_at` meets its contract. Assumes nothing.
use lib.ListN.{length, take}
use Prim.Native.Nat.{ℕ}
use mathlib.Core.Path.{◌≡◌}
use Rattle.laws.specs.Lists.{table}
use Rattle.laws.specs.Overlay.{part}
use Rattle.laws.specs.Slots.{slot_at}
use Rattle.store.specs.entry_slots.Places.{place_of}
use Rattle.store.proofs.entry_slots.entry.places_at.Given as goal

abbrev pub invariant-loop-i : goal.invariant-loop-i
invariant-loop-i l = (length l.places ≡ 8) × (take l.i l.places ≡ table l.i (λ (j : ℕ). place_of (slot_at 0 12 (part l.entries l.at 96) j)))
