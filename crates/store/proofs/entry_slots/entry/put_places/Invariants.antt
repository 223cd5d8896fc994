-- `store::entry_slots::entry::put_places` meets its contract. Assumes nothing.
use mathlib.Core.Path.{◌≡◌}
use mathlib.Core.List.{flat_map}
use lib.ListN.{length, take}
use Rattle.laws.specs.Overlay.{overlay}
use Rattle.store.specs.entry_slots.Places.{place_slot}
use Rattle.store.proofs.entry_slots.entry.put_places.Given as goal

abbrev pub invariant-loop-i : goal.invariant-loop-i
invariant-loop-i l = (length l.entries ≡ length l.initial.entries) × (l.entries ≡ overlay l.initial.entries l.at (flat_map place_slot (take l.i l.places)))
