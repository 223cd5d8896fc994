-- `store::entry_slots::entry::put_places` meets its contract. Assumes nothing.
use Prim.Native.Nat.{ℕ, ◌+◌, ◌*◌}
use mathlib.Core.Path.{refl, ap, ◌∙◌}
use mathlib.Core.List.{List}
use lib.ListN.{get_or}
use Rattle.laws.proofs.Slots.{flat-none, flat-next}
use Rattle.entries.specs.Entry.{free_place}
use Rattle.store.proofs.entry_slots.Places.{length-place}
use borrow.Author.Rules.{rules}
use Rattle.laws.specs.Overlay.{overlay}
use Rattle.store.specs.entry_slots.Places.{place_slot}
use Rattle.store.proofs.entry_slots.entry.put_places.Goals as goal

pub loop-i-init : goal.loop-i-init
loop-i-init c = (refl, flat-none 12 place_slot length-place _ _ c.args.places)

pub loop-i-preserved : goal.loop-i-preserved
loop-i-preserved c = let a = c.args in (
  c.put_place.auto.entries ∙ c.loop-i.invariant.0,
  c.put_place.ensures
      ∙ ap (λ (l : List ℕ). overlay l (a.at + c.loop-i.i * 12) (place_slot (get_or a.places c.loop-i.i free_place))) c.loop-i.invariant.1
      ∙ flat-next 12 place_slot length-place a.entries.now a.at a.places c.loop-i.i free_place (search rules),
)
