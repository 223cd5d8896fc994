-- `store::entry_slots::entry::places_at` meets its contract. Assumes nothing.
use lib.ListN.{replicate, take, length-set}
use native.Mathlib.Omega.{arith}
use borrow.Author.Rules.{rules}
use Prim.Native.Nat.{ℕ}
use mathlib.Core.Path.{◌≡◌, refl, sym, ap, ◌∙◌}
use lib.Seq.{take_all}
use Rattle.laws.specs.Overlay.{part}
use Rattle.laws.specs.Slots.{slot_at}
use Rattle.laws.proofs.Tables.{lay-none, lay-next}
use Rattle.store.specs.entry_slots.Places.{place_of}
use Rattle.store.specs.entry_slots.Entries.{places_of}
use Rattle.store.proofs.entry_slots.Entries.{place-cut}
use Rattle.store.proofs.entry_slots.entry.places_at.Goals as goal

pub loop-i-init : goal.loop-i-init
loop-i-init c = (refl, lay-none (λ (j : ℕ). place_of (slot_at 0 12 (part c.args.entries.now c.args.at 96) j)) (replicate 8 c.free_place-places.result))

pub loop-i-preserved : goal.loop-i-preserved
loop-i-preserved c = let a = c.args in (
  simp length-set c.loop-i.invariant.0,
  lay-next (λ (j : ℕ). place_of (slot_at 0 12 (part a.entries.now a.at 96) j)) c.loop-i.places c.loop-i.i c.place_at.result (omega arith)
      (c.place_at.ensures ∙ ap place_of (place-cut a.entries.now a.at c.loop-i.i (search rules))) c.loop-i.invariant.1,
)

pub returns : goal.returns
unfolding places_of
returns c = let e : c.loop-i.i ≡ 8 = omega arith in
    let whole : take 8 c.loop-i.places ≡ c.loop-i.places = take_all 8 c.loop-i.places (omega arith) in
    sym whole ∙ rw e at c.loop-i.invariant.1
