-- The record at a place of a journal, as the code finds it. Reading after writing. Assumes nothing.
use mathlib.Core.Path.{◌≡◌, sym, ap, ◌∙◌}
use mathlib.Core.Bool.{and-false}
use mathlib.Core.List.{List, []}
use Prim.Native.Nat.{ℕ, ◌+◌, ◌*◌, ◌/◌, ◌≤◌, ◌<◌}
use native.Mathlib.Nat.{zero-add, div-mul-le_self}
use native.Mathlib.Omega.{arith}
use lib.Dec.{ltb}
use lib.ListN.{length}
use borrow.Author.Tests.{lt-ltb, le-ltb}
use Rattle.laws.specs.Overlay.{overlay}
use Rattle.laws.specs.Slots.{slot_at, slot_of, held_in}
use Rattle.laws.proofs.Slots.{slot_same, slot-other, length-slot, held-slot, slots_apart}
use Rattle.store.specs.journals.Records.{record_at, record_in}

module _ (width : ℕ) (journal : List ℕ) (k : ℕ) where
  pub beyond_records : (count : ℕ) → count ≤ k → [] ≡ record_in width count journal k
  unfolding record_in
  beyond_records count h = rw (le-ltb k count h)

  pub beyond_buffer : (count : ℕ) → length journal / width ≤ k → [] ≡ record_in width count journal k
  unfolding record_in
  beyond_buffer count h = rw (le-ltb k (length journal / width) h, and-false (ltb k count))

  pub within : (count : ℕ) → k < count → k < length journal / width → held_in (slot_at 0 width journal k) ≡ record_in width count journal k
  unfolding record_in record_at
  within count h i = rw (lt-ltb k count h, lt-ltb k (length journal / width) i)

  -- a place below as many as the buffer has room for is in the buffer
  pub place_fits : k < length journal / width → k * width + width ≤ length journal
  place_fits h = omega (arith, slots_apart width h, div-mul-le_self (length journal) width)

  -- reading after writing: the record that was written, every other as before
  pub record_same : (bytes : List ℕ) → k * width + width ≤ length journal → length bytes < width → record_at width (overlay journal (k * width) (slot_of width bytes)) k ≡ bytes
  unfolding record_at
  record_same bytes fits short =
      ap (λ (at : ℕ). held_in (slot_at 0 width (overlay journal at (slot_of width bytes)) k)) (sym (zero-add (k * width)))
      ∙ ap held_in (slot_same 0 width journal k (slot_of width bytes) (omega arith) (length-slot width bytes short))
      ∙ held-slot width bytes

  pub record-other : (j : ℕ) (bytes : List ℕ) → (j ≡ k → ⊥) → length bytes < width → record_at width (overlay journal (k * width) (slot_of width bytes)) j ≡ record_at width journal j
  unfolding record_at
  record-other j bytes ne short =
      ap (λ (at : ℕ). held_in (slot_at 0 width (overlay journal at (slot_of width bytes)) j)) (sym (zero-add (k * width)))
      ∙ ap held_in (slot-other 0 width journal j k (slot_of width bytes) ne (length-slot width bytes short))
