-- Records behind the stored ones of a journal, for any width. Assumes nothing.
--     journal-more    one record after the other
--     stored-stay     every stored record keeps its slot
--     stored-new      the new ones stand behind them, in their order
--     record-stays, record-new    the same of the bytes that the slots hold
--     all-stored      what passes in the stored slots and in the new ones passes in all
use mathlib.Core.Path.{◌≡◌, refl, sym, ap, ◌∙◌}
use mathlib.Core.Logic.{⊎_elim}
use mathlib.Core.Bool.{Bool, true}
use mathlib.Core.List.{List, [], ◌∷◌, ◌++◌, flat_map}
use Prim.Native.Nat.{ℕ, zero, suc, ◌+◌, ◌-◌, ◌*◌, ◌≤◌, ◌<◌}
use native.Mathlib.Nat.{zero-add, add-zero, suc-mul, mul-le-mul_right}
use native.Mathlib.Numerals.{add-one}
use native.Mathlib.Omega.{arith}
use borrow.Author.Tests.{ltb-true, lt-ltb}
use lib.ListN.{length, get_or, drop, replicate}
use lib.Seq.{drop_at}
use Rattle.laws.specs.Lists.{table, all}
use Rattle.laws.specs.Overlay.{overlay}
use Rattle.laws.specs.Slots.{slot_at, slot_of, held_in, is_zero, is_held}
use Rattle.laws.proofs.Tests.{and_left, and_right, le-or-lt}
use Rattle.laws.proofs.Overlay.{length-overlay, overlay-none, overlay-append}
use Rattle.laws.proofs.Slots.{slot_same, slot-lower, length-slot, held-slot}
use Rattle.laws.proofs.Tables.{length-table, get_or-table, all-at, all-each}
use Rattle.store.specs.journals.Records.{record_at}
use Rattle.filing.specs.entering.Entering.{journal_with, shorter}

pub is-shorter : (width : ℕ) (l : List ℕ) → shorter width l ≡ true → length l < width
unfolding shorter
is-shorter width l e = ltb-true (length l) width e

module _ (width : ℕ) where
  pub journal-none : (j : List ℕ) (n : ℕ) → journal_with width j n [] ≡ j
  unfolding journal_with flat_map
  journal-none j n = sym (overlay-none j (n * width))

  pub journal-more : (j : List ℕ) (n : ℕ) (r : List ℕ) (rs : List (List ℕ)) → length r < width
      → journal_with width j n (r ∷ rs) ≡ journal_with width (overlay j (n * width) (slot_of width r)) (n + 1) rs
  unfolding journal_with flat_map
  journal-more j n r rs short =
      let next : n * width + length (slot_of width r) ≡ (n + 1) * width = rw (add-one, suc-mul, length-slot width r short) in
      overlay-append j (n * width) (slot_of width r) (flat_map (slot_of width) rs)
      ∙ ap (λ (at : ℕ). overlay (overlay j (n * width) (slot_of width r)) at (flat_map (slot_of width) rs)) next

  pub length-journal : (j : List ℕ) (n : ℕ) (rs : List (List ℕ)) → length (journal_with width j n rs) ≡ length j
  unfolding journal_with
  length-journal j n rs = length-overlay j (n * width) (flat_map (slot_of width) rs)

  -- every stored record keeps its bytes and its place
  pub stored-stay : (j : List ℕ) (n : ℕ) (rs : List (List ℕ)) (k : ℕ) → k < n → slot_at 0 width (journal_with width j n rs) k ≡ slot_at 0 width j k
  unfolding journal_with
  stored-stay j n rs k h =
      ap (λ (at : ℕ). slot_at 0 width (overlay j at (flat_map (slot_of width) rs)) k) (sym (zero-add (n * width)))
      ∙ slot-lower 0 width j k n (flat_map (slot_of width) rs) h

  -- and the new ones stand behind them
  pub stored-new : (j : List ℕ) (n : ℕ) (rs : List (List ℕ)) (i : ℕ) → all (shorter width) rs ≡ true → (n + length rs) * width ≤ length j → i < length rs
      → slot_at 0 width (journal_with width j n rs) (n + i) ≡ slot_of width (get_or rs i [])
  unfolding all
  stored-new j n [] i short room h = absurd (omega arith)
  stored-new j n (r ∷ rs) i short room h =
      let own = is-shorter width r (and_left (shorter width r) (all (shorter width) rs) short) in
      let next : n + 1 + length rs ≡ n + length (r ∷ rs) = omega arith in
      let room_next : (n + 1 + length rs) * width ≤ length (overlay j (n * width) (slot_of width r)) = rw (next, length-overlay) room in
      ap (λ (l : List ℕ). slot_at 0 width l (n + i)) (journal-more j n r rs own)
      ∙ go own i h (λ k b. stored-new (overlay j (n * width) (slot_of width r)) (n + 1) rs k (and_right (shorter width r) (all (shorter width) rs) short) room_next b)
    where
      one : n * width + width ≤ (n + length (r ∷ rs)) * width
      one = omega (arith, suc-mul n width, mul-le-mul_right width (let le : suc n ≤ n + length (r ∷ rs) = omega arith in le))

      go : length r < width → (i : ℕ) → i < suc (length rs)
          → ((k : ℕ) → k < length rs → slot_at 0 width (journal_with width (overlay j (n * width) (slot_of width r)) (n + 1) rs) (n + 1 + k) ≡ slot_of width (get_or rs k []))
          → slot_at 0 width (journal_with width (overlay j (n * width) (slot_of width r)) (n + 1) rs) (n + i) ≡ slot_of width (get_or (r ∷ rs) i [])
      go own zero h ih =
          ap (slot_at 0 width (journal_with width (overlay j (n * width) (slot_of width r)) (n + 1) rs)) (add-zero n)
          ∙ stored-stay (overlay j (n * width) (slot_of width r)) (n + 1) rs n (omega arith)
          ∙ ap (λ (at : ℕ). slot_at 0 width (overlay j at (slot_of width r)) n) (sym (zero-add (n * width)))
          ∙ slot_same 0 width j n (slot_of width r) (omega (arith, one, room)) (length-slot width r own)
      go own (suc k) h ih =
          let at : n + suc k ≡ n + 1 + k = omega arith in
          ap (slot_at 0 width (journal_with width (overlay j (n * width) (slot_of width r)) (n + 1) rs)) at ∙ ih k (omega arith)

-- ---- the same of records and of tests
zeros : (n : ℕ) → all is_zero (replicate n 0) ≡ true
unfolding all is_zero
zeros zero = refl
zeros (suc n) = zeros n

-- the slot of a record is well kept
pub slot_kept : (width : ℕ) (r : List ℕ) → length r < width → is_held width (slot_of width r) ≡ true
unfolding is_held slot_of
slot_kept width r short =
    let rest : drop (length r + 1) (length r ∷ (r ++ replicate (width - 1 - length r) 0)) ≡ replicate (width - 1 - length r) 0 = rw add-one (drop_at r (replicate (width - 1 - length r) 0) (length r) refl) in
    rw (lt-ltb (length r) width short, rest) (zeros (width - 1 - length r))

module _ (width : ℕ) (j : List ℕ) (n : ℕ) (rs : List (List ℕ)) where
  pub record-stays : (k : ℕ) → k < n → record_at width (journal_with width j n rs) k ≡ record_at width j k
  unfolding record_at
  record-stays k h = ap held_in (stored-stay width j n rs k h)

  module _ (short : all (shorter width) rs ≡ true) (room : (n + length rs) * width ≤ length j) where
    pub record-new : (i : ℕ) → i < length rs → record_at width (journal_with width j n rs) (n + i) ≡ get_or rs i []
    unfolding record_at
    record-new i h = ap held_in (stored-new width j n rs i short room h) ∙ held-slot width (get_or rs i [])

    -- where the stored slots pass a test, and those of the new records do, all pass
    pub all-stored : (good : List ℕ → Bool) → all good (table n (slot_at 0 width j)) ≡ true → ((i : ℕ) → i < length rs → good (slot_of width (get_or rs i [])) ≡ true)
        → all good (table (n + length rs) (slot_at 0 width (journal_with width j n rs))) ≡ true
    all-stored good before new = all-each good (n + length rs) (slot_at 0 width (journal_with width j n rs)) (λ i h. ⊎_elim (behind i h) (stays i) (le-or-lt n i))
      where
        stays : (i : ℕ) → i < n → good (slot_at 0 width (journal_with width j n rs) i) ≡ true
        stays i h =
            ap good (stored-stay width j n rs i h ∙ sym (get_or-table n i (slot_at 0 width j) [] h))
            ∙ all-at good (table n (slot_at 0 width j)) i [] before (omega (arith, length-table n (slot_at 0 width j)))

        behind : (i : ℕ) → i < n + length rs → n ≤ i → good (slot_at 0 width (journal_with width j n rs) i) ≡ true
        behind i h le =
            let at : i ≡ n + (i - n) = omega arith in
            let own : i - n < length rs = omega arith in
            ap good (ap (slot_at 0 width (journal_with width j n rs)) at ∙ stored-new width j n rs (i - n) short room own) ∙ new (i - n) own
