-- The place in 12 bytes of a buffer, as the code reads and tests it. Assumes nothing.
use mathlib.Core.Path.{◌≡◌, refl, sym, ap, ◌∙◌}
use mathlib.Core.Bool.{Bool, true, false, cond}
use mathlib.Core.List.{List, [], ◌∷◌, ◌++◌}
use Prim.Native.Nat.{ℕ, ◌+◌, ◌-◌, ◌/◌, ◌%◌, ◌≤◌, ◌<◌}
use native.Mathlib.Nat.{add-zero}
use native.Mathlib.Omega.{arith}
use lib.Dec.{lit≤}
use lib.ListN.{length, take, drop, get_or, replicate}
use borrow.Author.Tests.{eq-eqb, ne_eqb, le-leb, lt-leb}
use Rattle.laws.specs.Lists.{all}
use Rattle.laws.specs.Overlay.{overlay, part}
use Rattle.laws.specs.Slots.{is_zero}
use Rattle.laws.specs.Words.{low_first, word_at}
use Rattle.laws.proofs.Words.{word-part}
use Rattle.store.proofs.slots.Widths.{word-one}
use Rattle.fields.specs.declared.kind.Kind.{Kind}
use Rattle.fields.specs.declared.kind.Kind.TheVariants.{P, L, Z}
use Rattle.entries.specs.declared.entry.Place.{Place}
use Rattle.entries.specs.Entry.{free_place}
use Rattle.entries.specs.Report.{kind_no}
use Rattle.store.specs.entry_slots.Places.{kind_of, place_slot, open_of, place_of, good_open, good_place}

part_cut : (s : List ℕ) (at n : ℕ) → part s at n ≡ take n (drop at s)
unfolding part
part_cut s at n = refl

module _ (s : List ℕ) (at k : ℕ) (fits : at + 12 ≤ length s) (first : k ≡ get_or s at 0) where
  first_byte : word_at 1 (part s at 12) 0 ≡ k
  first_byte = word-part 1 s at 12 0 (lit≤ tt) ∙ ap (word_at 1 s) (add-zero at) ∙ word-one s at (omega arith) ∙ sym first

  pub open_read : (kind : Kind) (date losing gaining day place : ℕ) → kind ≡ kind_of k → date ≡ word_at 2 s (at + 1) → losing ≡ word_at 2 s (at + 3)
      → gaining ≡ word_at 2 s (at + 5) → day ≡ word_at 2 s (at + 7) → place ≡ word_at 3 s (at + 9)
      → ◌≡◌ {A = Place} (record {
        taken = true;
        report = record { kind = kind; date = record { 0 = date }; losing = record { 0 = losing }; gaining = record { 0 = gaining } };
        day = record { 0 = day };
        at = place;
      }) (open_of (part s at 12))
  unfolding open_of
  open_read kind date losing gaining day place ek ea el eg ed ep =
      let k' : kind ≡ kind_of (word_at 1 (part s at 12) 0) = ek ∙ ap kind_of (sym first_byte) in
      let a' : date ≡ word_at 2 (part s at 12) 1 = ea ∙ sym (word-part 2 s at 12 1 (lit≤ tt)) in
      let l' : losing ≡ word_at 2 (part s at 12) 3 = el ∙ sym (word-part 2 s at 12 3 (lit≤ tt)) in
      let g' : gaining ≡ word_at 2 (part s at 12) 5 = eg ∙ sym (word-part 2 s at 12 5 (lit≤ tt)) in
      let d' : day ≡ word_at 2 (part s at 12) 7 = ed ∙ sym (word-part 2 s at 12 7 (lit≤ tt)) in
      let p' : place ≡ word_at 3 (part s at 12) 9 = ep ∙ sym (word-part 3 s at 12 9 (lit≤ tt)) in
      λ i. record {
        taken = true;
        report = record { kind = k' i; date = record { 0 = a' i }; losing = record { 0 = l' i }; gaining = record { 0 = g' i } };
        day = record { 0 = d' i };
        at = p' i;
      }

  pub place_free : k ≡ 0 → free_place ≡ place_of (part s at 12)
  unfolding place_of
  place_free e = rw (first_byte, eq-eqb k 0 e)

  pub place_open : (k ≡ 0 → ⊥) → open_of (part s at 12) ≡ place_of (part s at 12)
  unfolding place_of
  place_open n = rw (first_byte, ne_eqb k 0 n)

  pub good_free : k ≡ 0 → all is_zero (take (at + 12 - at) (drop at s)) ≡ good_place (part s at 12)
  unfolding good_place
  good_free e =
      let size : at + 12 - at ≡ 12 = omega arith in
      ap (λ (n : ℕ). all is_zero (take n (drop at s))) size ∙ ap (all is_zero) whole ∙ rw (first_byte, eq-eqb k 0 e)
    where
      whole : take 12 (drop at s) ≡ part s at 12
      whole = sym (part_cut s at 12)

  pub good_beyond : (k ≡ 0 → ⊥) → 3 < k → false ≡ good_place (part s at 12)
  unfolding good_place
  good_beyond n h = rw (first_byte, ne_eqb k 0 n, lt-leb k 3 h)

  pub good_taken : (k ≡ 0 → ⊥) → k ≤ 3 → good_open (open_of (part s at 12)) ≡ good_place (part s at 12)
  unfolding good_place
  good_taken n h = rw (first_byte, ne_eqb k 0 n, le-leb k 3 h)

-- ---- what the code writes
pub kind_small : (k : Kind) → kind_no k ≤ 2
kind_small P = lit≤ tt
kind_small L = lit≤ tt
kind_small Z = lit≤ tt

module _ (s : List ℕ) (at : ℕ) (p : Place) where
  pub put_free : p.taken ≡ false → overlay s at (replicate 12 0) ≡ overlay s at (place_slot p)
  unfolding place_slot
  put_free e = rw e

  pub put_open : (k : ℕ) → p.taken ≡ true → k ≡ kind_no p.report.kind
      → overlay s at ((1 + k)
      ∷ p.report.date.0 % 256
      ∷ p.report.date.0 / 256 % 256
      ∷ p.report.losing.0 % 256
      ∷ p.report.losing.0 / 256 % 256
      ∷ p.report.gaining.0 % 256
      ∷ p.report.gaining.0 / 256 % 256
      ∷ p.day.0 % 256
      ∷ p.day.0 / 256 % 256
      ∷ p.at % 256
      ∷ p.at / 256 % 256
      ∷ p.at / 256 / 256 % 256
      ∷ []) ≡ overlay s at (place_slot p)
  unfolding place_slot low_first
  put_open k e ek = rw (e, ek)

pub length-place : (p : Place) → length (place_slot p) ≡ 12
unfolding place_slot low_first
length-place p = go p.taken
  where
    go : (t : Bool) → length (cond t ((1 + kind_no p.report.kind)
        ∷ (low_first 2 p.report.date.0
        ++ (low_first 2 p.report.losing.0 ++ (low_first 2 p.report.gaining.0 ++ (low_first 2 p.day.0 ++ (low_first 3 p.at ++ [])))))) (replicate 12 0)) ≡ 12
    go true = refl
    go false = refl
