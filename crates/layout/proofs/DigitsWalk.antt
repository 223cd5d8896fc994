-- The digits of a field passed once: what they are worth so far and what is left of the line say what the field reads as. Assumes nothing.
use Rattle.std.specs.Prelude.{Option, Some, None}
use Rattle.std.specs.Prelude.{Some, None}
use Prim.Native.Nat.{ℕ, suc, ◌+◌, ◌-◌, ◌*◌, ◌<◌, ◌≤◌}
use native.Mathlib.Nat.{add-zero}
use native.Mathlib.Numerals.{add-one}
use native.Mathlib.Omega.{arith}
use mathlib.Core.Path.{◌≡◌, refl, sym, ap, ◌∙◌}
use mathlib.Core.Bool.{Bool, true, false, cond}
use mathlib.Core.Logic.{⊎_elim}
use mathlib.Core.List.{List, ◌∷◌}
use lib.Dec.{ltb, leb-suc-suc}
use lib.ListN.{length, get_or, take, drop, length-drop, drop_of_length-le}
use lib.Seq.{drop-cons, length-take-le}
use borrow.Author.Tests.{lt-ltb, le-ltb, le-leb, lt-leb, eq-eqb, ne_eqb}
use Rattle.laws.specs.Lists.{all, first_at}
use Rattle.laws.specs.Digits.{is_digit, spelt}
use Rattle.laws.specs.Split.{between, is_sep, end_of}
use Rattle.laws.proofs.Loops.{first-here}
use Rattle.laws.proofs.Tests.{le-or-lt}
use Rattle.text.specs.Spelt.{spells, digits_of}
use Rattle.fields.specs.declared.number.Digits.{Digits}
use Rattle.fields.specs.Number.{digits_from, digits_field_of, number_of}
use Rattle.layout.specs.Walk.{reach_of, then_next, found_at}
use Rattle.layout.proofs.WalkLaws.{end-from, found-none, found-some}

-- how far the first comma is
abbrev comma : List ℕ → ℕ
comma g = first_at (is_sep 44) g

-- what a field reads as of which digits worth n lie before the place k, g follows, and the comma is one of the first m bytes of g
unfoldable pub found : ℕ → ℕ → ℕ → List ℕ → Option (Digits × ℕ)
found m n k g = cond (ltb (comma g) (length g)) (then_next (cond (ltb (comma g) m) (digits_from (spells n (take (comma g) g))) None) (k + comma g + 1)) None

-- ---- the next byte
module _ (m n k b : ℕ) (t : List ℕ) where
  comma-on : (b ≡ 44 → ⊥) → comma (b ∷ t) ≡ suc (comma t)
  unfolding is_sep
  comma-on h = rw (ne_eqb b 44 h)

  comma-here : b ≡ 44 → comma (b ∷ t) ≡ 0
  unfolding is_sep
  comma-here h = rw (eq-eqb b 44 h)

  next-comma : b ≡ 44 → found (suc m) n k (b ∷ t) ≡ Some ((record { 0 = n }), (k + 1))
  unfolding found spells all spelt digits_from
  next-comma h = rw (comma-here h, lt-ltb 0 (length (b ∷ t)) (omega arith), lt-ltb 0 (suc m) (omega arith), add-zero)

  next-digit : 48 ≤ b → b ≤ 57 → found (suc m) n k (b ∷ t) ≡ found m (n * 10 + (b - 48)) (k + 1) t
  unfolding found spells all is_digit spelt
  next-digit low high =
      let place : k + suc (comma t) + 1 ≡ k + 1 + comma t + 1 = omega arith in
      rw (comma-on (λ e. omega arith), leb-suc-suc (suc (comma t)) (length t), leb-suc-suc (suc (comma t)) m, le-leb 48 b low, le-leb b 57 high, place)

-- neither a digit nor the comma: a fault, however far the comma is
fault-in : (far near : Bool) (next : ℕ) → cond far (then_next {A = Digits} (cond near None None) next) None ≡ None
fault-in true true next = refl
fault-in true false next = refl
fault-in false near next = refl

module _ (m n k b : ℕ) (t : List ℕ) where
  next-other : is_digit b ≡ false → (b ≡ 44 → ⊥) → found m n k (b ∷ t) ≡ None
  unfolding found spells all digits_from
  next-other other h = rw (comma-on m n k b t h, other) (fault-in (ltb (suc (comma t)) (suc (length t))) (ltb (suc (comma t)) m) (k + suc (comma t) + 1))

-- ---- the same at a place of a line
module _ (s : List ℕ) (m n i : ℕ) (h : i < length s) where
  pub found-comma : get_or s i 0 ≡ 44 → found (suc m) n i (drop i s) ≡ Some ((record { 0 = n }), (i + 1))
  found-comma e = ap (found (suc m) n i) (drop-cons s i 0 h) ∙ next-comma m n i (get_or s i 0) (drop (suc i) s) e

  pub found-digit : 48 ≤ get_or s i 0 → get_or s i 0 ≤ 57 → found (suc m) n i (drop i s) ≡ found m (n * 10 + (get_or s i 0 - 48)) (i + 1) (drop (i + 1) s)
  found-digit low high =
      ap (found (suc m) n i) (drop-cons s i 0 h)
      ∙ next-digit m n i (get_or s i 0) (drop (suc i) s) low high
      ∙ ap (λ (j : ℕ). found m (n * 10 + (get_or s i 0 - 48)) (i + 1) (drop j s)) (sym (add-one i))

  pub found-low : get_or s i 0 < 48 → (get_or s i 0 ≡ 44 → ⊥) → found m n i (drop i s) ≡ None
  unfolding is_digit
  found-low low ne = ap (found m n i) (drop-cons s i 0 h) ∙ next-other m n i (get_or s i 0) (drop (suc i) s) (rw (lt-leb 48 (get_or s i 0) low)) ne

  pub found-high : 57 < get_or s i 0 → found m n i (drop i s) ≡ None
  unfolding is_digit
  found-high high =
      ap (found m n i) (drop-cons s i 0 h)
      ∙ next-other m n i (get_or s i 0) (drop (suc i) s) (rw (le-leb 48 (get_or s i 0) (omega arith), lt-leb (get_or s i 0) 57 high)) (λ e. omega arith)

-- ---- no byte is left, or none that the comma could be
pub found_none : (s : List ℕ) (m n i : ℕ) → length s ≤ i → found m n i (drop i s) ≡ None
unfolding found
found_none s m n i h = rw (drop_of_length-le s h)

pub found-late : (n k : ℕ) (g : List ℕ) → found 0 n k g ≡ None
unfolding found
found-late n k g = rw (le-ltb (comma g) 0 (omega arith)) (fault-in (ltb (comma g) (length g)) true (k + comma g + 1))

-- ---- before the first byte: at most 11 digits come before the comma
module _ (s : List ℕ) (at : ℕ) where
  field_found : comma (drop at s) < length (drop at s) → digits_field_of (between s at (end_of 44 s at)) ≡ cond (ltb (comma (drop at s)) 12) (digits_from (spells 1 (take (comma (drop at s)) (drop at s)))) None
  unfolding end_of digits_field_of digits_of
  field_found h =
      let j : ℕ = comma (drop at s) in
      let e : at + j - at ≡ j = omega arith in
      let l : length (take j (drop at s)) ≡ j = length-take-le j (drop at s) (omega arith) in
      ⊎_elim
      (λ (k : j ≤ 11). rw (e, l, le-leb j 11 k, le-leb j 18 (omega arith), lt-ltb j 12 (omega arith)))
      (λ (k : 11 < j). rw (e, l, lt-leb j 11 k, le-ltb j 12 (omega arith)))
      (le-or-lt j 11)

  pub found_first : found_at digits_field_of s at ≡ found 12 1 at (drop at s)
  unfolding found end_of
  found_first =
      let j : ℕ = comma (drop at s) in
      ⊎_elim
      (λ (h : length (drop at s) ≤ j). found-none digits_field_of s at (at + j) refl (omega (arith, length-drop at s)) ∙ rw (le-ltb j (length (drop at s)) h))
      (λ (h : j < length (drop at s)). found-some digits_field_of s at (at + j) refl (omega (arith, length-drop at s)) (field_found h) ∙ rw (lt-ltb j (length (drop at s)) h))
      (le-or-lt (length (drop at s)) j)

  -- how far it is looked for
  pub reach-within : reach_of s at ≤ length s
  unfolding reach_of
  reach-within = ⊎_elim (λ (h : length s ≤ at + 12). rw (le-leb (length s) (at + 12) h) (omega arith)) (λ (h : at + 12 < length s). rw (lt-leb (length s) (at + 12) h) (omega arith)) (le-or-lt (length s) (at + 12))

  pub reach-twelve : reach_of s at ≤ at + 12
  unfolding reach_of
  reach-twelve = ⊎_elim (λ (h : length s ≤ at + 12). rw (le-leb (length s) (at + 12) h) (omega arith)) (λ (h : at + 12 < length s). rw (lt-leb (length s) (at + 12) h) (omega arith)) (le-or-lt (length s) (at + 12))

  -- and nothing is found behind that
  pub found-beyond : (n i : ℕ) → reach_of s at ≤ i → found (at + 12 - i) n i (drop i s) ≡ None
  unfolding reach_of
  found-beyond n i h =
      ⊎_elim
      (λ (l : length s ≤ at + 12). found_none s (at + 12 - i) n i (rw (le-leb (length s) (at + 12) l) at h))
      (λ (l : at + 12 < length s).
      let z : at + 12 - i ≡ 0 = omega (arith, rw (lt-leb (length s) (at + 12) l) at h) in
      ap (λ (m : ℕ). found m n i (drop i s)) z ∙ found-late n i (drop i s))
      (le-or-lt (length s) (at + 12))

-- ---- the second field: empty, or past the end of the line
module _ (first : Digits) (s : List ℕ) (at : ℕ) where
  pub number-empty : at < length s → get_or s at 0 ≡ 44 → found_at (number_of first) s at ≡ Some ((record { first = first; last = record { 0 = 1 } }), (at + 1))
  unfolding end_of is_sep number_of
  number-empty h e =
      let here : at ≡ at + comma (drop at s) = sym (first-here (is_sep 44) 0 s at h (eq-eqb (get_or s at 0) 44 e)) in
      let none : at - at ≡ 0 = omega arith in
      found-some (number_of first) s at at here h {r = Some (record { first = first; last = record { 0 = 1 } })} (rw none refl)

  pub number-beyond : length s ≤ at → found_at (number_of first) s at ≡ None
  number-beyond h = found-none (number_of first) s at (end_of 44 s at) refl (omega (arith, end-from s at))

pub ruleset second_ones = (number-empty, number-beyond, found-none, found-some, end-from)
