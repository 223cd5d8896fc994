-- The number: which way its tests go, and that reading and writing undo each other. Assumes nothing.
use Rattle.std.specs.Prelude.{Option, Some, None}
use Prim.Native.Nat.{ℕ, ◌+◌, ◌-◌, ◌≤◌}
use native.Mathlib.Nat.{zero-add}
use native.Mathlib.Omega.{arith}
use mathlib.Core.Path.{◌≡◌, refl, sym, ap, ap₂, ◌∙◌}
use mathlib.Core.Bool.{Bool, true, false, cond, and-false}
use mathlib.Core.List.{List, [], ◌∷◌}
use lib.Dec.{leb, eqb}
use lib.ListN.{length}
use borrow.Author.Tests.{leb-true, le-leb, eqb-true, eqb-false, ne_eqb, eq-eqb}
use Rattle.laws.specs.Digits.{digits, down, spelt, size_of, all_digits}
use Rattle.laws.proofs.Tests.{and_left, and_right, and-true, eqb_refl}
use Rattle.laws.proofs.Digits.{length_digits, all_digits_lem, spelt-digits, digits-spelt, size_none, size-spelt, down-spelt}
use Rattle.text.specs.Spelt.{digits_of}
use Rattle.text.proofs.Spelling.{value_of, value-inv}
use Rattle.fields.specs.declared.number.Digits.{Digits}
use Rattle.fields.specs.declared.number.Number.{Number}
use Rattle.fields.specs.Field.{Trips}
use Rattle.fields.specs.Block.{some_decade, block}
use Rattle.fields.specs.Number.{digits_from, digits_field_of, digits_size, digits_fits, digits_text, is_empty, block_fits, number_from, number_of, number_fits, same_number}

pub length-field : (d : Digits) → length (digits_text d) ≡ digits_size d
length-field d = length_digits (digits_size d) d.0

-- ---- what a field that fits is
module _ (d : Digits) (p : digits_fits d ≡ true) where
  pub fits-size : digits_size d ≤ 11
  unfolding digits_fits
  fits-size = leb-true (digits_size d) 11 (and_left (leb (digits_size d) 11) (eqb (down (digits_size d) d.0) 1) p)

  pub fits-leads : down (digits_size d) d.0 ≡ 1
  unfolding digits_fits
  fits-leads = eqb-true (down (digits_size d) d.0) 1 (and_right (leb (digits_size d) 11) (eqb (down (digits_size d) d.0) 1) p)

  -- what was written is read back
  pub digits-trip : digits_field_of (digits_text d) ≡ Some d
  unfolding digits_field_of digits_from
  digits-trip =
      let short : length (digits_text d) ≤ 18 = rw (length-field d) (omega (arith, fits-size)) in
      let value : digits_of true (digits_text d) ≡ Some d.0 =
      value_of true (digits_text d) short (all_digits_lem (digits_size d) d.0) ∙ ap Some (rw fits-leads at (spelt-digits (digits_size d) d.0)) in
      rw (length-field d, le-leb (digits_size d) 11 fits-size, value)

-- ---- which way `block_fits` goes
module _ (first last : Digits) where
  pub block-first : digits_fits first ≡ false → block_fits first last ≡ false
  unfolding block_fits
  block-first p = rw p

  pub block-unfit : digits_fits last ≡ false → block_fits first last ≡ false
  unfolding block_fits
  block-unfit q = rw q (and-false (digits_fits first))

  module _ (p : digits_fits first ≡ true) where
    module _ (q : digits_fits last ≡ true) where
      pub block-sizes : (digits_size first ≡ digits_size last → ⊥) → block_fits first last ≡ false
      unfolding block_fits block
      block-sizes n = rw (p, q, length-field first, length-field last, ne_eqb (digits_size first) (digits_size last) n)

      pub block-decades : digits_size first ≡ digits_size last → block_fits first last ≡ some_decade (digits (digits_size first) first.0) (digits (digits_size first) last.0)
      unfolding block_fits block
      block-decades e = rw (p, q, length-field first, length-field last, eq-eqb (digits_size first) (digits_size last) e) (ap (λ (k : ℕ). some_decade (digits_text first) (digits k last.0)) (sym e))

-- ---- what a field that was read holds
read_whole : (f : List ℕ) (x : ℕ) → length f ≤ 11 → all_digits f ≡ true → spelt 1 f ≡ x → (digits_text (record { 0 = x }) ≡ f) × (digits_fits (record { 0 = x }) ≡ true)
unfolding digits digits_fits
read_whole f x l p e =
    let room : 12 - length f + length f ≡ 12 = omega arith in
    let counted = size-spelt f (12 - length f) 1 p (omega arith) in
    let none = size_none (12 - length f) 1 (omega arith) in
    let size : size_of 12 x ≡ length f = omega (arith, rw (room, e, none) at counted) in
    let text : digits (size_of 12 x) x ≡ f = ap₂ digits size (sym e) ∙ rw zero-add at (digits-spelt f 0 1 p) in
    let leads : down (size_of 12 x) x ≡ 1 = rw (size, ← e) (down-spelt f 1 p) in
    (text, and-true _ _ (le-leb (size_of 12 x) 11 (omega arith)) (eq-eqb (down (size_of 12 x) x) 1 leads))

pub digits-back : (f : List ℕ) (d : Digits) → digits_field_of f ≡ Some d → (digits_text d ≡ f) × (digits_fits d ≡ true)
unfolding digits_field_of digits_from
digits-back f d h = go (leb (length f) 11) refl (digits_of true f) refl h
  where
    whole : (x : ℕ) → length f ≤ 11 → digits_of true f ≡ Some x → (digits_text (record { 0 = x }) ≡ f) × (digits_fits (record { 0 = x }) ≡ true)
    whole x l q =
        let w = value-inv true f x q in
        read_whole f x l w.0 w.1

    go : (t : Bool) → leb (length f) 11 ≡ t → (v : Option ℕ) → digits_of true f ≡ v → cond t (digits_from v) None ≡ Some d → (digits_text d ≡ f) × (digits_fits d ≡ true)
    go true p (Some x) q e =
        let same : ◌≡◌ {A = Digits} (record { 0 = x }) d = cc in
        rw (← same) (whole x (leb-true (length f) 11 p) q)
    go true p None q e = absurd (let z : ◌≡◌ {A = ℕ} 0 1 = cc in omega arith)
    go false p v q e = absurd (let z : ◌≡◌ {A = ℕ} 0 1 = cc in omega arith)

pub digits-trips : Trips digits_field_of digits_fits digits_text
digits-trips = record { trip = digits-trip; back = digits-back }

pub digits-counted : (f : List ℕ) (d : Digits) → digits_field_of f ≡ Some d → digits_size d ≡ length f
digits-counted f d h = sym (length-field d) ∙ ap length (digits-back f d h).0

-- a 1 before k digits
lead-fits : (d : Digits) (k : ℕ) → k ≤ 11 → down k d.0 ≡ 1 → (digits_fits d ≡ true) × (digits_size d ≡ k)
lead-fits d k l e =
    let whole = read_whole (digits k d.0) d.0 (omega (arith, length_digits k d.0)) (all_digits_lem k d.0) (rw e at (spelt-digits k d.0)) in
    (whole.1, sym (length-field d) ∙ ap length whole.0 ∙ length_digits k d.0)

-- a block whose last field has k digits
module _ (first last : Digits) (k : ℕ) (q : digits_fits last ≡ true) (size : digits_size last ≡ k) where
  pub lead-none : (down k first.0 ≡ 1 → ⊥) → block_fits first last ≡ false
  lead-none n = go (digits_fits first) refl
    where
      go : (t : Bool) → digits_fits first ≡ t → block_fits first last ≡ false
      go true p = block-sizes first last p q (λ e. n (rw (e ∙ size) at (fits-leads first p)))
      go false p = block-first first last p

  pub lead-decades : down k first.0 ≡ 1 → block_fits first last ≡ some_decade (digits k first.0) (digits k last.0)
  lead-decades e =
      let w = lead-fits first k (omega (arith, fits-size last q)) e in
      block-decades first last w.0 q (w.1 ∙ sym size) ∙ rw w.1

-- ---- both fields
empty-text : digits_text (record { 0 = 1 }) ≡ []
unfolding digits size_of
empty-text = refl

-- a field that fits and is not empty has digits
pub size-some : (d : Digits) → digits_fits d ≡ true → is_empty d ≡ false → digits_size d ≡ 0 → ⊥
unfolding down
size-some d p e z = eqb-false d.0 1 e (rw z at (fits-leads d p))

module _ (n : Number) (p : number_fits n ≡ true) where
  -- the first field of a number that fits, and of a block both
  pub first_fits : digits_fits n.first ≡ true
  unfolding number_fits block_fits
  first_fits = go (is_empty n.last) p
    where
      go : (t : Bool) → cond t (digits_fits n.first) (block_fits n.first n.last) ≡ true → digits_fits n.first ≡ true
      go true q = q
      go false q = and_left (digits_fits n.first) _ q

  block-whole : is_empty n.last ≡ false → block_fits n.first n.last ≡ true
  unfolding number_fits
  block-whole e = rw e at p

  block-ends : is_empty n.last ≡ false → digits_fits n.last ≡ true
  unfolding block_fits
  block-ends e = and_left (digits_fits n.last) _ (and_right (digits_fits n.first) _ (block-whole e))

  pub last_fits : digits_fits n.last ≡ true
  unfolding digits_fits down size_of
  last_fits = go (is_empty n.last) refl
    where
      go : (t : Bool) → is_empty n.last ≡ t → digits_fits n.last ≡ true
      go true e = ap (λ (k : ℕ). digits_fits (record { 0 = k })) (eqb-true n.last.0 1 e)
      go false e = block-ends e

  pub last-size : digits_size n.last ≤ 11
  last-size = go (is_empty n.last) refl
    where
      go : (t : Bool) → is_empty n.last ≡ t → digits_size n.last ≤ 11
      go true e =
          let one : n.last.0 ≡ 1 = eqb-true n.last.0 1 e in
          omega (arith, size_none 12 n.last.0 (omega arith))
      go false e = fits-size n.last (block-ends e)

  -- what was written is read back
  pub number-trip : number_of n.first (digits_text n.last) ≡ Some n
  unfolding number_of number_from
  number-trip = go (is_empty n.last) refl
    where
      go : (t : Bool) → is_empty n.last ≡ t → number_of n.first (digits_text n.last) ≡ Some n
      go true e =
          let one : n.last.0 ≡ 1 = eqb-true n.last.0 1 e in
          ap (λ (k : ℕ). number_of n.first (digits_text (record { 0 = k }))) one
          ∙ ap (number_of n.first) empty-text
          ∙ ap (λ (k : ℕ). Some (record { first = n.first; last = record { 0 = k } })) (sym one)
      go false e =
          rw (length-field n.last, ne_eqb (digits_size n.last) 0 (size-some n.last (block-ends e) e))
          (ap (number_from n.first) (digits-trip n.last (block-ends e)) ∙ rw (block-whole e))

-- what was read is written again
pub number-back : (first : Digits) (f : List ℕ) (n : Number) → digits_fits first ≡ true → number_of first f ≡ Some n → (n.first ≡ first) × (digits_text n.last ≡ f) × (number_fits n ≡ true)
unfolding number_of number_from number_fits
number-back first [] n h e =
    let w : ◌≡◌ {A = Number} (record { first = first; last = record { 0 = 1 } }) n = cc in
    (ap (λ (m : Number). m.first) (sym w), ap (λ (m : Number). digits_text m.last) (sym w) ∙ empty-text, ap number_fits (sym w) ∙ h)
number-back first (b ∷ f) n h e = go (digits_field_of (b ∷ f)) refl (rw (ne_eqb (length (b ∷ f)) 0 (λ z. omega arith)) at e)
  where
    fits : (last : Digits) (t : Bool) → is_empty last ≡ t → block_fits first last ≡ true → number_fits (record { first = first; last = last }) ≡ true
    fits last true p q = rw p h
    fits last false p q = rw p q

    block_read : (last : Digits) (t : Bool) → block_fits first last ≡ t → digits_field_of (b ∷ f) ≡ Some last → cond t (Some (record { first = first; last = last })) None ≡ Some n → (n.first ≡ first) × (digits_text n.last ≡ b ∷ f) × (number_fits n ≡ true)
    block_read last true p q e =
        let w : ◌≡◌ {A = Number} (record { first = first; last = last }) n = cc in
        (ap (λ (m : Number). m.first) (sym w), ap (λ (m : Number). digits_text m.last) (sym w) ∙ (digits-back (b ∷ f) last q).0, ap number_fits (sym w) ∙ fits last (is_empty last) refl p)
    block_read last false p q e = absurd (let z : ◌≡◌ {A = ℕ} 0 1 = cc in omega arith)

    go : (r : Option Digits) → digits_field_of (b ∷ f) ≡ r → number_from first r ≡ Some n → (n.first ≡ first) × (digits_text n.last ≡ b ∷ f) × (number_fits n ≡ true)
    go (Some last) q e = block_read last (block_fits first last) refl q e
    go None q e = absurd (let z : ◌≡◌ {A = ℕ} 0 1 = cc in omega arith)

-- ---- two numbers are the same exactly if their fields have the same digits, leading zeros counted
pub same_number_lem : (a b : Number) → same_number a b ≡ true → a ≡ b
unfolding same_number
same_number_lem a b p =
    let e : a.first.0 ≡ b.first.0 = eqb-true _ _ (and_left (eqb a.first.0 b.first.0) _ p) in
    let f : a.last.0 ≡ b.last.0 = eqb-true _ _ (and_right (eqb a.first.0 b.first.0) _ p) in
    λ k. record { first = record { 0 = e k }; last = record { 0 = f k } }

pub same-itself : (a : Number) → same_number a a ≡ true
unfolding same_number
same-itself a = and-true _ _ (eqb_refl a.first.0) (eqb_refl a.last.0)

-- the digits of the two fields that were read as a, and of those that were read as b
pub same-exactly : (f g f' g' : List ℕ) (a b : Number)
    → digits_field_of f ≡ Some a.first → number_of a.first g ≡ Some a
    → digits_field_of f' ≡ Some b.first → number_of b.first g' ≡ Some b
    → (same_number a b ≡ true → (f ≡ f') × (g ≡ g')) × ((f ≡ f') × (g ≡ g') → same_number a b ≡ true)
same-exactly f g f' g' a b p q p' q' = (
  λ s.
      let e = same_number_lem a b s in
      let x = digits-back f a.first p in
      let x' = digits-back f' b.first p' in (
        sym x.0 ∙ ap (λ (n : Number). digits_text n.first) e ∙ x'.0,
        sym (number-back a.first g a x.1 q).1 ∙ ap (λ (n : Number). digits_text n.last) e ∙ (number-back b.first g' b x'.1 q').1,
      ),
  λ both.
      let d : Some a.first ≡ Some b.first = sym p ∙ ap digits_field_of both.0 ∙ p' in
      let first : a.first ≡ b.first = cc in
      let m : Some a ≡ Some b = sym q ∙ ap₂ number_of first both.1 ∙ q' in
      let e : a ≡ b = cc in
      ap (λ (n : Number). same_number a n) (sym e) ∙ same-itself a,
)

-- what the functions on blocks need
pub ruleset number_blocks = (lead-none, lead-decades, block-unfit)
