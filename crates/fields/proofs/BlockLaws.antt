-- The block rule on numbers: a loop that takes the last digit from both until they are equal but for the last. Assumes nothing.
use Prim.Native.Nat.{ℕ, zero, suc, ◌+◌, ◌-◌, ◌/◌, ◌%◌, ◌<◌, ◌≤◌}
use native.Mathlib.Omega.{arith}
use mathlib.Core.Path.{◌≡◌, refl, sym, ap, ap₂, ◌∙◌}
use mathlib.Core.Bool.{Bool, true, false, ◌&&◌, and-false}
use mathlib.Core.List.{[]}
use lib.Dec.{leb, eqb}
use lib.ListN.{length, get_or, take, drop}
use lib.Seq.{take_at, drop_at, get_or_at}
use borrow.Author.Tests.{eq-eqb, ne_eqb, eqb-true, eqb-false, le-leb, lt-leb}
use Rattle.laws.specs.Lists.{all, any, table, same_lists}
use Rattle.laws.specs.Digits.{digits, down, spelt}
use mathlib.Core.Logic.{⊎_elim}
use Rattle.laws.proofs.Tests.{le-or-lt, eqb_refl}
use Rattle.laws.proofs.Same.{same-equal, same_refl}
use Rattle.laws.proofs.Tables.{any_none, any_next, any_here, any-stops, stays-false}
use Rattle.laws.proofs.Digits.{length_digits, digits_append, down-down, down-next, spelt-digits}
use Rattle.fields.specs.Block.{last_digits, without, is, ends_in, last_digit, nearly, decade_by, some_decade}

-- ---- the last n of k digits, and those before them
last_digits_lem : (n k a : ℕ) → n ≤ k → last_digits n (digits k a) ≡ digits n a
last_digits_lem n k a h =
    let e : k ≡ k - n + n = omega arith in
    ap (λ (j : ℕ). drop (j - n) (digits k a)) (length_digits k a)
    ∙ ap (drop (k - n)) (ap (λ (j : ℕ). digits j a) e ∙ digits_append (k - n) n a)
    ∙ drop_at (digits (k - n) (down n a)) (digits n a) (k - n) (length_digits (k - n) (down n a))

first-digits : (n k a : ℕ) → n ≤ k → without n (digits k a) ≡ digits (k - n) (down n a)
first-digits n k a h =
    let e : k ≡ k - n + n = omega arith in
    ap (λ (j : ℕ). take (j - n) (digits k a)) (length_digits k a)
    ∙ ap (take (k - n)) (ap (λ (j : ℕ). digits j a) e ∙ digits_append (k - n) n a)
    ∙ take_at (digits (k - n) (down n a)) (digits n a) (k - n) (length_digits (k - n) (down n a))

-- one more of the last digits
all-next-digit : (d n a : ℕ) → all (is d) (digits (n + 1) a) ≡ (eqb (48 + down n a % 10) d && all (is d) (digits n a))
unfolding all is digits
all-next-digit d n a = let e : n + 1 ≡ 1 + n = omega arith in ap (λ (j : ℕ). all (is d) (digits j a)) e ∙ ap (all (is d)) (digits_append 1 n a)

-- ---- `nearly` on numbers
same_digits : (i x y : ℕ) → down i x ≡ down i y → same_lists eqb (digits i x) (digits i y) ≡ eqb x y
same_digits i x y h = go (same_lists eqb (digits i x) (digits i y)) (eqb x y) refl refl
  where
    go : (s t : Bool) → same_lists eqb (digits i x) (digits i y) ≡ s → eqb x y ≡ t → s ≡ t
    go true true p q = refl
    go false false p q = refl
    go true false p q = absurd (eqb-false x y q (sym (spelt-digits i x) ∙ ap₂ spelt h (same-equal eqb eqb-true (digits i x) (digits i y) p) ∙ spelt-digits i y))
    go false true p q =
        let e : x ≡ y = eqb-true x y q in
        sym p ∙ ap (λ (z : ℕ). same_lists eqb (digits i x) (digits i z)) (sym e) ∙ same_refl eqb eqb_refl (digits i x)

last_of : (i x : ℕ) → last_digit (digits (suc i) x) ≡ 48 + x % 10
unfolding digits
last_of i x =
    let l : length (digits (suc i) x) - 1 ≡ i = omega (arith, length_digits (suc i) x) in
    ap (λ (j : ℕ). get_or (digits (suc i) x) j 48) l
    ∙ get_or_at (digits i (x / 10)) (48 + x % 10) [] 48 i (length_digits i (x / 10))

last-test : (x y : ℕ) → (eqb (x / 10) (y / 10) && leb (48 + x % 10) (48 + y % 10)) ≡ (eqb (x / 10) (y / 10) && leb x y)
last-test x y = go (eqb (x / 10) (y / 10)) refl
  where
    go : (t : Bool) → eqb (x / 10) (y / 10) ≡ t → (t && leb (48 + x % 10) (48 + y % 10)) ≡ (t && leb x y)
    go false e = refl
    go true e =
        let q : x / 10 ≡ y / 10 = eqb-true (x / 10) (y / 10) e in
        ⊎_elim
        (λ (h : x ≤ y). rw (le-leb x y h, le-leb (48 + x % 10) (48 + y % 10) (omega arith)))
        (λ (h : y < x). rw (lt-leb x y h, lt-leb (48 + x % 10) (48 + y % 10) (omega arith)))
        (le-or-lt x y)

nearly-digits : (j x y : ℕ) → down j x ≡ down j y → nearly (digits j x) (digits j y) ≡ (eqb (x / 10) (y / 10) && leb x y)
unfolding nearly digits down same_lists
nearly-digits zero x y h = rw (h, eq-eqb (y / 10) (y / 10) refl, le-leb y y (omega arith))
nearly-digits (suc i) x y h =
    ap₂ ◌&&◌
    (ap₂ (same_lists eqb) (front x) (front y) ∙ same_digits i (x / 10) (y / 10) h)
    (ap₂ leb (last_of i x) (last_of i y))
    ∙ last-test x y
  where
    front : (z : ℕ) → without 1 (digits (suc i) z) ≡ digits i (z / 10)
    front z = let e : suc i - 1 ≡ i = omega arith in first-digits 1 (suc i) z (omega arith) ∙ ap (λ (j : ℕ). digits j (z / 10)) e

-- ---- the loop
-- n digits have been taken from a, which left x, and from b, which left y
pub record Turn (k a b x y n : ℕ) : Type 0 where
  pub within : n ≤ k
  pub left : x ≡ down n a
  pub right : y ≡ down n b
  pub zeros : all (is 48) (digits n a) ≡ true
  pub nines : all (is 57) (digits n b) ≡ true
  pub nothing : any (decade_by (digits k a) (digits k b)) (table n suc) ≡ false

pub turn-first : (k a b : ℕ) → Turn k a b a b 0
unfolding down digits all
turn-first k a b = record { within = omega arith; left = refl; right = refl; zeros = refl; nines = refl; nothing = any_none (decade_by (digits k a) (digits k b)) suc }

some_of : (k a b : ℕ) → some_decade (digits k a) (digits k b) ≡ any (decade_by (digits k a) (digits k b)) (table k suc)
unfolding some_decade
some_of k a b = ap (λ (j : ℕ). any (decade_by (digits k a) (digits k b)) (table j suc)) (length_digits k a)

-- a digit that is not d stays among the last ones
never : (d n a m : ℕ) → (48 + down n a % 10 ≡ d → ⊥) → n < m → all (is d) (digits m a) ≡ false
never d n a m other h =
    let step : (i : ℕ) → all (is d) (digits i a) ≡ false → all (is d) (digits (i + 1) a) ≡ false = λ i e. all-next-digit d i a ∙ rw e (and-false (eqb (48 + down i a % 10) d)) in
    stays-false (λ (i : ℕ). all (is d) (digits i a)) step (n + 1) m (omega arith) (all-next-digit d n a ∙ rw (ne_eqb (48 + down n a % 10) d other))

module _ {k a b x y n : ℕ} (t : Turn k a b x y n) where
  pub turn_end : k ≤ n → false ≡ some_decade (digits k a) (digits k b)
  turn_end h =
      let e : n ≡ k = omega (arith, t.within) in
      sym (some_of k a b ∙ ap (λ (j : ℕ). any (decade_by (digits k a) (digits k b)) (table j suc)) (sym e) ∙ t.nothing)

  -- the digit is no zero, or no nine: nor will it be
  pub turn-no-zero : n < k → (x % 10 ≡ 0 → ⊥) → false ≡ some_decade (digits k a) (digits k b)
  unfolding decade_by
  turn-no-zero h other =
      let far : (i : ℕ) → n ≤ i → i < k → decade_by (digits k a) (digits k b) (suc i) ≡ false = λ i p q. rw (last_digits_lem (suc i) k a (omega arith), never 48 n a (suc i) (λ e. other (omega (arith, t.left))) (omega arith)) in
      sym (some_of k a b ∙ any-stops (decade_by (digits k a) (digits k b)) n k suc t.within t.nothing far)

  pub turn-no-nine : n < k → (y % 10 ≡ 9 → ⊥) → false ≡ some_decade (digits k a) (digits k b)
  unfolding decade_by
  turn-no-nine h other =
      let far : (i : ℕ) → n ≤ i → i < k → decade_by (digits k a) (digits k b) (suc i) ≡ false = λ i p q. rw (last_digits_lem (suc i) k b (omega arith), never 57 n b (suc i) (λ e. other (omega (arith, t.right))) (omega arith)) (and-false (ends_in 48 (suc i) (digits k a))) in
      sym (some_of k a b ∙ any-stops (decade_by (digits k a) (digits k b)) n k suc t.within t.nothing far)

  module _ (heads : (down k a ≡ 1) × (down k b ≡ 1)) (h : n < k) (zero-here : x % 10 ≡ 0) (nine-here : y % 10 ≡ 9) where
    more-zeros : all (is 48) (digits (n + 1) a) ≡ true
    more-zeros = all-next-digit 48 n a ∙ rw (eq-eqb (48 + down n a % 10) 48 (omega (arith, t.left)), t.zeros)

    more-nines : all (is 57) (digits (n + 1) b) ≡ true
    more-nines = all-next-digit 57 n b ∙ rw (eq-eqb (48 + down n b % 10) 57 (omega (arith, t.right)), t.nines)

    here : decade_by (digits k a) (digits k b) (suc n) ≡ (eqb (x / 10 / 10) (y / 10 / 10) && leb (x / 10) (y / 10))
    unfolding decade_by
    here =
        let e : suc n ≡ n + 1 = omega arith in
        let w : suc n ≤ k = h in
        let j : k - suc n + suc n ≡ k = omega arith in
        let da : down (suc n) a ≡ x / 10 = ap (λ (i : ℕ). down i a) e ∙ down-next n a ∙ ap (λ (z : ℕ). z / 10) (sym t.left) in
        let db : down (suc n) b ≡ y / 10 = ap (λ (i : ℕ). down i b) e ∙ down-next n b ∙ ap (λ (z : ℕ). z / 10) (sym t.right) in
        let heads-same : down (k - suc n) (x / 10) ≡ down (k - suc n) (y / 10) =
        ap (down (k - suc n)) (sym da) ∙ down-down (k - suc n) (suc n) a ∙ ap (λ (i : ℕ). down i a) j ∙ heads.0 ∙ sym heads.1 ∙ ap (λ (i : ℕ). down i b) (sym j) ∙ sym (down-down (k - suc n) (suc n) b) ∙ ap (down (k - suc n)) db in
        ap₂ ◌&&◌ (ap (all (is 48)) (last_digits_lem (suc n) k a w ∙ ap (λ (i : ℕ). digits i a) e) ∙ more-zeros)
        (ap₂ ◌&&◌ (ap (all (is 57)) (last_digits_lem (suc n) k b w ∙ ap (λ (i : ℕ). digits i b) e) ∙ more-nines)
        (ap₂ nearly (first-digits (suc n) k a w ∙ ap (digits (k - suc n)) da) (first-digits (suc n) k b w ∙ ap (digits (k - suc n)) db) ∙ nearly-digits (k - suc n) (x / 10) (y / 10) heads-same))

    pub turn-found : (eqb (x / 10 / 10) (y / 10 / 10) && leb (x / 10) (y / 10)) ≡ true → true ≡ some_decade (digits k a) (digits k b)
    turn-found p = sym (some_of k a b ∙ any_here (decade_by (digits k a) (digits k b)) k n suc h (here ∙ p))

    pub turn_on : (eqb (x / 10 / 10) (y / 10 / 10) && leb (x / 10) (y / 10)) ≡ false → Turn k a b (x / 10) (y / 10) (n + 1)
    turn_on p =
        record {
          within = omega arith;
          left = ap (λ (z : ℕ). z / 10) t.left ∙ sym (down-next n a);
          right = ap (λ (z : ℕ). z / 10) t.right ∙ sym (down-next n b);
          zeros = more-zeros;
          nines = more-nines;
          nothing = any_next (decade_by (digits k a) (digits k b)) n suc t.nothing (here ∙ p);
        }

-- what the loop needs
pub ruleset turns = (turn-first, turn_end, turn-no-zero, turn-no-nine, turn-found, turn_on)
