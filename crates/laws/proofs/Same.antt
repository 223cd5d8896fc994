-- Two lists compared place by place (`same_lists`). Assumes nothing.
--     same-equal, same_refl               the test of two elements is equality: so is that of two lists
--     same-long                           lists of two lengths differ
--     numbers-equal, numbers-refl         the case of numbers
--     same-on, same-failed, same-passed   a loop that compares from the front, with the invariant `same_lists t (drop i xs) (drop i ys) ≡ same_lists t xs ys`
use mathlib.Core.Path.{◌≡◌, refl, ap}
use mathlib.Core.Bool.{Bool, true, false, ◌&&◌}
use mathlib.Core.List.{List, [], ◌∷◌}
use Prim.Native.Nat.{ℕ, suc, ◌+◌, ◌≤◌, ◌<◌}
use native.Mathlib.Numerals.{add-one}
use lib.ListN.{length, get_or, drop, drop_of_length-le}
use lib.Seq.{drop-cons}
use lib.Dec.{eqb}
use borrow.Author.Tests.{eqb-true}
use Rattle.laws.specs.Lists.{same_lists}
use Rattle.laws.proofs.Tests.{and_left, and_right, and-true, eqb_refl}

module _ {A : Type 0} (same : A → A → Bool) where
  pub same-equal : ((x y : A) → same x y ≡ true → x ≡ y) → (xs ys : List A) → same_lists same xs ys ≡ true → xs ≡ ys
  unfolding same_lists
  same-equal h [] [] e = refl
  same-equal h [] (y ∷ ys) e = cc
  same-equal h (x ∷ xs) [] e = cc
  same-equal h (x ∷ xs) (y ∷ ys) e =
      λ k. h x y (and_left (same x y) (same_lists same xs ys) e) k ∷ same-equal h xs ys (and_right (same x y) (same_lists same xs ys) e) k

  pub same_refl : ((x : A) → same x x ≡ true) → (xs : List A) → same_lists same xs xs ≡ true
  unfolding same_lists
  same_refl h [] = refl
  same_refl h (x ∷ xs) = and-true (same x x) (same_lists same xs xs) (h x) (same_refl h xs)

  -- lists of two lengths differ
  pub same-long : (xs ys : List A) → (length xs ≡ length ys → ⊥) → same_lists same xs ys ≡ false
  unfolding same_lists
  same-long [] [] n = absurd (n refl)
  same-long [] (y ∷ ys) n = refl
  same-long (x ∷ xs) [] n = refl
  same-long (x ∷ xs) (y ∷ ys) n = go (same x y) (same-long xs ys (λ e. n (ap suc e)))
    where
      go : (t : Bool) → same_lists same xs ys ≡ false → (t && same_lists same xs ys) ≡ false
      go true e = e
      go false e = refl

  module _ (d : A) (xs ys : List A) (i : ℕ) where
    step : i < length xs → i < length ys → same_lists same (drop i xs) (drop i ys) ≡ same_lists same (get_or xs i d ∷ drop (i + 1) xs) (get_or ys i d ∷ drop (i + 1) ys)
    step h k = rw (add-one, drop-cons xs i d h, drop-cons ys i d k)

    pub same-on : i < length xs → i < length ys → same (get_or xs i d) (get_or ys i d) ≡ true → same_lists same (drop i xs) (drop i ys) ≡ same_lists same xs ys → same_lists same (drop (i + 1) xs) (drop (i + 1) ys) ≡ same_lists same xs ys
    unfolding same_lists
    same-on h k e inv = rw (step h k, e) at inv

    pub same-failed : i < length xs → i < length ys → same (get_or xs i d) (get_or ys i d) ≡ false → same_lists same (drop i xs) (drop i ys) ≡ same_lists same xs ys → false ≡ same_lists same xs ys
    unfolding same_lists
    same-failed h k e inv = rw (step h k, e) at inv

    pub same-passed : length xs ≤ i → length ys ≤ i → same_lists same (drop i xs) (drop i ys) ≡ same_lists same xs ys → true ≡ same_lists same xs ys
    unfolding same_lists
    same-passed h k inv = rw (drop_of_length-le xs h, drop_of_length-le ys k) at inv

-- ---- lists of numbers
pub numbers-equal : (xs ys : List ℕ) → same_lists eqb xs ys ≡ true → xs ≡ ys
numbers-equal = same-equal eqb eqb-true

pub numbers-refl : (xs : List ℕ) → same_lists eqb xs xs ≡ true
numbers-refl = same_refl eqb eqb_refl
