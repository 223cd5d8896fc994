-- The words of `Lists` and `Split` are those in which the contracts of std's iterators and slices speak. Assumes nothing.
use mathlib.Core.Path.{◌≡◌, refl, sym, ap, ap₂, subst, ◌∙◌}
use mathlib.Core.Bool.{Bool, true, false, cond, ◌||◌, ◌&&◌}
use mathlib.Core.List.{List, [], ◌∷◌, map}
use mathlib.Core.Logic.{⊎_elim}
use Prim.Native.Nat.{ℕ, zero, suc, ◌+◌, ◌-◌, ◌<◌, ◌≤◌}
use native.Mathlib.Nat.{eq-or-lt_of_le}
use denote.Param.Members.{Mut, Called}
use Rattle.std.specs.Array.{MapsFrom, IsMapOf}
use native.Mathlib.Omega.{arith}
use borrow.Author.Tests.{leb-false}
use lib.Dec.{eqb, leb}
use lib.Pointwise.{pointwise}
use lib.ListN.{length, get_or}
use Rattle.std.specs.Prelude.{Option, Some, None}
use Rattle.std.specs.Option.{unwrap_or}
use Rattle.std.specs.List.{position, list_any, list_all, filter, count_by, position_or_len}
use Rattle.std.proofs.lemmas.List.Recursion.{is_position_or_len}
use Rattle.std.proofs.lemmas.List.Sums.{sum_by-cons}
use Rattle.laws.specs.Lists.{any, all, keep, first_at, same_lists}
use Rattle.laws.proofs.Firsts.{first-within}
use Rattle.laws.specs.Split.{split, is_sep}
use Rattle.laws.proofs.Split.{split-some, before-count}

module _ {A : Type 0} (p : A → Bool) where
  pub any_as_std : (xs : List A) → any p xs ≡ list_any p xs
  unfolding any
  any_as_std [] = refl
  any_as_std (x ∷ xs) = ap (λ (t : Bool). p x || t) (any_as_std xs)

  pub all_as_std : (xs : List A) → all p xs ≡ list_all p xs
  unfolding all
  all_as_std [] = refl
  all_as_std (x ∷ xs) = ap (λ (t : Bool). p x && t) (all_as_std xs)

  pub keep_as_std : (xs : List A) → keep p xs ≡ filter p xs
  unfolding keep
  keep_as_std [] = refl
  keep_as_std (x ∷ xs) = ap (λ (l : List A). cond (p x) (x ∷ l) l) (keep_as_std xs)

  pub first_as_std : (xs : List A) → first_at p xs ≡ position_or_len p xs
  first_as_std xs = is_position_or_len (first_at p) p refl (λ x l. ap (λ (n : ℕ). cond (p x) 0 n) (omega arith)) xs

-- one piece more than there are separators
cuts-more : (sep : ℕ) (s : List ℕ) → length (split sep s) ≡ 1 + count_by (is_sep sep) s
unfolding split is_sep
cuts-more sep [] = refl
cuts-more sep (b ∷ s) =
    before-count (eqb b sep) b (split sep s) (split-some sep s) ∙ omega (arith, cuts-more sep s, sum_by-cons (λ (x : ℕ). cond (eqb x sep) 1 0) b s)

pub cuts_as_std : (sep : ℕ) (s : List ℕ) → length (split sep s) - 1 ≡ count_by (λ (b : ℕ). eqb b sep) s
unfolding is_sep
cuts_as_std sep s = omega (arith, cuts-more sep s)

-- lists compared place by place, as std compares slices and arrays
pub same_as_std : {A : Type 0} (same eq : A → A → Bool) → ((x y : A) → eq x y ≡ same x y) → (xs ys : List A) → pointwise eq xs ys ≡ same_lists same xs ys
unfolding same_lists
same_as_std same eq h [] [] = refl
same_as_std same eq h [] (y ∷ ys) = refl
same_as_std same eq h (x ∷ xs) [] = refl
same_as_std same eq h (x ∷ xs) (y ∷ ys) = ap₂ ◌&&◌ (h x y) (same_as_std same eq h xs ys)

-- as many elements, each the function of the one in its place
pub mapped_as_std : {A : Type 0} (f : A → A) (d : A) (xs ys : List A) → length ys ≡ length xs → ((i : ℕ) → i < length xs → get_or ys i d ≡ f (get_or xs i d)) → ys ≡ map f xs
mapped_as_std f d [] [] e h = refl
mapped_as_std f d [] (y ∷ ys) e h = absurd (omega arith)
mapped_as_std f d (x ∷ xs) [] e h = absurd (omega arith)
mapped_as_std f d (x ∷ xs) (y ∷ ys) e h = ap₂ ◌∷◌ (h 0 (omega arith)) (mapped_as_std f d xs ys (omega arith) (λ i k. h (suc i) (omega arith)))

-- the place of the first, told as an Option, and the length where there is none
pub found_as_std : {A : Type 0} (p : A → Bool) (xs : List A) (r : Option ℕ) → r ≡ position p xs → unwrap_or r (length xs) ≡ first_at p xs
found_as_std p xs r e = rw e (go (leb (suc (position_or_len p xs)) (length xs)) refl)
  where
    go : (t : Bool) → leb (suc (position_or_len p xs)) (length xs) ≡ t → unwrap_or (cond t (Some (position_or_len p xs)) None) (length xs) ≡ first_at p xs
    go true q = sym (first_as_std p xs)
    go false q = omega (arith, first_as_std p xs, first-within p xs, leb-false (suc (position_or_len p xs)) (length xs) q)

-- what an array's `map` gives by a closure that computes φ
module _ {F A : Type 0} (g : Mut F (A × Unit {0}) A) (p : F) (φ : A → A) (d : A) (xs ys : List A) (h : (x y : A) (q : F) → Called g p (x, tt) y q → (q ≡ p) × (y ≡ φ x)) where
  maps-at : (n i : ℕ) (f : F) → f ≡ p → MapsFrom g f xs ys i n → (k : ℕ) → i ≤ k → k < i + n → get_or ys k d ≡ φ (get_or xs k d)
  maps-at zero i f e m k a b = absurd (omega arith)
  maps-at (suc n) i f e m k a b =
      let w = h m.1 m.2 m.0 (subst (λ (s : F). Called g s (m.1, tt) m.2 m.0) e m.5) in
      ⊎_elim
      (λ (q : i ≡ k). rw (← q) (m.4.1 d ∙ w.1 ∙ ap φ (sym (m.3.1 d))))
      (λ (l : i < k). maps-at n (i + 1) m.0 w.0 m.6 k (omega arith) (omega arith))
      (eq-or-lt_of_le a)

  pub map_as_std : (n : ℕ) → n ≡ length xs → IsMapOf g p xs ys n → ys ≡ map φ xs
  map_as_std n e m = mapped_as_std φ d xs ys (m.long ∙ e) (λ k l. maps-at n 0 p refl m.each k (omega arith) (omega arith))
