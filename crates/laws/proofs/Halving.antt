-- Laws for a search by halves through numbers that never fall. The invariant `Within x l lo hi`: x stands nowhere but from lo on and before hi.
--     within-start    at first that is anywhere in the list
--     within-up       the number at i is below x: from i + 1 on
--     within-down     the number at i is above x: before i
--     within-here     the number at i is x: it is in the list
--     within_none     there is no place left: it is not
-- Assumes nothing.
use mathlib.Core.Path.{◌≡◌, refl, sym}
use mathlib.Core.Bool.{Bool, true, false, ◌||◌}
use mathlib.Core.Logic.{⊎_elim}
use mathlib.Core.List.{List, [], ◌∷◌}
use Prim.Native.Nat.{ℕ, zero, suc, ◌+◌, ◌≤◌, ◌<◌}
use native.Mathlib.Nat.{le_refl, le_trans}
use native.Mathlib.Omega.{arith}
use lib.Dec.{eqb, leb}
use lib.ListN.{length, get_or}
use borrow.Author.Tests.{leb-true, eq-eqb, ne_eqb}
use Rattle.laws.specs.Lists.{any}
use Rattle.laws.specs.Order.{never_falls}
use Rattle.laws.proofs.Tests.{and_left, and_right, le-or-lt}

-- of any two, the first is not above the second
falls-next : (x y : ℕ) (l : List ℕ) → never_falls (x ∷ y ∷ l) ≡ true → (x ≤ y) × (never_falls (y ∷ l) ≡ true)
unfolding never_falls
falls-next x y l e = (leb-true x y (and_left (leb x y) _ e), and_right (leb x y) _ e)

pub never-above : (l : List ℕ) → never_falls l ≡ true → (i j : ℕ) → i ≤ j → j < length l → get_or l i 0 ≤ get_or l j 0
never-above [] e i j h k = absurd (omega arith)
never-above (x ∷ l) e zero zero h k = le_refl x
never-above (x ∷ []) e i (suc j) h k = absurd (omega arith)
never-above (x ∷ l) e (suc i) zero h k = absurd (omega arith)
never-above (x ∷ y ∷ l) e zero (suc j) h k =
    let n = falls-next x y l e in
    le_trans n.0 (never-above (y ∷ l) n.1 zero j (omega arith) (omega arith))
never-above (x ∷ y ∷ l) e (suc i) (suc j) h k = never-above (y ∷ l) (falls-next x y l e).1 i j (omega arith) (omega arith)

module _ {A : Type 0} (p : A → Bool) (d : A) where
  -- what passes at a place is there; what passes nowhere is not
  pub any-somewhere : (l : List A) (i : ℕ) → i < length l → p (get_or l i d) ≡ true → true ≡ any p l
  unfolding any
  any-somewhere [] i h e = absurd (omega arith)
  any-somewhere (x ∷ l) zero h e = rw e
  any-somewhere (x ∷ l) (suc i) h e = go (p x) (any-somewhere l i (omega arith) e)
    where
      go : (t : Bool) → true ≡ any p l → true ≡ (t || any p l)
      go true q = refl
      go false q = q

  pub any-nowhere : (l : List A) → ((i : ℕ) → i < length l → p (get_or l i d) ≡ false) → false ≡ any p l
  unfolding any
  any-nowhere [] h = refl
  any-nowhere (x ∷ l) h = rw (h 0 (omega arith)) (any-nowhere l (λ i k. h (suc i) (omega arith)))

pub record Within (x : ℕ) (l : List ℕ) (lo hi : ℕ) : Type 0 where
  pub fits : hi ≤ length l
  pub below : (i : ℕ) → i < lo → get_or l i 0 < x
  pub above : (i : ℕ) → hi ≤ i → i < length l → x < get_or l i 0

pub within-start : (x : ℕ) (l : List ℕ) (hi : ℕ) → hi ≡ length l → Within x l 0 hi
within-start x l hi e = record { fits = omega arith; below = λ i h. absurd (omega arith); above = λ i h k. absurd (omega arith) }

module _ (x : ℕ) (l : List ℕ) (e : never_falls l ≡ true) (lo hi i : ℕ) (w : Within x l lo hi) where
  pub within-up : i < hi → get_or l i 0 < x → Within x l (i + 1) hi
  within-up h k = record { fits = w.fits; below = λ j m. omega (arith, never-above l e j i (omega arith) (omega arith)); above = w.above }

  pub within-down : i < hi → x < get_or l i 0 → Within x l lo i
  within-down h k = record { fits = omega arith; below = w.below; above = λ j m n. omega (arith, never-above l e i j m n) }

module _ (x : ℕ) (l : List ℕ) (lo hi : ℕ) (w : Within x l lo hi) where
  pub within-here : (i : ℕ) → i < hi → get_or l i 0 ≡ x → true ≡ any (eqb x) l
  within-here i h q = any-somewhere (eqb x) 0 l i (omega arith) (eq-eqb x (get_or l i 0) (sym q))

  pub within_none : hi ≤ lo → false ≡ any (eqb x) l
  within_none h = any-nowhere (eqb x) 0 l other
    where
      other : (i : ℕ) → i < length l → eqb x (get_or l i 0) ≡ false
      other i k = ne_eqb x (get_or l i 0) (λ q. ⊎_elim (λ (m : lo ≤ i). omega (arith, w.above i (omega arith) k)) (λ (m : i < lo). omega (arith, w.below i m)) (le-or-lt lo i))
