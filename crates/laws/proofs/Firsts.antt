-- The first element that passes a test (`first_at`). Assumes nothing.
--     any-first       some element passes exactly if the first that does has a place in the list
--     first_passes    and it stands there
--     first-before    none before it passes
--     first-within    it stands in the list, or its place is the list's length
--     none-at         where no element passes, none at any place does
--     none-set        nor after a store of one that does not
use mathlib.Core.Path.{◌≡◌, sym, refl, ◌∙◌}
use mathlib.Core.Bool.{Bool, true, false, cond, ◌||◌}
use mathlib.Core.List.{List, [], ◌∷◌}
use Prim.Native.Nat.{ℕ, zero, suc, ◌≤◌, ◌<◌}
use native.Mathlib.Omega.{arith}
use borrow.Author.Tests.{lt-ltb}
use lib.Dec.{ltb}
use lib.ListN.{length, get_or, set}
use Rattle.laws.specs.Lists.{any, first_at}
use Rattle.laws.proofs.Tests.{ltb-suc, or_left, or_right}

module _ {A : Type 0} (p : A → Bool) where
  pub any-first : (l : List A) → any p l ≡ ltb (first_at p l) (length l)
  unfolding any
  any-first [] = refl
  any-first (x ∷ l) = go (p x) (any-first l)
    where
      go : (t : Bool) → any p l ≡ ltb (first_at p l) (length l) → (t || any p l) ≡ ltb (cond t 0 (suc (first_at p l))) (suc (length l))
      go true ih = sym (lt-ltb 0 (suc (length l)) (omega arith))
      go false ih = ih ∙ sym (ltb-suc (first_at p l) (length l))

  pub first_passes : (l : List A) (d : A) → any p l ≡ true → p (get_or l (first_at p l) d) ≡ true
  unfolding any
  first_passes [] d h = cc
  first_passes (x ∷ l) d h = go (p x) refl h (first_passes l d)
    where
      go : (t : Bool) → p x ≡ t → (t || any p l) ≡ true → (any p l ≡ true → p (get_or l (first_at p l) d) ≡ true) → p (get_or (x ∷ l) (cond t 0 (suc (first_at p l))) d) ≡ true
      go true e h ih = e
      go false e h ih = ih h

  pub first-before : (l : List A) (i : ℕ) (d : A) → i < first_at p l → p (get_or l i d) ≡ false
  first-before [] i d h = absurd (omega arith)
  first-before (x ∷ l) i d h = go (p x) refl i h (λ j. first-before l j d)
    where
      go : (t : Bool) → p x ≡ t → (i : ℕ) → i < cond t 0 (suc (first_at p l)) → ((j : ℕ) → j < first_at p l → p (get_or l j d) ≡ false) → p (get_or (x ∷ l) i d) ≡ false
      go true e i h ih = absurd (omega arith)
      go false e zero h ih = e
      go false e (suc i) h ih = ih i (omega arith)

  pub first-within : (l : List A) → first_at p l ≤ length l
  first-within [] = omega arith
  first-within (x ∷ l) = go (p x) (first-within l)
    where
      go : (t : Bool) → first_at p l ≤ length l → cond t 0 (suc (first_at p l)) ≤ suc (length l)
      go true ih = omega arith
      go false ih = omega arith

  pub none-at : (l : List A) (i : ℕ) (d : A) → i < length l → any p l ≡ false → p (get_or l i d) ≡ false
  unfolding any
  none-at [] i d h e = absurd (omega arith)
  none-at (x ∷ l) zero d h e = or_left (p x) (any p l) e
  none-at (x ∷ l) (suc i) d h e = none-at l i d (omega arith) (or_right (p x) (any p l) e)

  pub none-set : (l : List A) (i : ℕ) (y : A) → any p l ≡ false → p y ≡ false → any p (set l i y) ≡ false
  unfolding any
  none-set [] i y e f = refl
  none-set (x ∷ l) zero y e f = rw f (or_right (p x) (any p l) e)
  none-set (x ∷ l) (suc i) y e f = rw (or_left (p x) (any p l) e) (none-set l i y (or_right (p x) (any p l) e) f)
