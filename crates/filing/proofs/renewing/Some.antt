-- Whether some element of a list passes a test. Assumes nothing.
--     any_as_std  in std's word
--     any-map     of a list to whose elements something is done
--     any_same    by two tests that agree on the elements
--     any-kept    of the elements that pass another test
--     any-upto    of the numbers below a bound, by a test that asks whether they are below a lower one
use mathlib.Core.Path.{◌≡◌, refl, ap, ◌∙◌}
use mathlib.Core.Bool.{Bool, true, false, cond, ◌&&◌, ◌||◌, or-false}
use mathlib.Core.List.{List, [], ◌∷◌, map, Memᴰ}
use Prim.Native.Nat.{ℕ, zero, suc, ◌≤◌}
use native.Mathlib.Decide.{ℕ_discrete}
use native.Mathlib.Omega.{arith}
use borrow.Author.Tests.{lt-ltb, le-ltb}
use lib.Dec.{ltb}
use Rattle.std.specs.List.{list_any}
use Rattle.laws.specs.Lists.{table, any, keep}
use Rattle.laws.proofs.Lists.{mem_below}
use Rattle.laws.proofs.Tables.{any-more}

module _ {A : Type 0} where
  pub any_as_std : (p : A → Bool) (l : List A) → list_any p l ≡ any p l
  unfolding any
  any_as_std p [] = refl
  any_as_std p (x ∷ l) = ap (λ (b : Bool). p x || b) (any_as_std p l)

  pub any-map : {B : Type 0} (p : B → Bool) (f : A → B) (l : List A) → any p (map f l) ≡ any (λ (x : A). p (f x)) l
  unfolding any
  any-map p f [] = refl
  any-map p f (x ∷ l) = ap (λ (b : Bool). p (f x) || b) (any-map p f l)

  pub any_same : (p q : A → Bool) (l : List A) → ((x : A) → Memᴰ x l → p x ≡ q x) → any p l ≡ any q l
  unfolding any
  any_same p q [] h = refl
  any_same p q (x ∷ l) h = λ k. h x (Memᴰ.head refl) k || any_same p q l (λ y m. h y (Memᴰ.tail m)) k

  pub any-kept : (p q : A → Bool) (l : List A) → any p (keep q l) ≡ any (λ (x : A). p x && q x) l
  unfolding any keep
  any-kept p q [] = refl
  any-kept p q (x ∷ l) = go (p x) (q x) refl (any-kept p q l)
    where
      go : (s t : Bool) → p x ≡ s → any p (keep q l) ≡ any (λ (x : A). p x && q x) l → any p (cond t (x ∷ keep q l) (keep q l)) ≡ ((s && t) || any (λ (x : A). p x && q x) l)
      go true true e ih = rw e
      go true false e ih = ih
      go false true e ih = rw e ih
      go false false e ih = ih

-- as many as the bound says
all-below : (p : ℕ → Bool) (j : ℕ) → any (λ (i : ℕ). ltb i j && p i) (table j (λ (i : ℕ). i)) ≡ any p (table j (λ (i : ℕ). i))
all-below p j =
    any_same (λ (i : ℕ). ltb i j && p i) p (table j (λ (i : ℕ). i))
    (λ i m. let w = mem_below j (λ (i : ℕ). i) m in ap (λ (b : Bool). b && p i) (lt-ltb i j (omega (arith, w.1, w.2))))

pub any-upto : (p : ℕ → Bool) (j w : ℕ) → j ≤ w → any (λ (i : ℕ). ltb i j && p i) (table w (λ (i : ℕ). i)) ≡ any p (table j (λ (i : ℕ). i))
unfolding table
any-upto p j zero h = let e : j ≡ 0 = omega arith in rw e (all-below p 0)
any-upto p j (suc w) h = elim (ℕ_discrete j (suc w)) [
  | yes e ↦ rw e (all-below p (suc w))
  | no ne ↦ any-more (λ (i : ℕ). ltb i j && p i) (table w (λ (i : ℕ). i)) w
      ∙ ap (λ (b : Bool). any (λ (i : ℕ). ltb i j && p i) (table w (λ (i : ℕ). i)) || (b && p w)) (le-ltb w j (omega arith))
      ∙ or-false (any (λ (i : ℕ). ltb i j && p i) (table w (λ (i : ℕ). i)))
      ∙ any-upto p j w (omega arith)
]
