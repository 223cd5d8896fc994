-- No element twice, by a number for each element: where the sorted numbers rise, no element is there twice (`rising-once`); and where elements of one
-- number are the same, the other way round (`once-rising`), so that the test of the numbers is the test (`once-by-number`). Assumes nothing.
use mathlib.Core.Path.{◌≡◌, refl, sym, ap, ◌∙◌}
use mathlib.Core.Bool.{Bool, true, false, cond, not}
use mathlib.Core.List.{List, [], ◌∷◌, map}
use Prim.Native.Nat.{ℕ, zero, suc, ◌+◌, ◌≤◌, ◌<◌}
use native.Mathlib.Numerals.{add-one}
use native.Mathlib.Omega.{arith}
use lib.ListN.{length, get_or, drop, drop_of_length-le}
use lib.Seq.{drop-cons}
use lib.Dec.{eqb}
use borrow.Author.Tests.{eqb-true, eqb-false}
use Rattle.laws.specs.Lists.{any, all, none_twice}
use Rattle.laws.specs.Order.{sorted, rising, count}
use Rattle.laws.proofs.Tests.{and_left, and_right, and-true, not_yes}
use Rattle.laws.proofs.Firsts.{none-at}
use Rattle.laws.proofs.Rising.{count-here, count-nil, count-other, count-sorted, distinct-rising, rising-distinct}

false≢true : false ≡ true → ⊥
false≢true e = let z : ◌≡◌ {A = ℕ} 0 1 = cc in omega arith

module _ {A : Type 0} (same : A → A → Bool) (key : A → ℕ) where
  -- ---- equal elements have equal numbers
  module _ (level : (x y : A) → same x y ≡ true → key x ≡ key y) where
    none_here : (x : A) (l : List A) → count (key x) (map key l) ≡ 0 → any (same x) l ≡ false
    unfolding any count
    none_here x [] e = refl
    none_here x (y ∷ l) e = go (eqb (key x) (key y)) (same x y) refl refl e (none_here x l)
      where
        go : (t s : Bool) → eqb (key x) (key y) ≡ t → same x y ≡ s → cond t (suc (count (key x) (map key l))) (count (key x) (map key l)) ≡ 0
            → (count (key x) (map key l) ≡ 0 → any (same x) l ≡ false) → any (same x) (y ∷ l) ≡ false
        go true s p q e ih = absurd (omega arith)
        go false true p q e ih = absurd (eqb-false (key x) (key y) p (level x y q))
        go false false p q e ih = rw q (ih e)

    once : (l : List A) → ((z : ℕ) → count z (map key l) ≤ 1) → none_twice same l ≡ true
    unfolding none_twice
    once [] h = refl
    once (x ∷ l) h =
        let first : count (key x) (map key l) ≡ 0 = omega (arith, h (key x), count-here (key x) (map key l)) in
        and-true (not (any (same x) l)) (none_twice same l) (ap not (none_here x l first)) (once l (λ z. rest z))
      where
        fewer : (z : ℕ) (t : Bool) → eqb z (key x) ≡ t → count z (map key l) ≤ count z (key x ∷ map key l)
        fewer z true e = rw (eqb-true z (key x) e) (omega (arith, count-here (key x) (map key l)))
        fewer z false e = omega (arith, count-other z (key x) (map key l) (eqb-false z (key x) e))

        rest : (z : ℕ) → count z (map key l) ≤ 1
        rest z = omega (arith, h z, fewer z (eqb z (key x)) refl)

    pub rising-once : (l : List A) → rising (sorted (map key l)) ≡ true → none_twice same l ≡ true
    rising-once l e = once l (λ z. rw (count-sorted z (map key l)) at (rising-distinct (sorted (map key l)) e z))

  -- ---- and the other way round, where elements that pass a test have equal numbers only if they are the same
  module _ (good : A → Bool) (apart : (x y : A) → good x ≡ true → good y ≡ true → key x ≡ key y → same x y ≡ true) where
    none_of : (x : A) (l : List A) → good x ≡ true → all good l ≡ true → any (same x) l ≡ false → count (key x) (map key l) ≡ 0
    unfolding any all count
    none_of x [] g a e = refl
    none_of x (y ∷ l) g a e = go (eqb (key x) (key y)) (same x y) refl refl (none_of x l g (and_right (good y) (all good l) a))
      where
        go : (t s : Bool) → eqb (key x) (key y) ≡ t → same x y ≡ s → (any (same x) l ≡ false → count (key x) (map key l) ≡ 0)
            → cond t (suc (count (key x) (map key l))) (count (key x) (map key l)) ≡ 0
        go true s p q ih = absurd (false≢true (sym (rw (apart x y g (and_left (good y) (all good l) a) (eqb-true (key x) (key y) p)) at e)))
        go false true p q ih = absurd (false≢true (sym (rw q at e)))
        go false false p q ih = ih (rw q at e)

    counted : (l : List A) → all good l ≡ true → none_twice same l ≡ true → (z : ℕ) → count z (map key l) ≤ 1
    unfolding none_twice all
    counted [] a e z = omega (arith, count-nil z)
    counted (x ∷ l) a e z =
        go (eqb z (key x)) refl (counted l (and_right (good x) (all good l) a) (and_right (not (any (same x) l)) (none_twice same l) e) z)
      where
        go : (t : Bool) → eqb z (key x) ≡ t → count z (map key l) ≤ 1 → count z (key x ∷ map key l) ≤ 1
        go true q ih =
            let none : count (key x) (map key l) ≡ 0 =
            none_of x l (and_left (good x) (all good l) a) (and_right (good x) (all good l) a)
            (not_yes (any (same x) l) (and_left (not (any (same x) l)) (none_twice same l) e)) in
            rw (eqb-true z (key x) q) (omega (arith, count-here (key x) (map key l)))
        go false q ih = omega (arith, count-other z (key x) (map key l) (eqb-false z (key x) q))

    pub once-rising : (l : List A) → all good l ≡ true → none_twice same l ≡ true → rising (sorted (map key l)) ≡ true
    once-rising l a e = distinct-rising (map key l) (counted l a e)

    pub once-by-number : ((x y : A) → same x y ≡ true → key x ≡ key y) → (l : List A) → all good l ≡ true → rising (sorted (map key l)) ≡ none_twice same l
    once-by-number level l a = go (rising (sorted (map key l))) (none_twice same l) refl refl
      where
        go : (s t : Bool) → rising (sorted (map key l)) ≡ s → none_twice same l ≡ t → s ≡ t
        go true true p q = refl
        go false false p q = refl
        go true false p q = sym (rising-once level l p) ∙ q
        go false true p q = sym p ∙ once-rising l a q

-- ---- of two places of a list where no element is there twice
pub once-apart : {A : Type 0} (same : A → A → Bool) (l : List A) (i j : ℕ) (d : A) → none_twice same l ≡ true → i < j → j < length l → same (get_or l i d) (get_or l j d) ≡ false
unfolding none_twice
once-apart same [] i j d e h b = absurd (omega arith)
once-apart same (x ∷ l) i zero d e h b = absurd (omega arith)
once-apart same (x ∷ l) zero (suc j) d e h b = none-at (same x) l j d (omega arith) (not_yes (any (same x) l) (and_left (not (any (same x) l)) (none_twice same l) e))
once-apart same (x ∷ l) (suc i) (suc j) d e h b = once-apart same l i j d (and_right (not (any (same x) l)) (none_twice same l) e) (omega arith) (omega arith)

-- ---- a loop that looks behind each element, with the invariant `none_twice same (drop i xs) ≡ none_twice same xs`
module _ {A : Type 0} (same : A → A → Bool) (d : A) (xs : List A) (i : ℕ) where
  once-drop : i < length xs → none_twice same (drop i xs) ≡ none_twice same (get_or xs i d ∷ drop (i + 1) xs)
  once-drop h = rw (add-one, drop-cons xs i d)

  -- nothing behind the element at i is the same
  pub once-on : i < length xs → any (same (get_or xs i d)) (drop (i + 1) xs) ≡ false → none_twice same (drop i xs) ≡ none_twice same xs
      → none_twice same (drop (i + 1) xs) ≡ none_twice same xs
  unfolding none_twice
  once-on h e inv = rw (once-drop h, e) at inv

  pub once-failed : i < length xs → any (same (get_or xs i d)) (drop (i + 1) xs) ≡ true → none_twice same (drop i xs) ≡ none_twice same xs
      → false ≡ none_twice same xs
  unfolding none_twice
  once-failed h e inv = rw (once-drop h, e) at inv

  pub once-passed : length xs ≤ i → none_twice same (drop i xs) ≡ none_twice same xs → true ≡ none_twice same xs
  unfolding none_twice
  once-passed h inv = rw (drop_of_length-le xs h) at inv
