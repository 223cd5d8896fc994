-- Laws of tests, and of a table of rules (`first_line`) against code that tests one rule after the other.
--     never               no test is both
--     either              one of two tests holds
--     agree-where         two tests agree if they agree where a fact holds, and each of them tells that fact
--     chosen              a test of what another test chooses is that test
--     applies, passes     a line whose test holds gives the answer; one whose test fails leaves it to the lines below
--     so, not_so          what a callee's contract and a branch on its result say together
--     rules               with these, and the laws of tests: `search rules depth N` proves a `return` from the branches that led there.
--                         N is some three more than there are lines
-- Assumes nothing.
use mathlib.Core.Path.{◌≡◌, refl, sym, ◌∙◌}
use mathlib.Core.Logic.{◌⊎◌, inl, inr, ⊎_elim}
use mathlib.Core.Bool.{Bool, true, false, cond, not, ◌&&◌, ◌||◌}
use Prim.Native.Nat.{ℕ, suc, ◌≤◌, ◌<◌}
use native.Mathlib.Nat.{eq-or-lt_of_le}
use native.Mathlib.Omega.{arith}
use borrow.Author.Tests.{leb-true, leb-false, eqb-true, eqb-false, eq-eqb, ne_eqb, lt-ltb, le-ltb, le-leb, lt-leb}
use lib.Dec.{leb, ltb, eqb}

-- ---- two tests together
pub and_left : (a b : Bool) → (a && b) ≡ true → a ≡ true
and_left true b p = refl
and_left false b p = p

pub and_right : (a b : Bool) → (a && b) ≡ true → b ≡ true
and_right true b p = p
and_right false b p = cc

pub and-true : (a b : Bool) → a ≡ true → b ≡ true → (a && b) ≡ true
and-true a b p q = rw (p, q)

pub or_left : (a b : Bool) → (a || b) ≡ false → a ≡ false
or_left true b p = p
or_left false b p = refl

pub or_right : (a b : Bool) → (a || b) ≡ false → b ≡ false
or_right true b p = cc
or_right false b p = p

pub never : {A : Type 0} → false ≡ true → A
never e = absurd (let z : ◌≡◌ {A = ℕ} 0 1 = cc in omega arith)

module _ {P : Type 0} where
  pub either : (s t : Bool) → (s || t) ≡ true → (s ≡ true → P) → (t ≡ true → P) → P
  either true t h f g = f refl
  either false t h f g = g h

  pub agree-where : (s t : Bool) → (s ≡ true → P) → (t ≡ true → P) → (P → s ≡ t) → s ≡ t
  agree-where true t f g h = h (f refl)
  agree-where false true f g h = h (g refl)
  agree-where false false f g h = refl

pub chosen : {A : Type 0} (q : A → Bool) (x y : A) → q x ≡ true → q y ≡ false → (t : Bool) → q (cond t x y) ≡ t
chosen q x y e₁ e₂ true = e₁
chosen q x y e₁ e₂ false = e₂

-- a test that is turned round
pub not_yes : (b : Bool) → not b ≡ true → b ≡ false
not_yes true e = sym e
not_yes false e = refl

-- either of two may be asked first
pub or-exchange : (a b c : Bool) → (a || (b || c)) ≡ (b || (a || c))
or-exchange true true c = refl
or-exchange true false c = refl
or-exchange false b c = refl

-- a test and another are the same
pub both_true : (a b : Bool) → ((a && b) || (not a && not b)) ≡ true → a ≡ b
both_true true true p = refl
both_true true false p = cc
both_true false true p = cc
both_true false false p = refl

pub both_refl : (a : Bool) → ((a && a) || (not a && not a)) ≡ true
both_refl true = refl
both_refl false = refl

-- ---- numbers
pub le-or-lt : (a b : ℕ) → (a ≤ b) ⊎ (b < a)
le-or-lt a b = go (leb a b) refl
  where
    go : (t : Bool) → leb a b ≡ t → (a ≤ b) ⊎ (b < a)
    go true e = inl (leb-true a b e)
    go false e = inr (leb-false a b e)

pub eqb_comm : (x y : ℕ) → eqb x y ≡ eqb y x
eqb_comm x y = go (eqb x y) (eqb y x) refl refl
  where
    go : (s t : Bool) → eqb x y ≡ s → eqb y x ≡ t → s ≡ t
    go true true e f = refl
    go true false e f = absurd (eqb-false y x f (sym (eqb-true x y e)))
    go false true e f = absurd (eqb-false x y e (sym (eqb-true y x f)))
    go false false e f = refl

pub eqb_refl : (x : ℕ) → eqb x x ≡ true
eqb_refl x = eq-eqb x x refl

pub ltb-suc : (a b : ℕ) → ltb (suc a) (suc b) ≡ ltb a b
ltb-suc a b = ⊎_elim (λ (h : b ≤ a). rw (le-ltb a b h, le-ltb (suc a) (suc b) (omega arith))) (λ (h : a < b). rw (lt-ltb a b h, lt-ltb (suc a) (suc b) (omega arith))) (le-or-lt b a)

-- below n and below n + 1; not below n, but below n + 1
pub low-test : (r n : ℕ) → (ltb r n && ltb r (suc n)) ≡ ltb r n
low-test r n = ⊎_elim (λ (h : n ≤ r). rw (le-ltb r n h)) (λ (h : r < n). rw (lt-ltb r n h, lt-ltb r (suc n) (omega arith))) (le-or-lt n r)

pub at_test : (r n : ℕ) → (not (ltb r n) && ltb r (suc n)) ≡ eqb r n
at_test r n = ⊎_elim (λ (h : n ≤ r). ⊎_elim at above (eq-or-lt_of_le h)) below (le-or-lt n r)
  where
    at : n ≡ r → (not (ltb r n) && ltb r (suc n)) ≡ eqb r n
    at e = rw (le-ltb r n (omega arith), lt-ltb r (suc n) (omega arith), eq-eqb r n (sym e))

    above : n < r → (not (ltb r n) && ltb r (suc n)) ≡ eqb r n
    above h = rw (le-ltb r n (omega arith), le-ltb r (suc n) h, ne_eqb r n (λ e. omega arith))

    below : r < n → (not (ltb r n) && ltb r (suc n)) ≡ eqb r n
    below h = rw (lt-ltb r n h, ne_eqb r n (λ e. omega arith))

-- ---- a choice
-- what both choices have, the choice has
pub cond-le : (b : Bool) (m n k : ℕ) → m ≤ k → n ≤ k → cond b m n ≤ k
cond-le true m n k p q = p
cond-le false m n k p q = q

module _ {A : Type 0} where
  pub applies : (b : Bool) (v w : A) → b ≡ true → v ≡ cond b v w
  applies b v w e = rw e

  pub passes : (b : Bool) (v w x : A) → b ≡ false → x ≡ w → x ≡ cond b v w
  passes b v w x e q = rw e q

  pub so : (r b t : A) → r ≡ b → r ≡ t → b ≡ t
  so r b t e q = sym e ∙ q

  pub not_so : (r b t : A) → r ≡ b → (r ≡ t → ⊥) → b ≡ t → ⊥
  not_so r b t e h q = h (e ∙ q)

pub ruleset rules = (applies, passes, so, not_so, eq-eqb, ne_eqb, lt-ltb, le-ltb, le-leb, lt-leb)
