-- What `digits_of` says, taken apart and put together. Assumes nothing.
use Rattle.std.specs.Prelude.{Some, None}
use Prim.Native.Nat.{ℕ, ◌^◌, ◌<◌, ◌≤◌}
use mathlib.Core.Path.{◌≡◌, refl, ap, ◌∙◌}
use mathlib.Core.Bool.{Bool, true, false, cond}
use mathlib.Core.List.{List}
use native.Mathlib.Omega.{arith}
use lib.Dec.{leb}
use lib.ListN.{length}
use borrow.Author.Tests.{le-leb}
use Rattle.laws.specs.Digits.{all_digits, spelt, digits}
use Rattle.laws.proofs.Digits.{length_digits, all_digits_lem, width-trip, width_back, width-below}
use Rattle.text.specs.Spelt.{spells, digits_of}

-- a run of at most 18 digits spells its number
pub value_of : (lead : Bool) (f : List ℕ) → length f ≤ 18 → all_digits f ≡ true → digits_of lead f ≡ Some (spelt (cond lead 1 0) f)
unfolding digits_of spells
value_of lead f h p = rw (le-leb (length f) 18 h, p)

-- and what spells a number is such a run
pub value-inv : (lead : Bool) (f : List ℕ) (n : ℕ) → digits_of lead f ≡ Some n → (all_digits f ≡ true) × (spelt (cond lead 1 0) f ≡ n)
unfolding digits_of spells
value-inv lead f n e = go (leb (length f) 18) (all_digits f) refl e
  where
    go : (s t : Bool) → all_digits f ≡ t → cond s (cond t (Some (spelt (cond lead 1 0) f)) None) None ≡ Some n → (all_digits f ≡ true) × (spelt (cond lead 1 0) f ≡ n)
    go true true p q = (p, cc)
    go true false p q = absurd (let z : ◌≡◌ {A = ℕ} 0 1 = cc in omega arith)
    go false t p q = absurd (let z : ◌≡◌ {A = ℕ} 0 1 = cc in omega arith)

-- a field of k digits: what was written is read back, and what was read is written again
pub fixed-trip : (k n : ℕ) → k ≤ 18 → n < 10 ^ k → digits_of false (digits k n) ≡ Some n
fixed-trip k n h small = value_of false (digits k n) (rw length_digits h) (all_digits_lem k n) ∙ ap Some (width-trip k n small)

pub fixed_back : (k : ℕ) (f : List ℕ) (n : ℕ) → length f ≡ k → digits_of false f ≡ Some n → (digits k n ≡ f) × (n < 10 ^ k)
fixed_back k f n e d =
    let w = value-inv false f n d in
    (rw (← w.1, ← e) (width_back f w.0), rw (w.1, e) at (width-below f w.0))
