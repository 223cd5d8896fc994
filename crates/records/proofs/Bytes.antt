-- Runs of bytes compared and copied by the library. Assumes nothing.
use Prim.Native.Nat.{ℕ, ◌+◌, ◌-◌, ◌≤◌}
use native.Mathlib.Omega.{arith}
use mathlib.Core.Path.{◌≡◌, refl, sym, ap, ap₂, ◌∙◌}
use mathlib.Core.Bool.{Bool, true, false, ◌&&◌}
use mathlib.Core.List.{List, [], ◌∷◌, ◌++◌, append_assoc}
use lib.Dec.{eqb}
use lib.ListN.{length, take, drop}
use lib.Seq.{drop-drop}
use lib.Pointwise.{pointwise}
use borrow.Rule.Slice.PartMut.{put_mid}
use Rattle.laws.specs.Lists.{same_lists}
use Rattle.laws.specs.Overlay.{Laid}
use Rattle.laws.proofs.Same.{numbers-equal, numbers-refl}
use Rattle.laws.proofs.Overlay.{overlay-parts}

-- `==` of two runs
pub pointwise_same : (xs ys : List ℕ) → pointwise eqb xs ys ≡ same_lists eqb xs ys
unfolding same_lists
pointwise_same [] [] = refl
pointwise_same [] (y ∷ ys) = refl
pointwise_same (x ∷ xs) [] = refl
pointwise_same (x ∷ xs) (y ∷ ys) = ap (◌&&◌ (eqb x y)) (pointwise_same xs ys)

pub same_turned : (xs ys : List ℕ) → same_lists eqb xs ys ≡ same_lists eqb ys xs
same_turned xs ys = go (same_lists eqb xs ys) (same_lists eqb ys xs) refl refl
  where
    go : (s t : Bool) → same_lists eqb xs ys ≡ s → same_lists eqb ys xs ≡ t → s ≡ t
    go true true p q = refl
    go false false p q = refl
    go true false p q = sym (ap (λ (l : List ℕ). same_lists eqb l xs) (sym (numbers-equal xs ys p)) ∙ numbers-refl xs) ∙ q
    go false true p q = sym p ∙ ap (same_lists eqb xs) (numbers-equal ys xs q) ∙ numbers-refl xs

-- a run copied into a part of a buffer
pub copied : (xs : List ℕ) (at : ℕ) (ys zs : List ℕ) → at + length ys ≤ length xs → zs ≡ ys → Laid xs at ys (put_mid at (at + length ys - at) xs zs) (at + length ys)
copied xs at ys zs h e =
    let k : at + length ys - at ≡ length ys = omega arith in
    let behind : drop (at + length ys - at) (drop at xs) ≡ drop (at + length ys) xs = ap (λ (n : ℕ). drop n (drop at xs)) k ∙ drop-drop (length ys) at xs in
    record {
      bytes = ap₂ (λ (l r : List ℕ). take at xs ++ (l ++ r)) e behind ∙ sym (append_assoc (take at xs) ys (drop (at + length ys) xs)) ∙ sym (overlay-parts xs at ys h);
      ends = refl;
    }
