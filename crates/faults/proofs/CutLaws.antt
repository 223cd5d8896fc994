-- A line cut at its commas, and the head of a correction. Assumes nothing.
--     fields-counted     behind k commas nothing but the bytes of fields: at most k + 1 fields
--     rest-here          behind no comma stands all
--     colon_first        a head that begins with its colon has no "U:"
use Prim.Native.Nat.{ℕ, suc, ◌+◌, ◌≤◌}
use native.Mathlib.Omega.{arith}
use mathlib.Core.Path.{◌≡◌, refl, ap, ◌∙◌}
use mathlib.Core.Bool.{Bool, true, false, cond}
use mathlib.Core.List.{List, [], ◌∷◌}
use lib.Dec.{eqb}
use lib.ListN.{length, get_or, drop}
use borrow.Author.Tests.{eqb-true}
use Rattle.laws.specs.Lists.{all, first_at}
use Rattle.laws.specs.Digits.{is_digit}
use Rattle.laws.specs.Split.{split, joined, is_sep, end_of}
use Rattle.laws.proofs.Split.{lacks-by, joined-split, rest-counted}
use Rattle.fields.specs.Bytes.{field_byte}
use Rattle.faults.specs.Cut.{rest_at}

pub fields-counted : (s : List ℕ) (k : ℕ) → all field_byte (rest_at s k) ≡ true → length (split 44 s) ≤ k + 1
unfolding rest_at field_byte is_digit
fields-counted s k h = rest-counted 44 (split 44 s) k (lacks-by field_byte 44 refl (joined 44 (drop k (split 44 s))) h)

pub rest-here : (s : List ℕ) (k : ℕ) → k ≡ 0 → rest_at s k ≡ s
unfolding rest_at
rest-here s k e = ap (λ (n : ℕ). joined 44 (drop n (split 44 s))) e ∙ joined-split 44 s

pub colon_first : (h : List ℕ) → end_of 58 h 0 ≡ 0 → eqb (get_or h 0 0) 85 ≡ false
unfolding end_of is_sep
colon_first [] e = refl
colon_first (b ∷ h) e = go (eqb b 58) refl e
  where
    go : (t : Bool) → eqb b 58 ≡ t → 0 + cond t 0 (suc (first_at (is_sep 58) h)) ≡ 0 → eqb b 85 ≡ false
    go true q e = rw (eqb-true b 58 q)
    go false q e = absurd (omega arith)
