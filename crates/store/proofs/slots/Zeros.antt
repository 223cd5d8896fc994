-- Zeros counted off eight at a time, in words of eight bytes, then those that are left. Assumes nothing.
use Prim.Native.Nat.{ℕ, zero, suc, ◌+◌, ◌*◌, ◌/◌, ◌≤◌}
use native.Mathlib.Omega.{arith}
use mathlib.Core.Path.{◌≡◌, refl, sym, ap, ap₂, ◌∙◌}
use mathlib.Core.Bool.{Bool, ◌&&◌, and_assoc}
use mathlib.Core.List.{List, [], ◌∷◌}
use lib.Dec.{eqb}
use lib.ListN.{length, take, drop, replicate, length-drop, take-append-drop}
use lib.Seq.{drop-drop, length-take-le}
use lib.Pointwise.{pointwise}
use Rattle.std.specs.List.{list_all}
use Rattle.std.specs.Simd.{first_chunks}
use Rattle.laws.specs.Lists.{all}
use Rattle.laws.specs.Slots.{is_zero}
use Rattle.laws.proofs.Tables.{all_append}
use Rattle.laws.proofs.Chains.{all_as_std}

abbrev pub word_zero : List ℕ → Bool
word_zero w = pointwise eqb w (replicate 8 0)

-- a word equals as many zeros where each byte is zero
same_zeros : (n : ℕ) (xs : List ℕ) → length xs ≡ n → pointwise eqb xs (replicate n 0) ≡ all is_zero xs
unfolding all is_zero
same_zeros zero [] e = refl
same_zeros zero (x ∷ xs) e = absurd (omega arith)
same_zeros (suc n) [] e = absurd (omega arith)
same_zeros (suc n) (x ∷ xs) e = ap (λ (b : Bool). eqb x 0 && b) (same_zeros n xs (omega arith))

words : (n : ℕ) (s : List ℕ) → n * 8 ≤ length s → list_all word_zero (first_chunks 8 n s) && all is_zero (drop (n * 8) s) ≡ all is_zero s
words zero s h = refl
words (suc n) s h =
    ap₂ ◌&&◌
    (ap (λ (b : Bool). b && list_all word_zero (first_chunks 8 n (drop 8 s))) (same_zeros 8 (take 8 s) (length-take-le 8 s (omega arith))))
    (ap (all is_zero) (ap (λ (k : ℕ). drop k s) (let e : suc n * 8 ≡ 8 + n * 8 = omega arith in e) ∙ sym (drop-drop (n * 8) 8 s)))
    ∙ and_assoc (all is_zero (take 8 s)) (list_all word_zero (first_chunks 8 n (drop 8 s))) (all is_zero (drop (n * 8) (drop 8 s)))
    ∙ ap (λ (b : Bool). all is_zero (take 8 s) && b) (words n (drop 8 s) (omega (arith, length-drop 8 s)))
    ∙ sym (all_append is_zero (take 8 s) (drop 8 s))
    ∙ ap (all is_zero) (take-append-drop 8 s)

pub zeros_by_words : (s : List ℕ) → (list_all word_zero (first_chunks 8 (length s / 8) s) && list_all (λ b. eqb b 0) (drop (length s / 8 * 8) s)) ≡ all is_zero s
unfolding is_zero
zeros_by_words s =
    ap (λ (b : Bool). list_all word_zero (first_chunks 8 (length s / 8) s) && b) (sym (all_as_std (λ b. eqb b 0) (drop (length s / 8 * 8) s)))
    ∙ words (length s / 8) s (omega arith)
