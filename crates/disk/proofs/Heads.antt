-- The head of a store's file: its name, and the sums over all that it covers. Assumes nothing.
use Rattle.std.proofs.Common.{◌≡◌, ℕ, ◌-◌, ◌^◌, ◌<◌, ◌≤◌, Bool, eqb, List, [], ◌∷◌, ◌++◌, length, take, set, replicate, refl, sym, ap, ◌∙◌, ⊎_elim, arith}
use native.Mathlib.Nat.{pow-le-pow_right}
use Rattle.std.specs.Cmp.Lexicographic.{pointwise}
use Rattle.std.proofs.lemmas.List.Sums.{fold-append}
use Rattle.io.specs.Digits.{last_digits, IsDigitCount}
use Rattle.laws.specs.Digits.{digits as decimals}
use Rattle.laws.specs.Overlay.{overlay}
use Rattle.laws.specs.Lists.{same_lists}
use Rattle.laws.proofs.Tests.{le-or-lt, eqb_comm}
use Rattle.disk.specs.declared.sum.Sum.{Sum}
use Rattle.disk.specs.Sums.{with_one, sum_over, no_sum}
use Rattle.disk.specs.Head.{hex, title, version_of, head_text, head_over, is_first, list_line}

-- the library compares two lists as `same_lists` does
same-pointwise : (xs ys : List ℕ) → pointwise eqb xs ys ≡ same_lists eqb ys xs
unfolding same_lists
same-pointwise [] [] = refl
same-pointwise [] (y ∷ ys) = refl
same-pointwise (x ∷ xs) [] = refl
same-pointwise (x ∷ xs) (y ∷ ys) = rw (eqb_comm x y, same-pointwise xs ys)

pub first-name : (head : List ℕ) (r : Bool) → r ≡ pointwise eqb (title ++ (49 ∷ 10 ∷ [])) (take 18 head) → r ≡ is_first head
first-name head r e = e ∙ same-pointwise (title ++ (49 ∷ 10 ∷ [])) (take 18 head)

sum_then : (s u : Sum) (xs ys : List ℕ) → u ≡ sum_over s xs → sum_over s (xs ++ ys) ≡ sum_over u ys
sum_then s u xs ys e = fold-append with_one s xs ys ∙ ap (λ (w : Sum). sum_over w ys) (sym e)

pub head-sums : (line t f r c head : List ℕ) (s₁ s₂ s₃ s₄ s₅ : Sum) (v : ℕ) → s₁ ≡ sum_over no_sum line → s₂ ≡ sum_over s₁ t → s₃ ≡ sum_over s₂ f → s₄ ≡ sum_over s₃ r → s₅ ≡ sum_over s₄ c
    → v ≡ version_of line → head ≡ head_text v s₅ → head ≡ head_over line (t ++ (f ++ (r ++ c)))
head-sums line t f r c head s₁ s₂ s₃ s₄ s₅ v e₁ e₂ e₃ e₄ e₅ ev e =
    let all : sum_over no_sum (line ++ (t ++ (f ++ (r ++ c)))) ≡ s₅ = sum_then no_sum s₁ line _ e₁ ∙ sum_then s₁ s₂ t _ e₂ ∙ sum_then s₂ s₃ f _ e₃ ∙ sum_then s₃ s₄ r c e₄ ∙ sym e₅ in
    e ∙ ap (λ (w : ℕ). head_text w s₅) ev ∙ ap (head_text (version_of line)) (sym all)

-- ---- sixteen hexadecimal digits hold any word
hex-count : (n k : ℕ) → n < 2 ^ 64 → IsDigitCount 16 16 n k → k ≡ 16
hex-count n k small f =
    ⊎_elim
    (λ (h : k ≤ 16). omega (arith, f.0))
    (λ (h : 16 < k).
    let more : 16 ^ 16 ≤ 16 ^ (k - 1) = pow-le-pow_right {n = 16} (omega arith) {i = 16} {j = k - 1} (omega arith) in
    let less : 16 ^ (k - 1) ≤ n = f.2 h in
    absurd (omega arith))
    (le-or-lt k 16)

pub hex-laid : (out : List ℕ) (at : ℕ) (d : List ℕ) (k n : ℕ) (after : List ℕ) → n < 2 ^ 64 → IsDigitCount 16 16 n k → take k d ≡ last_digits 16 k n → after ≡ overlay out at (take k d)
    → after ≡ overlay out at (hex n)
unfolding hex
hex-laid out at d k n after small f t e = e ∙ ap (overlay out at) (t ∙ ap (λ (j : ℕ). last_digits 16 j n) (hex-count n k small f))

-- ---- the head and the line of the list, as they are laid
pub spelled_is : (v : ℕ) (s : Sum) (h₁ h₂ h₃ : List ℕ) → h₁ ≡ overlay (replicate 51 10) 0 title → h₂ ≡ overlay (set h₁ 16 v) 18 (hex s.a) → h₃ ≡ overlay h₂ 34 (hex s.b) → h₃ ≡ head_text v s
unfolding hex overlay head_text
spelled_is v s h₁ h₂ h₃ e₁ e₂ e₃ =
    e₃ ∙ ap (λ (l : List ℕ). overlay l 34 (hex s.b)) (e₂ ∙ ap (λ (l : List ℕ). overlay (set l 16 v) 18 (hex s.a)) e₁)

pub line-is : (x : ℕ) (l₁ l₂ l₃ days : List ℕ) → l₁ ≡ overlay (replicate 31 10) 0 (104 ∷ 111 ∷ 108 ∷ 105 ∷ 100 ∷ 97 ∷ 121 ∷ 115 ∷ 32 ∷ 48 ∷ 48 ∷ 48 ∷ 48 ∷ 32 ∷ []) → l₂ ≡ overlay l₁ 9 (decimals 4 469) → l₃ ≡ overlay l₂ 14 (hex x)
    → length days ≡ 469 → x ≡ (sum_over no_sum days).b → l₃ ≡ list_line days
unfolding hex overlay decimals list_line
line-is x l₁ l₂ l₃ days e₁ e₂ e₃ n e =
    e₃ ∙ ap (λ (l : List ℕ). overlay l 14 (hex x)) (e₂ ∙ ap (λ (l : List ℕ). overlay l 9 (decimals 4 469)) e₁)
    ∙ ap (λ (k : ℕ). 104 ∷ 111 ∷ 108 ∷ 105 ∷ 100 ∷ 97 ∷ 121 ∷ 115 ∷ 32 ∷ (decimals 4 k ++ (32 ∷ (hex x ++ (10 ∷ []))))) (sym n)
    ∙ ap (λ (y : ℕ). 104 ∷ 111 ∷ 108 ∷ 105 ∷ 100 ∷ 97 ∷ 121 ∷ 115 ∷ 32 ∷ (decimals 4 (length days) ++ (32 ∷ (hex y ++ (10 ∷ []))))) e
