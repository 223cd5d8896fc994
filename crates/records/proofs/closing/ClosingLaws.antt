-- The closing record. Assumes nothing.
--     length-closing, short-closing     how long it is
--     begins-closing                    it begins as it should
--     lacks-closing                     it holds no CR
--     begins-not                        which lines do not begin so
use lib.Dec.{eqb}
use Prim.Native.Nat.{ℕ, suc, ◌+◌, ◌^◌, ◌<◌, ◌≤◌}
use native.Mathlib.Omega.{arith}
use mathlib.Core.Path.{◌≡◌, refl, sym, ap, ◌∙◌}
use mathlib.Core.Bool.{Bool, true, false, not}
use mathlib.Core.List.{List, [], ◌∷◌, ◌++◌}
use lib.ListN.{length, take, drop, length-append, take-append-drop}
use borrow.Author.Tests.{ne_eqb}
use Rattle.laws.specs.Digits.{is_digit, digits, size_of}
use Rattle.laws.specs.Lists.{same_lists}
use Rattle.laws.specs.Lists.{all}
use Rattle.laws.specs.Split.{is_not, lacks}
use Rattle.laws.proofs.Tables.{all_append, all_weaker}
use Rattle.laws.proofs.Digits.{digit_low, all_digits_lem, length_digits, size_small}
use Rattle.laws.specs.Overlay.{Laid}
use Rattle.laws.proofs.Same.{numbers-refl, numbers-equal}
use Rattle.laws.proofs.Overlay.{laid_then, laid-length, laid-front}
use Rattle.records.specs.closing.Closing.{closing_word, decimal, closing_text, begins}

pub length-closing : (n : ℕ) → length (closing_text n) ≡ size_of n n + 15
unfolding closing_text decimal
length-closing n =
    length-append closing_word (digits (suc (size_of n n)) n ++ (44 ∷ []))
    ∙ omega (arith, length-append (digits (suc (size_of n n)) n) (44 ∷ []), length_digits (suc (size_of n n)) n)

-- a machine's number has at most twenty digits
pub short-closing : (n : ℕ) → n < 2 ^ 64 → size_of n n ≤ 19
short-closing n h = size_small 19 n n (omega arith)

pub begins-closing : (n : ℕ) → begins (closing_text n) ≡ true
unfolding begins closing_text
begins-closing n = numbers-refl closing_word

-- the word, the number and the comma, laid one behind the other
pub laid-closing : {o o₁ o₂ o₃ : List ℕ} {at a b e : ℕ} (n k : ℕ) → k ≡ size_of n n → Laid o at closing_word o₁ a → Laid o₁ a (digits (k + 1) n) o₂ b → Laid o₂ b (44 ∷ []) o₃ e → Laid o at (closing_text n) o₃ e
unfolding closing_text decimal
laid-closing n k e p q r =
    let d : k + 1 ≡ suc (size_of n n) = omega arith in
    laid_then (laid_then p (rw d at q)) r

digit-no-end : (b : ℕ) → is_digit b ≡ true → is_not 13 b ≡ true
unfolding is_not
digit-no-end b p = ap not (ne_eqb b 13 (λ e. omega (arith, digit_low b p)))

pub lacks-closing : (n : ℕ) → lacks 13 (closing_text n) ≡ true
unfolding closing_text decimal all is_not
lacks-closing n =
    all_append (is_not 13) (decimal n) (44 ∷ [])
    ∙ rw (all_weaker is_digit (is_not 13) digit-no-end (decimal n) (all_digits_lem (suc (size_of n n)) n))

-- a line without an 'e' (101) does not begin so
pub begins-not : (l : List ℕ) → lacks 101 l ≡ true → begins l ≡ false
unfolding begins all is_not
begins-not l h = go (same_lists eqb (take 13 l) closing_word) refl
  where
    go : (t : Bool) → same_lists eqb (take 13 l) closing_word ≡ t → t ≡ false
    go true e =
        let whole : l ≡ closing_word ++ drop 13 l = sym (take-append-drop 13 l) ∙ ap (λ (f : List ℕ). f ++ drop 13 l) (numbers-equal (take 13 l) closing_word e) in
        sym h ∙ ap (lacks 101) whole
    go false e = refl

-- what the functions on it need
pub ruleset closings = (length-closing, short-closing, laid-closing, laid-length, laid-front, length_digits)
