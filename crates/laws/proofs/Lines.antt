-- What the answer of a table of rules (`first_line`) says of its lines. `is`: whether an answer is the one that is asked about. Assumes nothing.
--     line-passed      the table gives it, and no line up to i has it: line i does not apply
--     line-applied     the table gives it, and not for want of a line that applies: a line that has it applies
use mathlib.Core.Path.{◌≡◌, refl, sym, ◌∙◌}
use mathlib.Core.Bool.{Bool, true, false, cond, ◌&&◌, ◌||◌, true≢false}
use mathlib.Core.List.{List, [], ◌∷◌}
use Prim.Native.Nat.{ℕ, zero, suc, ◌<◌}
use native.Mathlib.Omega.{arith}
use lib.ListN.{length, get_or, take}
use Rattle.laws.specs.Lists.{any, first_line}
use Rattle.laws.proofs.Tests.{or_left, or_right}

module _ {A : Type 0} (is : A → Bool) where
  pub line-passed : (i : ℕ) (d : Bool × A) (ls : List (Bool × A)) (other : A) → i < length ls → any (λ (l : Bool × A). is l.1) (take (suc i) ls) ≡ false → is (first_line ls other) ≡ true → (get_or ls i d).0 ≡ false
  unfolding any
  line-passed i d [] other h n e = absurd (omega arith)
  line-passed zero d (l ∷ ls) other h n e = go l.0 e
    where
      go : (t : Bool) → is (cond t l.1 (first_line ls other)) ≡ true → t ≡ false
      go true e = sym e ∙ or_left (is l.1) false n
      go false e = refl
  line-passed (suc i) d (l ∷ ls) other h n e = go l.0 e (line-passed i d ls other (omega arith) (or_right (is l.1) (any (λ (l : Bool × A). is l.1) (take (suc i) ls)) n))
    where
      go : (t : Bool) → is (cond t l.1 (first_line ls other)) ≡ true → (is (first_line ls other) ≡ true → (get_or ls i d).0 ≡ false) → (get_or ls i d).0 ≡ false
      go true e ih = absurd (true≢false (sym e ∙ or_left (is l.1) (any (λ (l : Bool × A). is l.1) (take (suc i) ls)) n))
      go false e ih = ih e

  pub line-applied : (ls : List (Bool × A)) (other : A) → is other ≡ false → is (first_line ls other) ≡ true → any (λ (l : Bool × A). is l.1 && l.0) ls ≡ true
  unfolding any
  line-applied [] other n e = sym n ∙ e
  line-applied (l ∷ ls) other n e = go l.0 (is l.1) refl e (line-applied ls other n)
    where
      rest : Bool
      rest = any (λ (l : Bool × A). is l.1 && l.0) ls

      go : (t s : Bool) → is l.1 ≡ s → is (cond t l.1 (first_line ls other)) ≡ true → (is (first_line ls other) ≡ true → rest ≡ true) → ((s && t) || rest) ≡ true
      go true true q e ih = refl
      go true false q e ih = absurd (true≢false (sym e ∙ q))
      go false true q e ih = ih e
      go false false q e ih = ih e
