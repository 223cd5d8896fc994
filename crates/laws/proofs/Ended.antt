-- Pieces that end with a separator, put together and cut apart again. Assumes nothing.
use mathlib.Core.Path.{◌≡◌, refl, sym, ap, ◌∙◌}
use mathlib.Core.Bool.{true}
use mathlib.Core.List.{List, [], ◌∷◌, ◌++◌, append_assoc}
use Prim.Native.Nat.{ℕ}
use Rattle.laws.specs.Lists.{all}
use Rattle.laws.specs.Split.{split, joined, lacks}
use Rattle.laws.specs.Ended.{ended}
use Rattle.laws.proofs.Tests.{and_left, and_right}
use Rattle.laws.proofs.Split.{split-more, joined-split}

pub ended-append : (sep : ℕ) (ls ms : List (List ℕ)) → ended sep (ls ++ ms) ≡ ended sep ls ++ ended sep ms
unfolding ended
ended-append sep [] ms = refl
ended-append sep (l ∷ ls) ms = ap (λ (r : List ℕ). l ++ sep ∷ r) (ended-append sep ls ms) ∙ sym (append_assoc l (sep ∷ ended sep ls) (ended sep ms))

-- the pieces that were ended are found again, in front of the pieces of what follows
pub split-ended : (sep : ℕ) (ls : List (List ℕ)) (s : List ℕ) → all (lacks sep) ls ≡ true → split sep (ended sep ls ++ s) ≡ ls ++ split sep s
unfolding all ended
split-ended sep [] s p = refl
split-ended sep (l ∷ ls) s p =
    ap (split sep) (append_assoc l (sep ∷ ended sep ls) s)
    ∙ split-more sep l (ended sep ls ++ s) (and_left (lacks sep l) (all (lacks sep) ls) p)
    ∙ ap (λ (fs : List (List ℕ)). l ∷ fs) (split-ended sep ls s (and_right (lacks sep l) (all (lacks sep) ls) p))

joined-ended : (sep : ℕ) (ls : List (List ℕ)) → joined sep (ls ++ ([] ∷ [])) ≡ ended sep ls
unfolding ended
joined-ended sep [] = refl
joined-ended sep (l ∷ []) = refl
joined-ended sep (l ∷ m ∷ ls) = ap (λ (r : List ℕ). l ++ sep ∷ r) (joined-ended sep (m ∷ ls))

-- a list whose last piece is empty is the other pieces, each ended
pub ended-split : (sep : ℕ) (s : List ℕ) (ls : List (List ℕ)) → split sep s ≡ ls ++ ([] ∷ []) → s ≡ ended sep ls
ended-split sep s ls e = sym (joined-split sep s) ∙ ap (joined sep) e ∙ joined-ended sep ls
