-- Numbers laid one behind the other into a list. Assumes nothing.
use mathlib.Core.Path.{sym, ap, ◌∙◌}
use mathlib.Core.List.{List, [], ◌∷◌, ◌++◌, append_assoc, append-nil}
use Prim.Native.Nat.{ℕ, ◌+◌, ◌<◌}
use native.Mathlib.Numerals.{add-one}
use native.Mathlib.Omega.{arith}
use lib.ListN.{length, take, set, length-append}
use lib.Seq.{take-suc-set}
use Rattle.working.specs.Working.{Behind}

pub behind-none : (l : List ℕ) (at : ℕ) → Behind l at [] l at
behind-none l at = record { counted = omega arith; laid = sym (append-nil (take at l)) }

-- one more
pub behind_more : {before after keys : List ℕ} {at k : ℕ} (v : ℕ) → k < length after → Behind before at keys after k → Behind before at (keys ++ (v ∷ [])) (set after k v) (k + 1)
behind_more {before} {after} {keys} {at} {k} v h b = record {
  counted = omega (arith, b.counted, length-append keys (v ∷ []));
  laid =
      ap (λ (j : ℕ). take j (set after k v)) (add-one k) ∙ take-suc-set after k v h
      ∙ ap (λ (l : List ℕ). l ++ (v ∷ [])) b.laid
      ∙ append_assoc (take at before) keys (v ∷ []);
}
