-- Pieces that each end with a separator. Assumes nothing: these are definitions.
use Rattle.std.specs.Prelude.{ℕ, List, [], ◌∷◌, ◌++◌}

-- each piece, followed by the separator
unfoldable pub ended : ℕ → List (List ℕ) → List ℕ
ended sep [] = []
ended sep (l ∷ ls) = l ++ sep ∷ ended sep ls
