-- What the contracts of the desk cite. Assumes nothing: these are definitions.
use Rattle.std.specs.Prelude.{ℕ, ◌+◌, min, ◌≡◌, List, [], ◌∷◌, ◌++◌, length}
use Rattle.laws.specs.Overlay.{overlay}

-- `src` was written into `before` from `at` on as far as there is room, and `next` is the place behind it
pub record Copied (before : List ℕ) (at : ℕ) (src after : List ℕ) (next : ℕ) : Type 0 where
  pub bytes : after ≡ overlay before at src
  pub ends : next ≡ min (at + length src) (length before)

-- FOLDER/NAME; with no folder it leads nowhere
abbrev pub path_of : List ℕ → List ℕ → List ℕ
path_of [] name = []
path_of (b ∷ folder) name = (b ∷ folder) ++ (47 ∷ name)
