-- Numbers in bytes, the lowest first. Assumes nothing: these are definitions.
use Rattle.std.specs.Prelude.{ℕ, zero, suc, ◌+◌, ◌*◌, ◌/◌, ◌%◌, List, [], ◌∷◌}
use Rattle.laws.specs.Overlay.{part}

-- the k lowest bytes of a number
unfoldable pub low_first : ℕ → ℕ → List ℕ
low_first zero n = []
low_first (suc k) n = n % 256 ∷ low_first k (n / 256)

-- the number whose bytes these are
unfoldable pub word_of : List ℕ → ℕ
word_of [] = 0
word_of (b ∷ bs) = b + 256 * word_of bs

-- the number in the k bytes from the place `at` on
unfoldable pub word_at : ℕ → List ℕ → ℕ → ℕ
word_at k xs at = word_of (part xs at k)
