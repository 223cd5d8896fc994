-- Decimal digits: what a list of bytes spells, and how a number is spelt. Assumes nothing: these are definitions.
use Rattle.std.specs.Prelude.{ℕ, zero, suc, ◌+◌, ◌-◌, ◌*◌, ◌/◌, ◌%◌, Bool, cond, ◌&&◌, List, [], ◌∷◌, ◌++◌, leb, ltb}
use Rattle.laws.specs.Lists.{all}

-- '0' is 48 and '9' is 57
unfoldable pub is_digit : ℕ → Bool
is_digit b = leb 48 b && leb b 57

abbrev pub all_digits : List ℕ → Bool
all_digits f = all is_digit f

-- the number n with the digits of f appended
unfoldable pub spelt : ℕ → List ℕ → ℕ
spelt n [] = n
spelt n (b ∷ f) = spelt (n * 10 + (b - 48)) f

-- the last k digits of n
unfoldable pub digits : ℕ → ℕ → List ℕ
digits zero n = []
digits (suc k) n = digits k (n / 10) ++ (48 + n % 10) ∷ []

-- n without its last k digits
unfoldable pub down : ℕ → ℕ → ℕ
down zero n = n
down (suc k) n = down k (n / 10)

-- how many digits follow the first digit of n, counted up to `most`
unfoldable pub size_of : ℕ → ℕ → ℕ
size_of zero n = zero
size_of (suc most) n = cond (ltb n 10) zero (suc (size_of most (n / 10)))
