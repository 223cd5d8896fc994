-- Rule 5 of 4.4.2, over the digits of the two number fields: which pairs are the first and the last number of a block.
-- Assumes nothing: these are definitions.
use Rattle.std.specs.Prelude.{ℕ, suc, ◌-◌, Bool, ◌&&◌, List, leb, eqb, length, get_or, take, drop}
use Rattle.laws.specs.Lists.{all, any, table, same_lists}

-- the last n digits of f, and f without them
abbrev pub last_digits : ℕ → List ℕ → List ℕ
last_digits n f = drop (length f - n) f

abbrev pub without : ℕ → List ℕ → List ℕ
without n f = take (length f - n) f

unfoldable pub is : ℕ → ℕ → Bool
is d b = eqb b d

-- f ends in n zeros (48), in n nines (57)
abbrev pub ends_in : ℕ → ℕ → List ℕ → Bool
ends_in d n f = all (is d) (last_digits n f)

-- the last digit; that of an empty list is 0
abbrev pub last_digit : List ℕ → ℕ
last_digit f = get_or f (length f - 1) 48

-- a and b differ at most in the last digit, that of a being the smaller or equal one
unfoldable pub nearly : List ℕ → List ℕ → Bool
nearly a b = same_lists eqb (without 1 a) (without 1 b) && leb (last_digit a) (last_digit b)

-- a ends in n zeros and b in n nines, and without these n digits they differ at most in the last digit, that of a being the smaller or equal one
unfoldable pub decade_by : List ℕ → List ℕ → ℕ → Bool
decade_by a b n = ends_in 48 n a && (ends_in 57 n b && nearly (without n a) (without n b))

-- for some n of at least 1
unfoldable pub some_decade : List ℕ → List ℕ → Bool
some_decade a b = any (decade_by a b) (table (length a) suc)

-- two numbers of as many digits, for some n of at least 1
unfoldable pub block : List ℕ → List ℕ → Bool
block a b = eqb (length a) (length b) && some_decade a b
