-- Two running sums over a list of numbers. Assumes nothing: these are definitions.
use Rattle.std.specs.Prelude.{ℕ, ◌+◌, ◌%◌, ◌^◌, List, fold}
use Rattle.disk.specs.declared.sum.Sum.{Sum}

-- one number more: the first sum grows by it, the second by the first; both wrap as words of 64 bits do
unfoldable pub with_one : Sum → ℕ → Sum
with_one s x = record { a = (s.a + x) % 2 ^ 64; b = (s.b + (s.a + x) % 2 ^ 64) % 2 ^ 64 }

abbrev pub sum_over : Sum → List ℕ → Sum
sum_over s xs = fold with_one s xs

-- the sums before the first number
abbrev pub no_sum : Sum
no_sum = record { a = 1; b = 0 }
