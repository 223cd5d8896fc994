-- The numbers of two, three and five bytes, as the code puts them together. Assumes nothing.
use mathlib.Core.Path.{◌≡◌, ap}
use mathlib.Core.List.{List}
use Prim.Native.Nat.{ℕ, ◌+◌, ◌*◌, ◌≤◌}
use native.Mathlib.Omega.{arith}
use lib.ListN.{length, get_or}
use Rattle.laws.specs.Words.{word_at}
use Rattle.laws.proofs.Words.{word_none, word_more}

module _ (xs : List ℕ) (at : ℕ) where
  pub word-one : at + 1 ≤ length xs → word_at 1 xs at ≡ get_or xs at 0
  word-one h = omega (arith, word_more 0 xs at (omega arith), word_none xs (at + 1))

  pub word_two : at + 2 ≤ length xs → word_at 2 xs at ≡ get_or xs at 0 + 256 * get_or xs (at + 1) 0
  word_two h = omega (arith, word_more 1 xs at (omega arith), word_more 0 xs (at + 1) (omega arith), word_none xs (at + 1 + 1))

  pub word_three : at + 3 ≤ length xs → word_at 3 xs at ≡ get_or xs at 0 + 256 * get_or xs (at + 1) 0 + 65536 * get_or xs (at + 2) 0
  word_three h =
      let next : at + 1 + 1 ≡ at + 2 = omega arith in
      let last : get_or xs (at + 1 + 1) 0 ≡ get_or xs (at + 2) 0 = ap (λ (j : ℕ). get_or xs j 0) next in
      omega
      (arith, word_more 2 xs at (omega arith), word_more 1 xs (at + 1) (omega arith), word_more 0 xs (at + 1 + 1) (omega arith), word_none xs (at + 1 + 1 + 1))

  pub word_five : at + 5 ≤ length xs → word_at 5 xs at ≡ word_at 2 xs at + 65536 * word_at 3 xs (at + 2)
  word_five h =
      let next : at + 1 + 1 ≡ at + 2 = omega arith in
      let rest : word_at 3 xs (at + 1 + 1) ≡ word_at 3 xs (at + 2) = ap (word_at 3 xs) next in
      omega (arith, word_more 4 xs at (omega arith), word_more 3 xs (at + 1) (omega arith), word_two (omega arith))
