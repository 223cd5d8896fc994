-- A list written into a list at a position. Assumes nothing: these are definitions.
use Rattle.std.specs.Prelude.{ℕ, ◌+◌, ◌≡◌, List, [], ◌∷◌, length, take, drop, set}

-- `xs` with `ys` written from the place `at` on, one element after the other. What would fall behind the end is not written.
unfoldable pub overlay : List ℕ → ℕ → List ℕ → List ℕ
overlay xs at [] = xs
overlay xs at (y ∷ ys) = overlay (set xs at y) (at + 1) ys

-- the `n` elements of `xs` from the place `at` on
unfoldable pub part : List ℕ → ℕ → ℕ → List ℕ
part xs at n = take n (drop at xs)

-- `before` with `ys` written from `at` on is `after`, and `next` is the place behind them
pub record Laid (before : List ℕ) (at : ℕ) (ys after : List ℕ) (next : ℕ) : Type 0 where
  pub bytes : after ≡ overlay before at ys
  pub ends : next ≡ at + length ys
