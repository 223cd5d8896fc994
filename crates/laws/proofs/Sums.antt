-- Sums over a range: they grow with their end, and a number lies in one place among them. Assumes nothing.
use mathlib.Core.Path.{◌≡◌, refl, sym}
use Prim.Native.Nat.{ℕ, zero, suc, ◌+◌, ◌-◌, ◌≤◌, ◌<◌}
use native.Mathlib.Nat.{add-zero, add-suc, le_refl}
use native.Mathlib.Omega.{arith}
use Rattle.laws.specs.Sums.{sum_to}

pub sum_to-suc : (f : ℕ → ℕ) (n : ℕ) → sum_to f (suc n) ≡ sum_to f n + f n
unfolding sum_to
sum_to-suc f n = refl

-- a sum grows with its end
pub sum_to-grows : (f : ℕ → ℕ) (i n : ℕ) → sum_to f i ≤ sum_to f (i + n)
sum_to-grows f i zero = rw add-zero (le_refl (sum_to f i))
sum_to-grows f i (suc n) = rw add-suc (omega (arith, sum_to-suc f (i + n), sum_to-grows f i n))

pub sum_to-mono : (f : ℕ → ℕ) (i j : ℕ) → i ≤ j → sum_to f i ≤ sum_to f j
sum_to-mono f i j h =
    let e : i + (j - i) ≡ j = omega arith in
    rw e at (sum_to-grows f i (j - i))

-- where a number lies among the sums: at one place alone
not-before : (f : ℕ → ℕ) (i j a b : ℕ) → a < f i → sum_to f i + a ≡ sum_to f j + b → i < j → ⊥
not-before f i j a b h e p = omega (arith, sum_to-mono f (suc i) j p, sum_to-suc f i)

pub sum_to-place : (f : ℕ → ℕ) (i j a b : ℕ) → a < f i → b < f j → sum_to f i + a ≡ sum_to f j + b → i ≡ j
sum_to-place f i j a b h k e =
    let l : i < j → ⊥ = not-before f i j a b h e in
    let m : j < i → ⊥ = not-before f j i b a k (sym e) in
    omega arith
