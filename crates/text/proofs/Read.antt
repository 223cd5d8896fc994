-- A turn of `spell`, on lists. Assumes nothing.
use Rattle.std.specs.Prelude.{Some, None}
use Prim.Native.Nat.{ℕ, ◌+◌, ◌-◌, ◌*◌, ◌^◌, ◌<◌, ◌≤◌}
use native.Mathlib.Nat.{pow-suc, pow-le-pow_right}
use native.Mathlib.Numerals.{add-one}
use native.Mathlib.Omega.{arith}
use mathlib.Core.Bool.{true, false}
use mathlib.Core.Path.{◌≡◌, refl}
use mathlib.Core.List.{List}
use lib.ListN.{length, get_or, drop, drop_of_length-le}
use lib.Seq.{drop-cons}
use lib.Dec.{leb}
use borrow.Author.Tests.{leb-true}
use Rattle.std.specs.Char.{is_ascii_digit}
use Rattle.laws.proofs.Tests.{and_left, and_right}
use Rattle.laws.specs.Lists.{all}
use Rattle.laws.specs.Digits.{is_digit, spelt}
use Rattle.text.specs.Spelt.{spells}

-- what std asks of a byte is what a digit is
pub digit_between : (x : ℕ) → is_ascii_digit x ≡ true → (48 ≤ x) × (x ≤ 57)
digit_between x p = (leb-true 48 x (and_left (leb 48 x) (leb x 57) p), leb-true x 57 (and_right (leb 48 x) (leb x 57) p))

module _ (f : List ℕ) (n i : ℕ) (h : i < length f) where
  pub turn : is_ascii_digit (get_or f i 0) ≡ true → spells n (drop i f) ≡ spells (n * 10 + (get_or f i 0 - 48)) (drop (i + 1) f)
  unfolding spells all is_digit spelt
  turn d = rw (add-one, drop-cons f i 0, d) refl

  pub no_digit : is_ascii_digit (get_or f i 0) ≡ false → spells n (drop i f) ≡ None
  unfolding spells all is_digit spelt
  no_digit d = rw (drop-cons f i 0, d) refl

pub done : (f : List ℕ) (n i : ℕ) → length f ≤ i → spells n (drop i f) ≡ Some n
unfolding spells all is_digit spelt
done f n i h = rw (drop_of_length-le f)

-- what i digits behind at most 1 spell
pub bound : (n i : ℕ) → n < 2 * 10 ^ i → i < 18 → n < 200_000_000_000_000_000
bound n i h k = omega (arith, pow-le-pow_right {n = 10} (omega arith) {i = i} {j = 17} (omega arith))

pub bound-more : (n d i : ℕ) → n < 2 * 10 ^ i → d < 10 → n * 10 + d < 2 * 10 ^ (i + 1)
bound-more n d i h k = rw (add-one, pow-suc) (omega arith)
