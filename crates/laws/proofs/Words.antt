-- Numbers in bytes, the lowest first: what was written is read, what stands elsewhere is read as before. Assumes nothing.
use mathlib.Core.Path.{◌≡◌, refl, sym, ap, ap₂, ◌∙◌}
use mathlib.Core.Bool.{true}
use mathlib.Core.List.{List, [], ◌∷◌, ◌++◌}
use Prim.Native.Nat.{ℕ, zero, suc, ◌+◌, ◌*◌, ◌/◌, ◌%◌, ◌^◌, ◌≤◌, ◌<◌}
use native.Mathlib.Nat.{pow-suc}
use native.Mathlib.Omega.{arith}
use lib.Dec.{ltb}
use lib.ListN.{length, take, drop, get_or}
use lib.Seq.{drop-cons, take_at, drop_at, drop-drop}
use native.Mathlib.Numerals.{add-one}
use borrow.Author.Tests.{ltb-true}
use Rattle.laws.specs.Lists.{all}
use Rattle.laws.specs.Overlay.{overlay, part}
use Rattle.laws.specs.Words.{low_first, word_of, word_at}
use Rattle.laws.proofs.Tests.{and_left, and_right}
use Rattle.laws.proofs.Overlay.{part_same, part-before, part-part}

pub length-low_first : (k n : ℕ) → length (low_first k n) ≡ k
unfolding low_first
length-low_first zero n = refl
length-low_first (suc k) n = ap suc (length-low_first k (n / 256))

-- the bytes of a number that fits make the number
pub word-low_first : (k n : ℕ) → n < 256 ^ k → word_of (low_first k n) ≡ n
unfolding low_first word_of
word-low_first zero n h = omega arith
word-low_first (suc k) n h = ap (λ (m : ℕ). n % 256 + 256 * m) (word-low_first k (n / 256) (less h)) ∙ omega arith
  where
    less : n < 256 ^ suc k → n / 256 < 256 ^ k
    less b = let e : 256 ^ suc k ≡ 256 ^ k * 256 = pow-suc 256 k in omega arith

-- and bytes are those of the number that they make
pub low_first-word : (bs : List ℕ) → all (λ (b : ℕ). ltb b 256) bs ≡ true → low_first (length bs) (word_of bs) ≡ bs
unfolding low_first word_of all
low_first-word [] h = refl
low_first-word (b ∷ bs) h =
    let fits : b < 256 = ltb-true b 256 (and_left (ltb b 256) (all (λ (b : ℕ). ltb b 256) bs) h) in
    let low : (b + 256 * word_of bs) % 256 ≡ b = omega arith in
    let high : (b + 256 * word_of bs) / 256 ≡ word_of bs = omega arith in
    ap₂ (λ (x y : ℕ). x ∷ low_first (length bs) y) low high
    ∙ ap (λ (l : List ℕ). b ∷ l) (low_first-word bs (and_right (ltb b 256) (all (λ (b : ℕ). ltb b 256) bs) h))

-- they make a number that fits
pub word_below : (bs : List ℕ) → all (λ (b : ℕ). ltb b 256) bs ≡ true → word_of bs < 256 ^ length bs
unfolding word_of all
word_below [] h = omega arith
word_below (b ∷ bs) h =
    let fits : b < 256 = ltb-true b 256 (and_left (ltb b 256) (all (λ (b : ℕ). ltb b 256) bs) h) in
    let ih : word_of bs < 256 ^ length bs = word_below bs (and_right (ltb b 256) (all (λ (b : ℕ). ltb b 256) bs) h) in
    let e : 256 ^ suc (length bs) ≡ 256 ^ length bs * 256 = pow-suc 256 (length bs) in
    omega arith

-- ---- in a buffer
-- what was written is read
pub word_same : (k : ℕ) (xs : List ℕ) (at n : ℕ) → at + k ≤ length xs → n < 256 ^ k → word_at k (overlay xs at (low_first k n)) at ≡ n
unfolding word_at
word_same k xs at n h b =
    ap word_of (part_same xs at (low_first k n) k (omega (arith, length-low_first k n)) (length-low_first k n)) ∙ word-low_first k n b

-- what stands elsewhere is read as before
pub word-before : (k : ℕ) (xs : List ℕ) (at : ℕ) (ys : List ℕ) (j : ℕ) → j + k ≤ at → word_at k (overlay xs at ys) j ≡ word_at k xs j
unfolding word_at
word-before k xs at ys j h = ap word_of (part-before xs at ys j k h)

-- a number in a part
pub word-part : (k : ℕ) (xs : List ℕ) (at n i : ℕ) → i + k ≤ n → word_at k (part xs at n) i ≡ word_at k xs (at + i)
unfolding word_at
word-part k xs at n i h = ap word_of (part-part xs at n i k h)

-- ---- one byte after the other, as code reads them
pub word_none : (xs : List ℕ) (at : ℕ) → word_at 0 xs at ≡ 0
unfolding word_at word_of part
word_none xs at = refl

pub word_more : (k : ℕ) (xs : List ℕ) (at : ℕ) → at < length xs → word_at (suc k) xs at ≡ get_or xs at 0 + 256 * word_at k xs (at + 1)
unfolding word_at word_of part
word_more k xs at h = rw (drop-cons xs at 0 h, add-one)

-- ---- numbers written one behind the other
pub word_first : (k n : ℕ) (rest : List ℕ) → n < 256 ^ k → word_at k (low_first k n ++ rest) 0 ≡ n
unfolding word_at part
word_first k n rest h = ap word_of (take_at (low_first k n) rest k (length-low_first k n)) ∙ word-low_first k n h

pub word-behind : (k j at : ℕ) (xs rest : List ℕ) → length xs ≡ j → word_at k (xs ++ rest) (j + at) ≡ word_at k rest at
unfolding word_at part
word-behind k j at xs rest e =
    ap (λ (l : List ℕ). word_of (take k l)) (sym (drop-drop at j (xs ++ rest)) ∙ ap (drop at) (drop_at xs rest j e))

pub word_next : (k j m at : ℕ) (rest : List ℕ) → word_at k (low_first j m ++ rest) (j + at) ≡ word_at k rest at
word_next k j m at rest = word-behind k j at (low_first j m) rest (length-low_first j m)
