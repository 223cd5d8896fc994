-- Reading digits undoes writing them, and the other way round. Assumes nothing.
use Prim.Native.Nat.{ℕ, zero, suc, ◌+◌, ◌-◌, ◌*◌, ◌/◌, ◌%◌, ◌^◌, ◌<◌, ◌≤◌}
use native.Mathlib.Nat.{add-zero, zero-add, add-suc, mul_assoc, pow-succ', mul-le-mul_right, lt_of_lt_of_le}
use native.Mathlib.Numerals.{add-one}
use native.Mathlib.Omega.{arith}
use mathlib.Core.Path.{◌≡◌, refl, sym, ap, ◌∙◌}
use mathlib.Core.Bool.{Bool, true, false, cond}
use mathlib.Core.List.{List, [], ◌∷◌, ◌++◌, append_assoc, append-nil}
use lib.Dec.{leb, ltb}
use lib.ListN.{length, set, length-append}
use borrow.Author.Tests.{le-leb, lt-ltb, le-ltb, leb-true}
use Rattle.laws.specs.Lists.{all}
use Rattle.laws.specs.Overlay.{overlay}
use Rattle.laws.specs.Digits.{is_digit, all_digits, spelt, digits, down, size_of}
use Rattle.laws.proofs.Tests.{and_left, and_right, and-true}
use Rattle.laws.proofs.Tables.{all_more}
use Rattle.laws.proofs.Overlay.{overlay-last}

pub length_digits : (k n : ℕ) → length (digits k n) ≡ k
unfolding digits
length_digits zero n = refl
length_digits (suc k) n = rw (length-append, length_digits k (n / 10), add-one)

-- the digits but the last
pub digits-less : (i m : ℕ) → 0 < i → digits i m ≡ digits (i - 1) (m / 10) ++ (48 + m % 10) ∷ []
unfolding digits
digits-less zero m h = absurd (omega arith)
digits-less (suc i) m h =
    let e : i ≡ suc i - 1 = omega arith in
    ap (λ (j : ℕ). digits j (m / 10) ++ (48 + m % 10) ∷ []) e

-- a turn of `put_digits`
pub put-turn : (out : List ℕ) (at i m x : ℕ) → 0 < i → x ≡ 48 + m % 10 → overlay out at (digits i m) ≡ overlay (set out (at + (i - 1)) x) at (digits (i - 1) (m / 10))
put-turn out at i m x h e =
    ap (overlay out at) (digits-less i m h)
    ∙ overlay-last out at (digits (i - 1) (m / 10)) (48 + m % 10)
    ∙ rw (length_digits, e)

pub put-none : (out : List ℕ) (at i m : ℕ) → i ≤ 0 → overlay out at (digits i m) ≡ out
unfolding digits overlay
put-none out at zero m h = refl
put-none out at (suc i) m h = absurd (omega arith)

spelt-last : (n : ℕ) (l : List ℕ) (x : ℕ) → spelt n (l ++ x ∷ []) ≡ spelt n l * 10 + (x - 48)
unfolding spelt
spelt-last n [] x = refl
spelt-last n (y ∷ l) x = spelt-last (n * 10 + (y - 48)) l x

-- the digits that were written are read back
pub spelt-digits : (k n : ℕ) → spelt (down k n) (digits k n) ≡ n
unfolding digits down spelt
spelt-digits zero n = refl
spelt-digits (suc k) n =
    spelt-last (down k (n / 10)) (digits k (n / 10)) (48 + n % 10)
    ∙ ap (λ (q : ℕ). q * 10 + (48 + n % 10 - 48)) (spelt-digits k (n / 10))
    ∙ omega arith

pub all_digits_lem : (k n : ℕ) → all_digits (digits k n) ≡ true
unfolding all digits is_digit
all_digits_lem zero n = refl
all_digits_lem (suc k) n =
    all_more is_digit (digits k (n / 10)) (48 + n % 10)
    ∙ and-true _ _ (all_digits_lem k (n / 10)) (and-true _ _ (le-leb 48 (48 + n % 10) (omega arith)) (le-leb (48 + n % 10) 57 (omega arith)))

-- how many digits follow the first
pub size_none : (i m : ℕ) → m < 10 → size_of i m ≡ 0
unfolding size_of
size_none zero m k = refl
size_none (suc i) m k = rw (lt-ltb m 10 k)

pub size-more : (i m : ℕ) → 0 < i → 10 ≤ m → size_of i m ≡ suc (size_of (i - 1) (m / 10))
unfolding size_of
size-more zero m h k = absurd (omega arith)
size-more (suc i) m h k =
    let e : i ≡ suc i - 1 = omega arith in
    rw (le-ltb m 10 k) (ap (λ (j : ℕ). suc (size_of j (m / 10))) e)

pub size-first : (n most : ℕ) → size_of most n ≡ 0 + size_of (most - 0) n
size-first n most =
    let e : most ≡ most - 0 = omega arith in
    ap (λ (k : ℕ). size_of k n) e ∙ omega arith

-- a turn of `size`
pub size-turn : (most k m : ℕ) → k < most → 10 ≤ m → k + size_of (most - k) m ≡ k + 1 + size_of (most - (k + 1)) (m / 10)
size-turn most k m h b =
    let e : most - k - 1 ≡ most - (k + 1) = omega arith in
    ap (λ (j : ℕ). k + j) (size-more (most - k) m (omega arith) b ∙ ap (λ (j : ℕ). suc (size_of j (m / 10))) e)
    ∙ omega arith

pub size-end : (most k m : ℕ) → most ≤ k → size_of (most - k) m ≡ 0
unfolding size_of
size-end most k m h =
    let e : most - k ≡ 0 = omega arith in
    rw e

pub digit_low : (x : ℕ) → is_digit x ≡ true → 48 ≤ x
unfolding is_digit
digit_low x p = leb-true 48 x (and_left (leb 48 x) (leb x 57) p)

pub digit-high : (x : ℕ) → is_digit x ≡ true → x ≤ 57
unfolding is_digit
digit-high x p = leb-true x 57 (and_right (leb 48 x) (leb x 57) p)

pub spelt-below : (l : List ℕ) (n : ℕ) → all_digits l ≡ true → spelt n l < suc n * 10 ^ length l
unfolding all spelt
spelt-below [] n p = omega arith
spelt-below (x ∷ l) n p =
    let d = and_left (is_digit x) (all_digits l) p in
    let step : suc (n * 10 + (x - 48)) ≤ suc n * 10 = omega (arith, digit_low x d, digit-high x d) in
    let ih = spelt-below l (n * 10 + (x - 48)) (and_right (is_digit x) (all_digits l) p) in
    let more : suc n * 10 * 10 ^ length l ≡ suc n * 10 ^ suc (length l) = rw (pow-succ', mul_assoc) in
    rw more at (lt_of_lt_of_le ih (mul-le-mul_right (10 ^ length l) step))

digits-suc : (k n : ℕ) → digits (suc k) n ≡ digits k (n / 10) ++ (48 + n % 10) ∷ []
unfolding digits
digits-suc k n = refl

size-suc : (k n : ℕ) → 10 ≤ n → size_of (suc k) n ≡ suc (size_of k (n / 10))
unfolding size_of
size-suc k n h = rw (le-ltb n 10 h)

-- the bytes that were read are written again
pub digits-spelt : (l : List ℕ) (k n : ℕ) → all_digits l ≡ true → digits (k + length l) (spelt n l) ≡ digits k n ++ l
unfolding all spelt
digits-spelt [] k n p = rw (add-zero, append-nil)
digits-spelt (x ∷ l) k n p =
    let d = and_left (is_digit x) (all_digits l) p in
    let high : (n * 10 + (x - 48)) / 10 ≡ n = omega (arith, digit_low x d, digit-high x d) in
    let low : 48 + (n * 10 + (x - 48)) % 10 ≡ x = omega (arith, digit_low x d, digit-high x d) in
    let e : k + suc (length l) ≡ suc k + length l = omega arith in
    ap (λ (j : ℕ). digits j (spelt (n * 10 + (x - 48)) l)) e
    ∙ digits-spelt l (suc k) (n * 10 + (x - 48)) (and_right (is_digit x) (all_digits l) p)
    ∙ rw (digits-suc, high, low, append_assoc)

pub size-spelt : (l : List ℕ) (k n : ℕ) → all_digits l ≡ true → 1 ≤ n → size_of (k + length l) (spelt n l) ≡ size_of k n + length l
unfolding all spelt
size-spelt [] k n p h = rw (add-zero, add-zero)
size-spelt (x ∷ l) k n p h =
    let d = and_left (is_digit x) (all_digits l) p in
    let high : (n * 10 + (x - 48)) / 10 ≡ n = omega (arith, digit_low x d, digit-high x d) in
    let e : k + suc (length l) ≡ suc k + length l = omega arith in
    let big : 10 ≤ n * 10 + (x - 48) = omega arith in
    ap (λ (j : ℕ). size_of j (spelt (n * 10 + (x - 48)) l)) e
    ∙ size-spelt l (suc k) (n * 10 + (x - 48)) (and_right (is_digit x) (all_digits l) p) (omega arith)
    ∙ rw (size-suc, high) (omega arith)

-- a turn of `leading`
pub down_turn : (i m : ℕ) → 0 < i → down i m ≡ down (i - 1) (m / 10)
unfolding down
down_turn zero m h = absurd (omega arith)
down_turn (suc i) m h =
    let e : i ≡ suc i - 1 = omega arith in
    ap (λ (j : ℕ). down j (m / 10)) e

pub down-none : (i m : ℕ) → i ≤ 0 → down i m ≡ m
unfolding down
down-none zero m h = refl
down-none (suc i) m h = absurd (omega arith)

size_step : (t : Bool) (k x : ℕ) → x ≤ k → cond t zero (suc x) ≤ suc k
size_step true k x h = omega arith
size_step false k x h = omega arith

pub size-le : (k n : ℕ) → size_of k n ≤ k
unfolding size_of
size-le zero n = omega arith
size-le (suc k) n = size_step (ltb n 10) k (size_of k (n / 10)) (size-le k (n / 10))

-- ---- the last n digits, and the digits before them
pub digits_append : (j n p : ℕ) → digits (j + n) p ≡ digits j (down n p) ++ digits n p
unfolding digits down
digits_append j zero p = rw (add-zero, append-nil)
digits_append j (suc n) p =
    ap (λ (k : ℕ). digits k p) (add-suc j n)
    ∙ ap (λ (l : List ℕ). l ++ (48 + p % 10) ∷ []) (digits_append j n (p / 10))
    ∙ append_assoc (digits j (down n (p / 10))) (digits n (p / 10)) ((48 + p % 10) ∷ [])

pub down-down : (j n p : ℕ) → down j (down n p) ≡ down (j + n) p
unfolding down
down-down j zero p = ap (λ (k : ℕ). down k p) (sym (add-zero j))
down-down j (suc n) p = down-down j n (p / 10) ∙ ap (λ (k : ℕ). down k p) (sym (add-suc j n))

pub down-next : (n p : ℕ) → down (n + 1) p ≡ down n p / 10
unfolding down
down-next n p = let e : n + 1 ≡ 1 + n = omega arith in ap (λ (k : ℕ). down k p) e ∙ sym (down-down 1 n p)

-- without the digits that were read, what stood before them is left
pub down-spelt : (l : List ℕ) (n : ℕ) → all_digits l ≡ true → down (length l) (spelt n l) ≡ n
unfolding all spelt
down-spelt [] n p = unfold down in refl
down-spelt (x ∷ l) n p =
    let d = and_left (is_digit x) (all_digits l) p in
    let high : (n * 10 + (x - 48)) / 10 ≡ n = omega (arith, digit_low x d, digit-high x d) in
    let e : suc (length l) ≡ length l + 1 = omega arith in
    ap (λ (k : ℕ). down k (spelt (n * 10 + (x - 48)) l)) e
    ∙ down-next (length l) (spelt (n * 10 + (x - 48)) l)
    ∙ ap (λ (m : ℕ). m / 10) (down-spelt l (n * 10 + (x - 48)) (and_right (is_digit x) (all_digits l) p))
    ∙ high

-- ---- a field of a fixed width: k digits and nothing before them
pub down-small : (k n : ℕ) → n < 10 ^ k → down k n ≡ 0
unfolding down
down-small zero n h = omega arith
down-small (suc k) n h = down-small k (n / 10) (let e : n < 10 * 10 ^ k = rw (← pow-succ' 10 k) h in omega arith)

pub width-trip : (k n : ℕ) → n < 10 ^ k → spelt 0 (digits k n) ≡ n
width-trip k n h = rw (down-small k n h) at (spelt-digits k n)

pub width_back : (l : List ℕ) → all_digits l ≡ true → digits (length l) (spelt 0 l) ≡ l
unfolding digits
width_back l p = rw zero-add at (digits-spelt l 0 0 p)

pub width-below : (l : List ℕ) → all_digits l ≡ true → spelt 0 l < 10 ^ length l
width-below l p = omega (arith, spelt-below l 0 p)

-- a number of at most k + 1 digits
pub size_small : (k f n : ℕ) → n < 10 ^ suc k → size_of f n ≤ k
unfolding size_of
size_small k zero n h = omega arith
size_small zero (suc f) n h = rw (lt-ltb n 10 (omega arith)) (omega arith)
size_small (suc k) (suc f) n h =
    let less : n / 10 < 10 ^ suc k = omega (arith, pow-succ' 10 (suc k)) in
    size_step (ltb n 10) k (size_of f (n / 10)) (size_small k f (n / 10) less)
