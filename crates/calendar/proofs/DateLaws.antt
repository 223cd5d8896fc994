-- Laws of years and months: how many days they have, where they start, and in which one a day lies.
-- Assumes nothing.
use mathlib.Core.Path.{◌≡◌, refl, sym, ap, ◌∙◌}
use mathlib.Core.Bool.{Bool, true, false, cond, not}
use mathlib.Core.Logic.{⊎_elim}
use mathlib.Core.List.{List}
use Prim.Native.Nat.{ℕ, zero, suc, ◌+◌, ◌-◌, ◌*◌, ◌/◌, ◌%◌, ◌≤◌, ◌<◌, zero-le}
use native.Mathlib.Numerals.{add-one}
use native.Mathlib.Omega.{arith}
use lib.Dec.{leb, ltb, eqb, lit≤}
use lib.ListN.{get_or, get_or-eq_default}
use borrow.Author.Tests.{le-leb, lt-leb, leb-true, leb-false, eqb-true, eqb-false, lt-ltb, le-ltb}
use Rattle.laws.specs.Sums.{sum_to}
use Rattle.laws.proofs.Sums.{sum_to-suc, sum_to-mono}
use Rattle.laws.specs.Lists.{all, table}
use Rattle.laws.proofs.Tables.{all-at, tested}
use Rattle.laws.proofs.Tests.{cond-le, le-or-lt}
use Rattle.calendar.specs.Dates.{last_day, leap, year_days, months, month_days, year_start, month_start, last_from, year_of, month_of}

-- ---- how many days
pub year_days-le : (y : ℕ) → year_days y ≤ 366
unfolding year_days
year_days-le y = cond-le (leap y) 366 365 366 (lit≤ tt) (lit≤ tt)

-- outside February the table of an ordinary year has the days
pub month_days-plain : (y m : ℕ) → (m ≡ 2 → ⊥) → month_days y m ≡ get_or (months false) m 0
unfolding month_days
month_days-plain y zero h = refl
month_days-plain y (suc zero) h = refl
month_days-plain y (suc (suc zero)) h = absurd (h refl)
month_days-plain y (suc (suc (suc m))) h = refl

pub month_days-february : (y : ℕ) → month_days y 2 ≡ cond (leap y) 29 28
unfolding month_days
month_days-february y = refl

pub month_days-none : (y m : ℕ) → 12 < m → month_days y m ≡ 0
unfolding month_days
month_days-none y m h = get_or-eq_default (months (leap y)) 0 h

-- a month that has a day is one of the twelve
pub month-real : (y m : ℕ) → 1 ≤ month_days y m → m < 13
month-real y m h = ⊎_elim (λ (l : 13 ≤ m). absurd (omega (arith, month_days-none y m l))) (λ (l : m < 13). l) (le-or-lt 13 m)

-- no month is longer than 31 days: a test at each entry of the table, in both kinds of year
months-le : (b : Bool) (m : ℕ) → m < 13 → get_or (months b) m 0 ≤ 31
unfolding all
months-le true m h = leb-true _ _ (all-at (λ (x : ℕ). leb x 31) (months true) m 0 refl h)
months-le false m h = leb-true _ _ (all-at (λ (x : ℕ). leb x 31) (months false) m 0 refl h)

pub month_days-le : (y m : ℕ) → month_days y m ≤ 31
unfolding month_days
month_days-le y m = ⊎_elim (λ (h : 13 ≤ m). omega (arith, month_days-none y m h)) (λ (h : m < 13). months-le (leap y) m h) (le-or-lt 13 m)

-- ---- in the calendar each fourth year is a leap year: a test of each
unfoldable leap_in : ℕ → Bool
leap_in i = cond (eqb ((1998 + i) % 4) 0) (leap (1998 + i)) (not (leap (1998 + i)))

leaps-in : all leap_in (table 52 (λ (i : ℕ). i)) ≡ true
unfolding leap_in all table leap
leaps-in = refl

agree : (t x : Bool) → cond t x (not x) ≡ true → t ≡ x
agree true x h = sym h
agree false true h = h
agree false false h = refl

pub leap-in : (y : ℕ) → 1998 ≤ y → y ≤ 2049 → eqb (y % 4) 0 ≡ leap y
unfolding leap_in
leap-in y low high =
    let e : 1998 + (y - 1998) ≡ y = omega arith in
    let same : eqb ((1998 + (y - 1998)) % 4) 0 ≡ leap (1998 + (y - 1998)) = agree _ _ (tested leap_in 52 leaps-in (y - 1998) (omega arith)) in
    rw e at same

-- ---- where they start
pub year_start-next : (y : ℕ) → 1998 ≤ y → y ≤ 2049 → year_start (y + 1) ≡ year_start y + year_days y
unfolding year_start year_days
year_start-next y low high = go (eqb (y % 4) 0) refl
  where
    go : (t : Bool) → eqb (y % 4) 0 ≡ t → year_start (y + 1) ≡ year_start y + cond (leap y) 366 365
    go true e = let yes : y % 4 ≡ 0 = eqb-true _ _ e in rw (sym (leap-in y low high) ∙ e) (omega arith)
    go false e = let no : y % 4 ≡ 0 → ⊥ = eqb-false _ _ e in rw (sym (leap-in y low high) ∙ e) (omega arith)

pub year_start-mono : (y z : ℕ) → y ≤ z → year_start y ≤ year_start z
unfolding year_start
year_start-mono y z h = omega arith

-- none starts after 1 January 2049
pub year_start-le : (y : ℕ) → y ≤ 2049 → year_start y ≤ 18628
unfolding year_start
year_start-le y h = omega arith

pub month_start-next : (y m : ℕ) → month_start y (m + 1) ≡ month_start y m + month_days y m
unfolding month_start
month_start-next y m = rw add-one (sum_to-suc (month_days y) m)

pub month_start-mono : (y m n : ℕ) → m ≤ n → month_start y m ≤ month_start y n
unfolding month_start
month_start-mono y m n h = sum_to-mono (month_days y) m n h

-- the 52 years make the calendar
pub year_start-end : year_start 2050 ≡ suc last_day
unfolding year_start
year_start-end = refl

-- the twelve months make the year
months-sum : (b : Bool) → sum_to (λ m. get_or (months b) m 0) 13 ≡ cond b 366 365
unfolding sum_to
months-sum true = refl
months-sum false = refl

pub month_start-end : (y : ℕ) → month_start y 13 ≡ year_days y
unfolding month_start month_days year_days
month_start-end y = months-sum (leap y)

pub month_start-le : (y m : ℕ) → month_start y m ≤ 31 * m
unfolding month_start sum_to
month_start-le y zero = zero-le
month_start-le y (suc m) = rw (← (add-one m)) (omega (arith, month_start-next y m, month_days-le y m, month_start-le y m))

-- ---- where the months start, by a table of a year that has no leap day
unfoldable pub month_starts : List ℕ
month_starts = table 13 (sum_to (λ k. get_or (months false) k 0))

-- a leap day lies before the months from March on: a test at each entry of the table, in both kinds of year
unfoldable month_in : Bool → ℕ → Bool
month_in b m = eqb (get_or month_starts m 0 + cond (ltb m 3) 0 (cond b 1 0)) (sum_to (λ k. get_or (months b) k 0) m)

months-in : (b : Bool) → all (month_in b) (table 13 (λ (i : ℕ). i)) ≡ true
unfolding month_in month_starts all table sum_to
months-in true = refl
months-in false = refl

month-in : (y m : ℕ) → m ≤ 12 → get_or month_starts m 0 + cond (ltb m 3) 0 (cond (leap y) 1 0) ≡ month_start y m
unfolding month_start month_days month_in
month-in y m h = eqb-true _ _ (tested (month_in (leap y)) 13 (months-in (leap y)) m (omega arith))

module _ (y m : ℕ) (h : m ≤ 12) where
  pub month-early : m < 3 → get_or month_starts m 0 ≡ month_start y m
  month-early l = omega (arith, rw (lt-ltb m 3 l) at (month-in y m h))

  pub month-leap : 3 ≤ m → leap y ≡ true → get_or month_starts m 0 + 1 ≡ month_start y m
  month-leap l e = rw (le-ltb m 3 l, e) at (month-in y m h)

  pub month-plain : 3 ≤ m → leap y ≡ false → get_or month_starts m 0 ≡ month_start y m
  month-plain l e = omega (arith, rw (le-ltb m 3 l, e) at (month-in y m h))

-- ---- in which one a number lies: the last of k that starts not after it
module _ (start : ℕ → ℕ) (mono : (i j : ℕ) → i ≤ j → start i ≤ start j) (n : ℕ) where
  pub last_from-is : (k i : ℕ) → i < k → start i ≤ n → n < start (i + 1) → last_from start k n ≡ i
  unfolding last_from
  last_from-is zero i h p q = absurd (omega arith)
  last_from-is (suc k) i h p q = go (leb (start k) n) refl (λ (l : i < k). last_from-is k i l p q)
    where
      go : (t : Bool) → leb (start k) n ≡ t → (i < k → last_from start k n ≡ i) → cond t k (last_from start k n) ≡ i
      go true e ih = ⊎_elim (λ (l : k ≤ i). omega arith) (λ (l : i < k). absurd (omega (arith, leb-true (start k) n e, mono (i + 1) k (omega arith)))) (le-or-lt k i)
      go false e ih = ⊎_elim (λ (l : k ≤ i). absurd (omega (arith, leb-false (start k) n e, mono k i l))) ih (le-or-lt k i)

  pub last_from-from : (k : ℕ) → start 0 ≤ n → start (last_from start k n) ≤ n
  unfolding last_from
  last_from-from zero h = h
  last_from-from (suc k) h = go (leb (start k) n) refl (last_from-from k h)
    where
      go : (t : Bool) → leb (start k) n ≡ t → start (last_from start k n) ≤ n → start (cond t k (last_from start k n)) ≤ n
      go true e ih = leb-true (start k) n e
      go false e ih = ih

  pub last_from-to : (k : ℕ) → start 0 ≤ n → n < start k → (last_from start k n < k) × (n < start (last_from start k n + 1))
  unfolding last_from
  last_from-to zero h p = absurd (omega arith)
  last_from-to (suc k) h p = go (leb (start k) n) refl (λ (l : n < start k). last_from-to k h l)
    where
      go : (t : Bool) → leb (start k) n ≡ t → (n < start k → (last_from start k n < k) × (n < start (last_from start k n + 1)))
          → (cond t k (last_from start k n) < suc k) × (n < start (cond t k (last_from start k n) + 1))
      go true e ih = (omega arith, rw add-one p)
      go false e ih = let q = ih (leb-false (start k) n e) in (omega arith, q.1)

-- the day n lies in the year y
pub record YearAt (n y : ℕ) : Type 0 where
  pub first : 1998 ≤ y
  pub last : y ≤ 2049
  pub from : year_start y ≤ n
  pub to : n < year_start y + year_days y

month-zero : (y n m : ℕ) → m < 2 → month_start y m ≤ n
unfolding month_start sum_to month_days
month-zero y n zero h = zero-le
month-zero y n (suc zero) h = zero-le
month-zero y n (suc (suc m)) h = absurd (omega arith)

-- the months tried from the last one back: the day does not lie before this one, or it does
module _ (start : ℕ → ℕ) (n k : ℕ) (h : 0 < k) where
  pub last_from-here : start (k - 1) ≤ n → last_from start k n ≡ k - 1
  unfolding last_from
  last_from-here p =
      let e : k ≡ suc (k - 1) = omega arith in
      ap (λ (i : ℕ). last_from start i n) e ∙ rw (le-leb (start (k - 1)) n p)

  pub last_from-on : n < start (k - 1) → last_from start k n ≡ last_from start (k - 1) n
  unfolding last_from
  last_from-on p =
      let e : k ≡ suc (k - 1) = omega arith in
      ap (λ (i : ℕ). last_from start i n) e ∙ rw (lt-leb (start (k - 1)) n p)

-- before February it is January
pub month-one : (y n : ℕ) → last_from (month_start y) 2 n ≡ 1
month-one y n = last_from-here (month_start y) n 2 (omega arith) (month-zero y n 1 (omega arith))

-- the day n of the year y, from 0, lies in month m
pub record MonthAt (y n m : ℕ) : Type 0 where
  pub first : 1 ≤ m
  pub last : m ≤ 12
  pub from : month_start y m ≤ n
  pub to : n < month_start y m + month_days y m

pub month-is : (y n m : ℕ) → MonthAt y n m → month_of y n ≡ m
unfolding month_of
month-is y n m h =
    last_from-is (month_start y) (month_start-mono y) n 13 m (omega arith) h.from (omega (arith, month_start-next y m))

-- the year 1998 + i has begun by the day n exactly if 1461 * i is at most 4 * n + 2
year-from : (i n : ℕ) → 1461 * i ≤ 4 * n + 2 → year_start (1998 + i) ≤ n
unfolding year_start
year-from i n h = omega arith

year-to : (i n : ℕ) → 4 * n + 2 < 1461 * (i + 1) → n < year_start (1998 + i + 1)
unfolding year_start
year-to i n h = omega arith

-- each day of the calendar lies in its year, each day of a year in its month
pub year-at : (n : ℕ) → n ≤ last_day → YearAt n (year_of n)
unfolding year_of
year-at n h =
    let i : ℕ = (4 * n + 2) / 1461 in
    let last : 1998 + i ≤ 2049 = omega arith in
    record { first = omega arith; last = last; from = year-from i n (omega arith); to = omega (arith, year-to i n (omega arith), year_start-next (1998 + i) (omega arith) last) }

pub month-at : (y n : ℕ) → n < year_days y → MonthAt y n (month_of y n)
unfolding month_of
month-at y n h =
    let m : ℕ = last_from (month_start y) 13 n in
    let low : month_start y 0 ≤ n = month-zero y n 0 (omega arith) in
    let to = last_from-to (month_start y) (month_start-mono y) n 13 low (omega (arith, month_start-end y)) in
    let one : 1 ≤ m = ⊎_elim (λ (l : 1 ≤ m). l) (λ (l : m < 1). absurd (omega (arith, to.1, month-zero y n (m + 1) (omega arith)))) (le-or-lt 1 m) in
    record { first = one; last = omega arith; from = last_from-from (month_start y) (month_start-mono y) n 13 low; to = omega (arith, to.1, month_start-next y m) }

-- the same of a year, its start and a month that were found
pub year-found : (n y : ℕ) → n ≤ last_day → y ≡ year_of n → YearAt n y
year-found n y h e = rw e (year-at n h)

pub month-found : (n y s m : ℕ) → n ≤ last_day → y ≡ year_of n → s ≡ year_start y → m ≡ month_of y (n - s) → MonthAt y (n - s) m
month-found n y s m h e f g = rw g (month-at y (n - s) (let at = year-found n y h e in omega arith))
