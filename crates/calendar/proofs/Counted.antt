-- The closed rules and the count year by year agree on the whole calendar: both begin with 1998 at 0, and from each year to the next both grow by the days that it has.
use Rattle.std.specs.Prelude.{Option}
use Rattle.calendar.specs.declared.dates.CalendarDays.{CalendarDays}
-- Assumes nothing.
use Rattle.std.specs.Prelude.{Some, None}
use mathlib.Core.Path.{◌≡◌, refl, ap}
use mathlib.Core.Bool.{Bool, true, false, cond}
use Prim.Native.Nat.{ℕ, zero, suc, ◌+◌, ◌-◌, ◌≤◌, ◌<◌}
use native.Mathlib.Omega.{arith}
use lib.Dec.{leb}
use borrow.Author.Tests.{leb-true}
use Rattle.laws.specs.Sums.{sum_to}
use Rattle.laws.proofs.Sums.{sum_to-suc, sum_to-mono}
use Rattle.calendar.specs.Dates.{last_day, year_days, year_start, month_start, day_number, valid, year_of}
use Rattle.calendar.specs.Answers.{day_of, date_in, date_of}
use Rattle.calendar.specs.Counted.{counted_start, counted_number, counted_day, counted_year, counted_date, ClosedIsCounted}
use Rattle.calendar.specs.declared.dates.Date.{Date}
use Rattle.calendar.proofs.DateLaws.{year_start-next, last_from-is, year-at}
use Rattle.calendar.proofs.Dating.{valid-parts}

-- ---- from date to day
counted_start-next : (i : ℕ) → counted_start (1998 + suc i) ≡ counted_start (1998 + i) + year_days (1998 + i)
unfolding counted_start
counted_start-next i =
    let e : 1998 + suc i - 1998 ≡ suc i = omega arith in
    let f : 1998 + i - 1998 ≡ i = omega arith in
    rw (e, f) (sum_to-suc (λ (k : ℕ). year_days (1998 + k)) i)

both-begin : year_start 1998 ≡ counted_start 1998
unfolding year_start counted_start sum_to
both-begin = refl

-- 1 January of each year, and of the one after the last
both-grow : (i : ℕ) → i ≤ 52 → year_start (1998 + i) ≡ counted_start (1998 + i)
both-grow zero h = both-begin
both-grow (suc i) h =
    let s : 1998 + i + 1 ≡ 1998 + suc i = omega arith in
    let next = rw s at (year_start-next (1998 + i) (omega arith) (omega arith)) in
    omega (arith, next, both-grow i (omega arith), counted_start-next i)

pub start-counted : (y : ℕ) → 1998 ≤ y → y ≤ 2050 → year_start y ≡ counted_start y
start-counted y low high =
    let e : 1998 + (y - 1998) ≡ y = omega arith in
    rw e at (both-grow (y - 1998) (omega arith))

pub number-counted : (y m d : ℕ) → 1998 ≤ y → y ≤ 2050 → day_number y m d ≡ counted_number y m d
unfolding day_number counted_number
number-counted y m d low high = ap (λ (s : ℕ). s + month_start y m + (d - 1)) (start-counted y low high)

day-counted : (x : Date) → day_of x ≡ counted_day x
unfolding day_of counted_day
day-counted x = go (valid x.year x.month x.day) refl
  where
    go : (t : Bool) → valid x.year x.month x.day ≡ t
        → cond {A = Option CalendarDays} t (Some (record { 0 = day_number x.year x.month x.day })) None ≡ cond {A = Option CalendarDays} t (Some (record { 0 = counted_number x.year x.month x.day })) None
    go true e =
        let v = valid-parts x.year x.month x.day e in
        ap (λ (n : ℕ). Some (record { 0 = n })) (number-counted x.year x.month x.day v.from (omega arith))
    go false e = refl

-- ---- from day to date
counted-mono : (i j : ℕ) → i ≤ j → counted_start (1998 + i) ≤ counted_start (1998 + j)
unfolding counted_start
counted-mono i j h = sum_to-mono (λ (k : ℕ). year_days (1998 + k)) (1998 + i - 1998) (1998 + j - 1998) (omega arith)

pub year-counted : (n : ℕ) → n ≤ last_day → year_of n ≡ counted_year n
unfolding counted_year
year-counted n h =
    let at = year-at n h in
    let i : ℕ = year_of n - 1998 in
    let e : 1998 + i ≡ year_of n = omega arith in
    let f : 1998 + (i + 1) ≡ year_of n + 1 = omega arith in
    let from : counted_start (1998 + i) ≤ n = rw e (omega (arith, at.from, start-counted (year_of n) at.first (omega arith))) in
    let to : n < counted_start (1998 + (i + 1)) = rw f (omega (arith, at.to, start-counted (year_of n + 1) (omega arith) (omega arith), year_start-next (year_of n) at.first at.last)) in
    omega (arith, e, last_from-is (λ (k : ℕ). counted_start (1998 + k)) counted-mono n 52 i (omega arith) from to)

date-counted : (n : ℕ) → date_of n ≡ counted_date n
unfolding date_of counted_date
date-counted n = go (leb n last_day) refl
  where
    go : (t : Bool) → leb n last_day ≡ t → cond t (Some (date_in (year_of n) (n - year_start (year_of n)))) None ≡ cond t (Some (date_in (counted_year n) (n - counted_start (counted_year n)))) None
    go true e =
        let h : n ≤ last_day = leb-true n last_day e in
        let at = year-at n h in
        rw (start-counted (year_of n) at.first (omega arith), year-counted n h)
    go false e = refl

pub closed-is-counted : ClosedIsCounted
closed-is-counted = (day-counted, date-counted)
