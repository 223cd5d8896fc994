-- The holiday list: how long it is, the rule at each entry, that it never falls, its one equal neighbouring pair, and what came to it with
-- 31 October 2017. antt computes each.
-- Assumes nothing.
use mathlib.Core.Path.{◌≡◌, refl, ap, ◌∙◌}
use mathlib.Core.Bool.{Bool, true, false, ◌||◌}
use mathlib.Core.List.{[], ◌∷◌, ◌++◌, flat_map}
use Prim.Native.Nat.{ℕ, ◌+◌, ◌/◌, ◌%◌, ◌<◌, ◌≤◌}
use lib.Dec.{eqb}
use lib.Seq.{drop-cons}
use lib.ListN.{length, get_or, take, drop, drop_of_length-le}
use borrow.Author.Tests.{eqb-true}
use native.Mathlib.Numerals.{add-one}
use Rattle.laws.specs.Sums.{sum_to}
use Rattle.laws.specs.Lists.{table, all, any}
use Rattle.laws.specs.Order.{put, never_falls}
use Rattle.laws.proofs.Lists.{any-put-in}
use Rattle.laws.proofs.Tables.{tested}
use Rattle.calendar.specs.Dates.{leap, month_days, year_start, month_start, day_number, weekday}
use Rattle.calendar.specs.Holidays.{easter, nine_of, holidays_of, years, holidays, working, sums_from}
use Rattle.calendar.specs.Former.{former_holidays, formerly_working, OneDayMoved}
use Rattle.calendar.specs.Paper.{equal_pairs, HolidayList}

pub holidays-length : length holidays ≡ 469
unfolding sum_to table flat_map put leap month_days year_start month_start day_number easter nine_of holidays_of years holidays
holidays-length = refl

-- nine days a year: the entry i is the day i % 9 of the year 1998 + i / 9
unfoldable pub follows : ℕ → Bool
follows i = eqb (get_or former_holidays i 0) (get_or (nine_of (1998 + i / 9)) (i % 9) 0)

pub each-follows : (i : ℕ) → i < 468 → get_or former_holidays i 0 ≡ get_or (nine_of (1998 + i / 9)) (i % 9) 0
unfolding sum_to table all flat_map leap month_days year_start month_start day_number easter nine_of years former_holidays follows
each-follows i h = eqb-true _ _ (tested follows 468 refl i h)

-- and 31 October 2017 between them, at place 178
pub one-put-in : holidays ≡ take 178 former_holidays ++ (day_number 2017 10 31 ∷ drop 178 former_holidays)
unfolding sum_to table flat_map put leap month_days year_start month_start day_number easter nine_of holidays_of years holidays former_holidays
one-put-in = refl

pub never-falls : never_falls holidays ≡ true
unfolding sum_to table flat_map put leap month_days year_start month_start day_number easter nine_of holidays_of years holidays never_falls
never-falls = refl

-- 1 May 2008 is also Ascension
pub one-pair : equal_pairs holidays ≡ day_number 2008 5 1 ∷ []
unfolding sum_to table flat_map put leap month_days year_start month_start day_number easter nine_of holidays_of years holidays equal_pairs
one-pair = refl

pub holiday-list : HolidayList
holiday-list = (holidays-length, never-falls, one-pair)

-- ---- what came to the list, and what did not
in_list : (d : ℕ) → any (eqb d) holidays ≡ (eqb d (day_number 2017 10 31) || any (eqb d) former_holidays)
in_list d = ap (any (eqb d)) one-put-in ∙ any-put-in (eqb d) (day_number 2017 10 31) 178 former_holidays

worked : formerly_working (day_number 2017 10 31) ≡ true
unfolding sum_to table any flat_map leap month_days year_start month_start day_number weekday easter nine_of years former_holidays formerly_working
worked = refl

works-no-more : working (day_number 2017 10 31) ≡ false
unfolding sum_to table any flat_map put leap month_days year_start month_start day_number weekday easter nine_of holidays_of years holidays working
works-no-more = refl

others-stay : (d : ℕ) → eqb d (day_number 2017 10 31) ≡ false → working d ≡ formerly_working d
unfolding working formerly_working
others-stay d e = let p = rw e at (in_list d) in rw p refl

pub one-day-moved : OneDayMoved
one-day-moved = (in_list, worked, works-no-more, others-stay)

-- ---- the mark: a turn of its sums takes the next day
pub sums-turn : (a b i : ℕ) → i < length holidays → sums_from (a + get_or holidays i 0) (b + (a + get_or holidays i 0)) (drop (i + 1) holidays) ≡ sums_from a b (drop i holidays)
unfolding sums_from
sums-turn a b i h = rw (add-one, drop-cons holidays i 0 h)

pub sums-end : (a b i : ℕ) → length holidays ≤ i → sums_from a b (drop i holidays) ≡ b
unfolding sums_from
sums-end a b i h = rw (drop_of_length-le holidays h)
