-- Days and dates: day 0 is 1998-01-01, a Thursday; the last, 18992, is 2049-12-31.
-- Assumes nothing: these are definitions.
use Rattle.std.specs.Prelude.{Bool, true, false, cond, ◌&&◌, List, [], ◌∷◌, ℕ, zero, suc, ◌+◌, ◌-◌, ◌*◌, ◌/◌, ◌%◌, leb, eqb, get_or}
use Rattle.laws.specs.Sums.{sum_to}

abbrev pub last_day : ℕ
last_day = 18992

abbrev pub in_calendar : ℕ → Bool
in_calendar n = leb n last_day

-- the Gregorian leap year: every fourth, of the hundreds every fourth
unfoldable pub leap : ℕ → Bool
leap y = cond (eqb (y % 400) 0) true (cond (eqb (y % 100) 0) false (eqb (y % 4) 0))

unfoldable pub year_days : ℕ → ℕ
year_days y = cond (leap y) 366 365

-- the days of the months, of a leap year or another; there is no month 0
abbrev pub months : Bool → List ℕ
months b = 0 ∷ 31 ∷ cond b 29 28 ∷ 31 ∷ 30 ∷ 31 ∷ 30 ∷ 31 ∷ 31 ∷ 30 ∷ 31 ∷ 30 ∷ 31 ∷ []

-- the days of month m of the year y, and 0 where there is no such month
unfoldable pub month_days : ℕ → ℕ → ℕ
month_days y m = get_or (months (leap y)) m 0

-- the day number of 1 January of the year y: 365 for each year since 1998, and the leap days among them, one every four years from 2000 on
unfoldable pub year_start : ℕ → ℕ
year_start y = 365 * (y - 1998) + (y - 1997) / 4

-- how many days of the year y come before the first of month m
unfoldable pub month_start : ℕ → ℕ → ℕ
month_start y m = sum_to (month_days y) m

-- the day number of day d of month m of the year y
unfoldable pub day_number : ℕ → ℕ → ℕ → ℕ
day_number y m d = year_start y + month_start y m + (d - 1)

-- a date of the calendar: a year from 1998 to 2049, and a day that the month has
unfoldable pub valid : ℕ → ℕ → ℕ → Bool
valid y m d = leb 1998 y && (leb y 2049 && (leb 1 d && leb d (month_days y m)))

-- the year of a day: four years have 1461 days, from 1998 on each time with the leap year as the third (`Counted` says what both rules mean)
unfoldable pub year_of : ℕ → ℕ
year_of n = 1998 + (4 * n + 2) / 1461

-- the last i below k that starts not after n
unfoldable pub last_from : (ℕ → ℕ) → ℕ → ℕ → ℕ
last_from start zero n = 0
last_from start (suc k) n = cond (leb (start k) n) k (last_from start k n)

-- the month in which the day n of the year y lies, from 0: the last that starts not after it
unfoldable pub month_of : ℕ → ℕ → ℕ
month_of y n = last_from (month_start y) 13 n

-- 0 is Monday, 6 is Sunday; day 0 is a Thursday
unfoldable pub weekday : ℕ → ℕ
weekday n = (n + 3) % 7
