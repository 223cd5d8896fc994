-- Days and dates counted year by year: what the closed rules of `Dates` mean. `proofs/` shows that both agree on the whole calendar.
-- Assumes nothing: these are definitions.
use Rattle.calendar.specs.declared.dates.CalendarDays.{CalendarDays}
use Rattle.std.specs.Prelude.{Option, Some, None}
use Rattle.std.specs.Prelude.{◌≡◌, cond, ℕ, ◌+◌, ◌-◌}
use Rattle.laws.specs.Sums.{sum_to}
use Rattle.calendar.specs.Dates.{in_calendar, year_days, month_start, valid, last_from}
use Rattle.calendar.specs.Answers.{day_of, date_in, date_of}
use Rattle.calendar.specs.declared.dates.Date.{Date}

-- the day number of 1 January of the year y: the days of the years from 1998 on that come before it
unfoldable pub counted_start : ℕ → ℕ
counted_start y = sum_to (λ i. year_days (1998 + i)) (y - 1998)

-- the day number of day d of month m of the year y
unfoldable pub counted_number : ℕ → ℕ → ℕ → ℕ
counted_number y m d = counted_start y + month_start y m + (d - 1)

-- a date's day
unfoldable pub counted_day : Date → Option CalendarDays
counted_day x = cond (valid x.year x.month x.day) (Some (record { 0 = counted_number x.year x.month x.day })) None

-- the year of a day: the last that starts not after it
unfoldable pub counted_year : ℕ → ℕ
counted_year n = 1998 + last_from (λ i. counted_start (1998 + i)) 52 n

-- the date of a day
unfoldable pub counted_date : ℕ → Option Date
counted_date n = cond (in_calendar n) (Some (date_in (counted_year n) (n - counted_start (counted_year n)))) None

-- of every date, of the calendar or not, and of every day's number the closed rules and the count say the same
abbrev pub ClosedIsCounted : Type 0
ClosedIsCounted = ((x : Date) → day_of x ≡ counted_day x) × ((n : ℕ) → date_of n ≡ counted_date n)
