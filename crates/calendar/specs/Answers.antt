-- What the public functions answer, case by case.
-- Assumes nothing: these are definitions.
use Rattle.calendar.specs.declared.dates.CalendarDays.{CalendarDays}
use Rattle.std.specs.Prelude.{Option, Some, None}
use Rattle.std.specs.Prelude.{cond, List, [], ◌∷◌, ℕ, ◌+◌, ◌-◌, leb, ltb, get_or}
use Rattle.calendar.specs.Dates.{in_calendar, day_number, valid, year_start, month_start, year_of, month_of, weekday}
use Rattle.calendar.specs.Holidays.{working}
use Rattle.calendar.specs.declared.dates.Date.{Date}
use Rattle.calendar.specs.declared.dates.Weekday.{Weekday}
use Rattle.calendar.specs.declared.working_days.DayKind.{DayKind}
use Rattle.calendar.specs.declared.working_days.DayKind.TheVariants.{Working, Free}

-- a date's day, or a fault where the calendar has no such date
unfoldable pub day_of : Date → Option CalendarDays
day_of x = cond (valid x.year x.month x.day) (Some (record { 0 = day_number x.year x.month x.day })) None

-- the date of the day n of the year y, from 0
unfoldable pub date_in : ℕ → ℕ → Date
date_in y n = record { year = y; month = month_of y n; day = n - month_start y (month_of y n) + 1 }

-- the date of a day
unfoldable pub date_of : ℕ → Option Date
date_of n = cond (in_calendar n) (Some (date_in (year_of n) (n - year_start (year_of n)))) None

-- 98 and 99 are 19xx, 00 to 49 are 20xx, others are a fault
unfoldable pub full_year : ℕ → Option ℕ
full_year t = cond (ltb t 50) (Some (2000 + t)) (cond (ltb t 98) None (cond (leb t 99) (Some (1900 + t)) None))

abbrev pub week : List Weekday
week = Weekday.Monday ∷ Weekday.Tuesday ∷ Weekday.Wednesday ∷ Weekday.Thursday ∷ Weekday.Friday ∷ Weekday.Saturday ∷ Weekday.Sunday ∷ []

unfoldable pub weekday_of : ℕ → Weekday
weekday_of n = cond (in_calendar n) (get_or week (weekday n) Weekday.Outside) Weekday.Outside

unfoldable pub day_kind : ℕ → DayKind
day_kind n = cond (in_calendar n) (cond (working n) Working Free) DayKind.Outside
