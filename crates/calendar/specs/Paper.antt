-- What the paper says of single days: on each line what the definitions say, and what the paper says.
-- Assumes nothing: these are definitions.
use Rattle.calendar.specs.declared.dates.CalendarDays.{CalendarDays}
use Rattle.std.specs.Prelude.{Option, Some}
use Rattle.std.specs.Prelude.{◌≡◌, List, [], ◌∷◌, true, cond, ℕ, eqb, length}
use Rattle.laws.specs.Order.{never_falls}
use Rattle.calendar.specs.Dates.{last_day, day_number}
use Rattle.calendar.specs.Holidays.{holidays}
use Rattle.calendar.specs.Answers.{day_of, weekday_of}
use Rattle.calendar.specs.declared.dates.Date.{Date}
use Rattle.calendar.specs.declared.dates.Weekday.TheVariants.{Thursday}

abbrev pub date : ℕ → ℕ → ℕ → Date
date y m d = record { year = y; month = m; day = d }

abbrev pub day : ℕ → Option CalendarDays
day n = Some (record { 0 = n })

-- day 0 is 1998-01-01, a Thursday; the last day is 2049-12-31
abbrev pub FirstAndLast : Type 0
FirstAndLast =
    (day_of (date 1998 1 1) ≡ day 0) ×
    (weekday_of 0 ≡ Thursday) ×
    (day_of (date 2049 12 31) ≡ day last_day)

-- the entries that equal the next one
unfoldable pub equal_pairs : List ℕ → List ℕ
equal_pairs [] = []
equal_pairs (x ∷ []) = []
equal_pairs (x ∷ (y ∷ ys)) = cond (eqb x y) (x ∷ equal_pairs (y ∷ ys)) (equal_pairs (y ∷ ys))

-- the list has 469 days, never falls, and has one equal neighbouring pair: 1 May 2008 is also Ascension
abbrev pub HolidayList : Type 0
HolidayList =
    (length holidays ≡ 469) ×
    (never_falls holidays ≡ true) ×
    (equal_pairs holidays ≡ day_number 2008 5 1 ∷ [])
