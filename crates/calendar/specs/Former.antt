-- The holiday list as it was before 31 October 2017 was put in: nine days of each year. What moved with that day is told against it.
-- Assumes nothing: these are definitions.
use Rattle.std.specs.Prelude.{◌≡◌, Bool, true, false, ◌&&◌, ◌||◌, not, ℕ, ltb, eqb}
use mathlib.Core.List.{List, flat_map}
use Rattle.laws.specs.Lists.{any}
use Rattle.calendar.specs.Dates.{day_number, weekday}
use Rattle.calendar.specs.Holidays.{nine_of, years, holidays, working}

-- the nine days of each year, one year after the other
unfoldable pub former_holidays : List ℕ
former_holidays = flat_map nine_of years

-- Monday to Friday and not in that list
unfoldable pub formerly_working : ℕ → Bool
formerly_working d = ltb (weekday d) 5 && not (any (eqb d) former_holidays)

-- 31 October 2017 came to the list, and no other day came or went; it was a working day and is none, and every other day is what it was
abbrev pub OneDayMoved : Type 0
OneDayMoved =
    ((d : ℕ) → any (eqb d) holidays ≡ (eqb d (day_number 2017 10 31) || any (eqb d) former_holidays)) ×
    (formerly_working (day_number 2017 10 31) ≡ true) ×
    (working (day_number 2017 10 31) ≡ false) ×
    ((d : ℕ) → eqb d (day_number 2017 10 31) ≡ false → working d ≡ formerly_working d)
