-- The holiday list and working days.
-- Assumes nothing: these are definitions.
use Rattle.std.specs.Prelude.{Bool, cond, ◌&&◌, not, ℕ, ◌+◌, ◌-◌, ◌*◌, ◌/◌, ◌%◌, leb, ltb, eqb}
use mathlib.Core.List.{List, [], ◌∷◌, flat_map}
use Rattle.laws.specs.Lists.{table, any}
use Rattle.laws.specs.Order.{put}
use Rattle.calendar.specs.Dates.{day_number, weekday}

-- the day number of Easter Sunday of the year y, by the Gregorian computus (Meeus, Jones, Butcher)
unfoldable pub easter : ℕ → ℕ
easter y =
    let a : ℕ = y % 19 in
    let b : ℕ = y / 100 in
    let c : ℕ = y % 100 in
    let g : ℕ = (b - (b + 8) / 25 + 1) / 3 in
    let h : ℕ = (19 * a + b - b / 4 - g + 15) % 30 in
    let l : ℕ = (32 + 2 * (b % 4) + 2 * (c / 4) - h - c % 4) % 7 in
    let m : ℕ = (a + 11 * h + 22 * l) / 451 in
    let n : ℕ = h + l - 7 * m + 114 in
    day_number y (n / 31) (n % 31 + 1)

-- 1 January, Good Friday, Easter Monday, 1 May, Ascension, Whit Monday, 3 October, 25 and 26 December
unfoldable pub nine_of : ℕ → List ℕ
nine_of y =
    let e : ℕ = easter y in
    day_number y 1 1 ∷ (e - 2) ∷ (e + 1) ∷ day_number y 5 1 ∷ (e + 39) ∷ (e + 50) ∷ day_number y 10 3 ∷ day_number y 12 25 ∷ day_number y 12 26 ∷ []

-- the holidays of the year y: these nine, and in 2017 alone 31 October, put in where it falls: it was a holiday in every federal state that year
unfoldable pub holidays_of : ℕ → List ℕ
holidays_of y = cond (eqb y 2017) (put leb (day_number y 10 31) (nine_of y)) (nine_of y)

-- the years 1998 to 2049
unfoldable pub years : List ℕ
years = table 52 (λ i. 1998 + i)

-- the holiday list: the holidays of each year, one year after the other
unfoldable pub holidays : List ℕ
holidays = flat_map holidays_of years

-- Monday to Friday and not in the holiday list
unfoldable pub working : ℕ → Bool
working d = ltb (weekday d) 5 && not (any (eqb d) holidays)

-- the mark of a list of days, by which it is told from another: the sum of its running sums, the first of which begins with 1
unfoldable pub sums_from : ℕ → ℕ → List ℕ → ℕ
sums_from a b [] = b
sums_from a b (d ∷ l) = sums_from (a + d) (b + (a + d)) l

abbrev pub mark_of : List ℕ → ℕ
mark_of l = sums_from 1 0 l
