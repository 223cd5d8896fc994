-- `calendar::holidays::mark` meets its contract: the table is the list; the sums so far, carried on over the days that are left, are the mark, and both
-- stay small. Assumes nothing.
use mathlib.Core.Path.{refl, sym, ap, ◌∙◌}
use mathlib.Core.List.{List, flat_map}
use Prim.Native.Nat.{ℕ, ◌≤◌, ◌<◌}
use native.Mathlib.Omega.{arith}
use lib.ListN.{length, get_or}
use Rattle.laws.specs.Sums.{sum_to}
use Rattle.laws.specs.Lists.{table}
use Rattle.laws.specs.Order.{put}
use Rattle.calendar.specs.Dates.{leap, month_days, year_start, month_start, day_number}
use Rattle.calendar.specs.Holidays.{easter, nine_of, holidays_of, years, holidays}
use Rattle.calendar.proofs.HolidayLaws.{holidays-length, sums-turn, sums-end}
use Rattle.calendar.proofs.holidays.mark.Goals as goal

pub loop-day-init : goal.loop-day-init
unfolding sum_to table flat_map put leap month_days year_start month_start day_number easter nine_of holidays_of years holidays
loop-day-init c = (refl, omega arith, omega arith, refl)

pub loop-day-preserved : goal.loop-day-preserved
loop-day-preserved c =
    let l = c.loop-day in
    let day = c.from-a.ensures ∙ ap (λ (days : List ℕ). get_or days l.day-index 0) l.invariant.0 in
    let h : l.day-index < length holidays = omega (arith, holidays-length) in
    (l.invariant.0, omega arith, omega arith, rw day (sums-turn l.a l.b l.day-index h ∙ l.invariant.3))

pub returns : goal.returns
returns c =
    let l = c.loop-day in
    let h : length holidays ≤ l.day-index = omega (arith, holidays-length) in
    sym (sums-end l.a l.b l.day-index h) ∙ l.invariant.3
