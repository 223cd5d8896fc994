-- The k-th working day after a day.
-- Assumes nothing: these are definitions.
use Rattle.calendar.specs.declared.dates.CalendarDays.{CalendarDays}
use Rattle.std.specs.Prelude.{Option, Some, None}
use Rattle.std.specs.Prelude.{Bool, cond, List, ℕ, zero, suc, ◌+◌, ◌-◌, eqb, length}
use Rattle.laws.specs.Lists.{table, keep}
use Rattle.calendar.specs.Dates.{last_day}
use Rattle.calendar.specs.Holidays.{working}

-- the days after d, up to and including e
unfoldable pub days_after : ℕ → ℕ → List ℕ
days_after d e = table (e - d) (λ i. d + 1 + i)

-- how many of them are working days
unfoldable pub working_after : ℕ → ℕ → ℕ
working_after d e = length (keep working (days_after d e))

-- the smallest of the n days from e on that passes the test; where none does, that the calendar ends
unfoldable pub smallest : (ℕ → Bool) → ℕ → ℕ → Option CalendarDays
smallest p zero e = None
smallest p (suc n) e = cond (p e) (Some (record { 0 = e })) (smallest p n (suc e))

-- the k-th working day after d: the smallest day e, not before d, with exactly k working days after d up to and including e
unfoldable pub working_day_after : ℕ → ℕ → Option CalendarDays
working_day_after d k = smallest (λ e. eqb (working_after d e) k) (suc last_day - d) d
