-- What the answers mean, in the paper's words. `proofs/` shows that each definition has this meaning, and that one answer alone has it.
-- Assumes nothing: these are definitions.
use Rattle.calendar.specs.declared.dates.CalendarDays.{CalendarDays}
use Rattle.calendar.specs.declared.dates.Date.{Date}
use Rattle.std.specs.Prelude.{Option, Some, None}
use Rattle.std.specs.Prelude.{◌≡◌, ℕ, ◌≤◌, ◌<◌}
use Rattle.calendar.specs.Dates.{last_day}
use Rattle.calendar.specs.WorkingDays.{working_after}
use Rattle.calendar.specs.Answers.{day_of}

-- a day's date is the one whose day it is; a number past the last day's has none
abbrev pub IsDated : ℕ → Option Date → Type 0
IsDated n (Some x) = day_of x ≡ Some (record { 0 = n })
IsDated n None = last_day < n

-- e is the smallest day, not before d, with exactly k working days after d up to and including e
pub record KthAfter (d k e : ℕ) : Type 0 where
  pub not-before : d ≤ e
  pub inside : e ≤ last_day
  pub counted : working_after d e ≡ k
  pub smallest : (i : ℕ) → d ≤ i → i < e → working_after d i ≡ k → ⊥

-- the k-th working day after d is that day; the calendar ends where no day of it is
abbrev pub After : ℕ → ℕ → Option CalendarDays → Type 0
After d k (Some e) = KthAfter d k e.0
After d k None = (e : ℕ) → d ≤ e → e ≤ last_day → working_after d e ≡ k → ⊥
