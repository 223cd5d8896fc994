-- `calendar::dates::month_of` meets its contract. The loop's invariant: the day does not lie in the months from `month` on. Assumes nothing.
use mathlib.Core.Path.{◌≡◌}
use Prim.Native.Nat.{◌≤◌}
use Rattle.calendar.specs.Dates.{month_start, month_of, last_from}
use Rattle.calendar.proofs.dates.month_of.Given as goal

abbrev pub invariant-loop-month : goal.invariant-loop-month
invariant-loop-month l = (2 ≤ l.month) × (l.month ≤ 13) × (month_of l.year l.n ≡ last_from (month_start l.year) l.month l.n)
