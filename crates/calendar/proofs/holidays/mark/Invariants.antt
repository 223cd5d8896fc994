-- `calendar::holidays::mark` meets its contract: the table is the list; the sums so far, carried on over the days that are left, are the mark, and both
-- stay small. Assumes nothing.
use mathlib.Core.Path.{◌≡◌}
use Prim.Native.Nat.{◌+◌, ◌*◌, ◌≤◌}
use lib.ListN.{drop}
use Rattle.calendar.specs.Holidays.{holidays, sums_from, mark_of}
use Rattle.calendar.proofs.holidays.mark.Given as goal

abbrev pub invariant-loop-day : goal.invariant-loop-day
invariant-loop-day l =
    (l.day-items ≡ holidays) × (l.a ≤ 1 + 65535 * l.day-index) × (l.b ≤ 31000000 * l.day-index) × (sums_from l.a l.b (drop l.day-index holidays) ≡ mark_of holidays)
