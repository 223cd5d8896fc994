-- `calendar::working_days::working_day_after` meets its contract. The loop's invariant: it counts from the day on (`Counting`). Assumes nothing.
use Prim.Native.Nat.{◌-◌, ◌<◌}
use Rattle.calendar.proofs.WorkingLaws.{Counting}
use Rattle.calendar.proofs.working_days.working_day_after.Given as goal

abbrev pub invariant-loop-next : goal.invariant-loop-next
invariant-loop-next l = (0 < l.left) × Counting l.d l.initial.left (l.next - 1) l.left
