-- `starting::start::put_entries` meets its contract. Assumes nothing.
use mathlib.Core.Path.{◌≡◌}
use lib.ListN.{length}
use Rattle.starting.specs.Start.{entries_with}
use Rattle.starting.proofs.start.put_entries.Given as goal

abbrev pub invariant-loop-i : goal.invariant-loop-i
invariant-loop-i l = (length l.entries ≡ length l.initial.entries) × (l.entries ≡ entries_with l.room l.i l.initial.entries)
