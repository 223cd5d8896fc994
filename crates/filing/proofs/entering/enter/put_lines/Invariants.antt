-- `filing::entering::enter::put_lines` meets its contract. What is left to write, written from here on, gives what is to be written in all. Assumes nothing.
use mathlib.Core.Path.{◌≡◌}
use Prim.Native.Nat.{◌+◌, ◌-◌, ◌≤◌}
use lib.ListN.{length, drop}
use Rattle.files.specs.Cursor.{line_start}
use Rattle.filing.specs.entering.Entering.{journal_with, first_lines}
use Rattle.filing.proofs.entering.enter.put_lines.Given as goal

abbrev pub invariant-loop-i : goal.invariant-loop-i
invariant-loop-i l = (l.i ≤ l.m) × ((l.at ≡ line_start l.text l.i) × ((length l.journal ≡ length l.initial.journal) × (journal_with l.width l.journal (l.from + l.i) (drop l.i (first_lines l.m l.text)) ≡ journal_with l.width l.initial.journal l.from (first_lines l.m l.text))))

abbrev pub decreases-loop-i : goal.decreases-loop-i
decreases-loop-i l = l.m - l.i
