-- `verdict::table::first_line` meets its contract: the lines that are left say what all say. Assumes nothing.
use mathlib.Core.Path.{◌≡◌}
use lib.ListN.{drop}
use Rattle.laws.specs.Lists.{first_line}
use Rattle.verdict.proofs.table.first_line.Given as goal

abbrev pub invariant-loop-applies : goal.invariant-loop-applies
invariant-loop-applies l = first_line (drop l.applies-index l.lines) l.otherwise ≡ first_line l.lines l.otherwise
