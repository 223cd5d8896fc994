-- `asking::answering::figure::differing_by` meets its contract: the count of the entries passed (`Figures`). Assumes nothing.
use mathlib.Core.Path.{◌≡◌}
use Prim.Native.Nat.{◌≤◌}
use lib.ListN.{take}
use Rattle.store.specs.journals.Reads.{read_files}
use Rattle.asking.specs.answering.Figure.{differing}
use Rattle.asking.proofs.answering.figure.differing_by.Given as goal

abbrev pub invariant-loop-i : goal.invariant-loop-i
invariant-loop-i l = (l.count ≤ l.i) × (l.count ≡ differing (take l.index.filed.n (read_files l.index.filed.files.now l.index.filed.journals.regular.now l.index.filed.journals.corrections.now)) l.table l.entries l.i)
