-- `reworking::rework::rework_lines` meets its contract: the loop's invariant is the contract over the first i lines. Assumes nothing.
use Prim.Native.Nat.{◌≤◌}
use lib.ListN.{take}
use Rattle.store.specs.journals.Reads.{read_files}
use Rattle.reworking.specs.Reworking.{LinesReworked}
use Rattle.reworking.proofs.rework.rework_lines.Given as goal

abbrev pub invariant-loop-i : goal.invariant-loop-i
invariant-loop-i l =
    let f = l.index.filed in record {
      few : l.count ≤ l.i;
      reworked : LinesReworked (take f.n (read_files f.files.now f.journals.regular.now f.journals.corrections.now)) l.table l.i l.initial.entries l.entries l.initial.list l.list l.count;
    }
