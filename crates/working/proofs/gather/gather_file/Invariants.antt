-- `working::gather::gather_file` meets its contract: the loop's invariant is the contract over the first i records. Assumes nothing.
use Prim.Native.Nat.{◌+◌, ◌≤◌}
use Rattle.store.specs.journals.Reads.{records_at}
use Rattle.working.specs.Passing.{passes_at}
use Rattle.working.specs.Working.{Behind}
use Rattle.working.specs.indexing.Index.{listed_in}
use Rattle.working.proofs.gather.gather_file.Given as goal

abbrev pub invariant-loop-i : goal.invariant-loop-i
invariant-loop-i g l =
    let r = records_at l.records.journals.regular.now l.records.journals.corrections.now in record {
      few : l.r ≤ l.at + l.i;
      laid : Behind l.initial.keys l.at (listed_in (passes_at (g.W.Wanting.takes l.wanting) r) r l.records.file l.records.start l.i) l.keys l.r;
    }
