-- `working::gather::gather` meets its contract: the loop's invariant is the contract over the first k files. Assumes nothing.
use mathlib.Core.Path.{◌≡◌}
use Rattle.laws.specs.Lists.{table}
use Rattle.store.specs.journals.Files.{file_at, records_of}
use Rattle.working.specs.Passing.{Passing}
use Rattle.working.proofs.gather.gather.Given as goal

abbrev pub invariant-loop-k : goal.invariant-loop-k
invariant-loop-k g l =
    let files = l.filed.files.now in record {
      reports : l.begins.reports ≡ records_of 0 (table l.k (file_at files));
      objections : l.begins.objections ≡ records_of 1 (table l.k (file_at files));
      laid : Passing l.k files l.filed.journals.regular.now l.filed.journals.corrections.now (g.W.Wanting.takes l.wanting) l.keys l.r;
    }
