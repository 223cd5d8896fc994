-- `working::work::fold` meets its contract: the loop's invariant is the fold over the first keys, and that these were counted. Assumes nothing.
use mathlib.Core.Path.{◌≡◌}
use mathlib.Core.List.{foldl}
use lib.ListN.{take}
use Rattle.verdict.specs.Step.{first_standing}
use Rattle.working.specs.Working.{stand_behind}
use Rattle.working.proofs.work.fold.Given as goal

abbrev pub invariant-loop-key : goal.invariant-loop-key
invariant-loop-key l = record {
  counted : l.worked.count ≡ l.key-index;
  stands : l.worked.standing ≡ foldl (stand_behind l.line l.journals.regular.now l.journals.corrections.now) (first_standing l.line) (take l.key-index l.keys);
}
