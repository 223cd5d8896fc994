-- `working::indexing::index::mark` meets its contract: the loop's invariant is the contract over the first words. Assumes nothing.
use lib.ListN.{take}
use Rattle.working.specs.indexing.Index.{Marked}
use Rattle.working.proofs.indexing.index.mark.Given as goal

abbrev pub invariant-loop-word : goal.invariant-loop-word
invariant-loop-word l = Marked (take l.word-index l.words) l.marks
