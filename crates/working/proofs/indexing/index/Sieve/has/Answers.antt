-- `working::indexing::index::Sieve::has` meets its contract: a field without a mark is not wanted (`not-marked`). Assumes nothing.
use mathlib.Core.Path.{◌∙◌}
use lib.ListN.{take}
use Rattle.working.proofs.indexing.Marking.{not-marked}
use Rattle.working.proofs.indexing.index.Sieve.has.Goals as goal

pub returns-else-self-at : goal.returns-else-self-at
returns-else-self-at c =
    let s = c.args.self.now in
    c.if-self-at.false ∙ not-marked (take s.tags.count s.tags.words.now) s.marks.now c.args.digits s.marked c.if-self-at.false
