-- `working::indexing::find::Index::new` meets its contract: the places of an index are in order (`places-ordered`). Assumes nothing.
use lib.ListN.{take}
use Rattle.working.proofs.indexing.Finding.{places-ordered}
use Rattle.working.proofs.indexing.find.Index.new.Goals as goal

pub invariant_of-result : goal.invariant_of-result
invariant_of-result c =
    let f = c.args.filed in
    let w = c.args.wanted in
    record { ordered = places-ordered f.n f.files.now f.journals.regular.now f.journals.corrections.now (take w.count w.words.now) _ _ c.index-count.result c.index-count.ensures }
