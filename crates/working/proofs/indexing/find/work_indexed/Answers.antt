-- `working::indexing::find::work_indexed` meets its contract: what the three callees say, put together (`answer`). Assumes nothing.
use Rattle.working.proofs.WorkLaws.{answer}
use Rattle.working.proofs.indexing.find.work_indexed.Goals as goal

pub returns : goal.returns
returns c =
    let f = c.args.index.now.filed in
    let g = c.gather_indexed-r in
    answer f.n f.files.now f.journals.regular.now f.journals.corrections.now c.args.number c.args.line f.sound _ _ g.result c.fold.result g.ensures c.sort_first.ensures c.fold.ensures
