-- `working::work::work_out` meets its contract: what the three callees say, put together (`answer`). Assumes nothing.
use Rattle.working.proofs.WorkLaws.{answer}
use Rattle.working.proofs.work.work_out.Goals as goal

pub returns : goal.returns
returns c =
    let filed = c.args.filed.now in
    let g = c.gather_all-r in
    answer filed.n filed.files.now filed.journals.regular.now filed.journals.corrections.now c.args.number c.args.line filed.sound _ _ g.result c.fold.result g.ensures c.sort_first.ensures c.fold.ensures
