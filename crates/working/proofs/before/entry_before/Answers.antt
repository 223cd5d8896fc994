-- `working::before::entry_before` meets its contract: what the callees say, put together (`answer-before`). Assumes nothing.
use Rattle.working.proofs.WorkLaws.{answer-before}
use Rattle.working.proofs.before.entry_before.Goals as goal

pub returns : goal.returns
returns c =
    let filed = c.args.filed.now in
    let g = c.gather_all-r in
    answer-before filed.n filed.files.now filed.journals.regular.now filed.journals.corrections.now c.args.number c.args.line filed.sound c.args.k c.args.place c.requires.0 c.requires.1 _ _ g.result c.key-mark.result c.fold_before.result g.ensures c.sort_first.ensures (rw (c.records.ensures.journals, c.records.ensures.file, c.records.ensures.start) at c.key-mark.ensures) c.fold_before.ensures
