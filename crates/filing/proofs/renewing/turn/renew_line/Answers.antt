-- `filing::renewing::turn::renew_line` meets its contract: what is worked out is written (`line-worked`). Assumes nothing.
use Rattle.filing.proofs.renewing.Steps.{line-worked}
use Rattle.filing.proofs.renewing.turn.renew_line.Goals as goal

pub returns : goal.returns
returns c =
    let f = c.args.index.now.filed in
    let w = c.work_indexed-worked in
    line-worked c.args.lines.now f.files.now f.journals.regular.now f.journals.corrections.now _ _ f.n c.args.k c.line_at-l.result w.result.standing w.result.count c.requires.workable.counted c.line_at-l.ensures w.ensures c.put_entry.ensures
