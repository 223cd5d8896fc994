-- `filing::renewing::turn::renew_number` meets its contract: the number has a line, or none (`with-line`, `without-line`). Assumes nothing.
use Rattle.filing.proofs.renewing.Steps.{with-line, without-line}
use Rattle.filing.proofs.renewing.turn.renew_number.Goals as goal

pub returns-then-k-count : goal.returns-then-k-count
returns-then-k-count c =
    let f = c.args.index.now.filed in
    let w = c.renew_line in
    with-line c.args.lines.now f.files.now f.journals.regular.now f.journals.corrections.now c.args.entries.now f.n c.requires c.args.number c.line_count-count.result c.line_of-k.result c.line_count-count.ensures.0 c.line_of-k.ensures _ w.result c.if-k-count.true w.ensures

pub returns : goal.returns
returns c =
    let f = c.args.index.now.filed in
    without-line c.args.lines.now f.files.now f.journals.regular.now f.journals.corrections.now c.args.entries.now f.n c.requires c.args.number c.line_count-count.result c.line_of-k.result c.line_count-count.ensures.0 c.line_of-k.ensures c.count_all.result c.if-k-count.false c.count_all.ensures
