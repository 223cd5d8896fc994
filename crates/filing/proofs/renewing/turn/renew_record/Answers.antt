-- `filing::renewing::turn::renew_record` meets its contract: an earlier record names the number, or none does (`seen-before`, `seen_first`). Assumes nothing.
use mathlib.Core.Path.{sym, ◌∙◌}
use Rattle.store.specs.journals.Reads.{records_at}
use Rattle.filing.specs.renewing.Turns.{filed_from}
use Rattle.filing.proofs.renewing.Steps.{seen-before, seen_first}
use Rattle.filing.proofs.renewing.turn.renew_record.Goals as goal

pub returns-then-named_before : goal.returns-then-named_before
returns-then-named_before c =
    let f = c.args.index.now.filed in
    let r = c.args.file.now.records in
    seen-before c.args.lines.now f.files.now f.journals.regular.now f.journals.corrections.now c.args.entries.now f.n c.requires.workable (filed_from (records_at r.journals.regular.now r.journals.corrections.now) r.file r.start) c.args.j c.number_at-number.result c.number_at-number.ensures (sym c.if-named_before.true ∙ c.named_before.ensures)

pub returns : goal.returns
returns c =
    let f = c.args.index.now.filed in
    let r = c.args.file.now.records in
    seen_first c.args.lines.now f.files.now f.journals.regular.now f.journals.corrections.now c.args.entries.now f.n c.requires.workable (filed_from (records_at r.journals.regular.now r.journals.corrections.now) r.file r.start) c.args.j c.number_at-number.result c.number_at-number.ensures _ c.renew_number.result (sym c.if-named_before.false ∙ c.named_before.ensures) c.renew_number.ensures
