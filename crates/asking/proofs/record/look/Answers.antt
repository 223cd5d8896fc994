-- `asking::record::look` meets its contract: the file that was found, and the record in it (`Records`). Assumes nothing.
use mathlib.Core.Path.{sym, ◌∙◌}
use Rattle.asking.proofs.Records.{asked_record}
use Rattle.asking.proofs.record.look.Goals as goal

pub returns : goal.returns
returns c =
    let a = c.args in
    let n = c.file_count-n in
    let f = c.in-Some in
    let w = rw (f.is, c.kind_of.ensures) at c.locate.ensures in
    asked_record a.table.now a.files.now a.regular.now a.corrections.now a.which a.place (sym c.showable.ensures ∙ c.if-not-showable.false) n.result n.ensures.0 f.k f.at c.asked_at.result w c.asked_at.ensures
