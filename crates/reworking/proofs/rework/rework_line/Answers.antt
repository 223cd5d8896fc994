-- `reworking::rework::rework_line` meets its contract: what is worked out is written (`worked-here`). Assumes nothing.
use Rattle.reworking.proofs.Lines.{worked-here}
use Rattle.reworking.proofs.rework.rework_line.Goals as goal

pub returns : goal.returns
returns c =
    let a = c.args in
    worked-here _ a.table.now a.entries.now _ a.i c.line_standing.result c.entry_at-stored.result _ c.line_standing.ensures c.entry_at-stored.ensures c.put_entry.ensures c.same_entry.ensures
