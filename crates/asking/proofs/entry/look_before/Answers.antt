-- `asking::entry::look_before` meets its contract: the line that was found, and where it stands (`Standings`). Assumes nothing.
use mathlib.Core.Path.{sym, ◌∙◌}
use Rattle.asking.proofs.Showing.{showable}
use Rattle.asking.proofs.Standings.{sound_among, entry_before_here}
use Rattle.asking.proofs.entry.look_before.Goals as goal

pub invariant_of-filed : goal.invariant_of-filed
invariant_of-filed c =
    let a = c.args in
    record { sound = sound_among a.table.now a.files.now a.regular.now a.corrections.now a.n c.files_among.result (showable a.table.now a.files.now a.regular.now a.corrections.now (sym c.showable.ensures ∙ c.if-not-showable.false)) c.files_among.ensures }

pub returns : goal.returns
returns c =
    let a = c.args in
    let m = c.files_among in
    entry_before_here a.table.now a.files.now a.regular.now a.corrections.now a.n (sym c.showable.ensures ∙ c.if-not-showable.false) a.number c.in-Some.i m.result c.standing_at.result (sym c.in-Some.is ∙ c.find_line.ensures) m.ensures c.standing_at.ensures
