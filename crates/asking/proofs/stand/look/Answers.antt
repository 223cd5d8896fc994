-- `asking::stand::look` meets its contract: working out over the first files is sound (`Standings`). Assumes nothing.
use mathlib.Core.Path.{sym, ◌∙◌}
use Rattle.asking.proofs.Showing.{showable}
use Rattle.asking.proofs.Standings.{sound_among}
use Rattle.asking.proofs.stand.look.Goals as goal

pub invariant_of-filed : goal.invariant_of-filed
invariant_of-filed c =
    let a = c.args in
    record { sound = sound_among a.table.now a.files.now a.regular.now a.corrections.now a.n c.files_among.result (showable a.table.now a.files.now a.regular.now a.corrections.now (sym c.showable.ensures ∙ c.if-not-showable.false)) c.files_among.ensures }
