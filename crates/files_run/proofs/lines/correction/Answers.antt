-- `files_run::lines::correction` is safe and ends: what was read fits its layout, from a line and at a place of a file. Assumes nothing.
use Rattle.std.proofs.Common.{sym, ◌∙◌}
use Rattle.layout.proofs.CorrectionTrip.{correction-back}
use Rattle.files.proofs.ValueFits.{correction-at-fits}
use Rattle.files_run.proofs.lines.correction.Goals as goal

pub put_correction-requires : goal.put_correction-requires
put_correction-requires c = (correction-back _ _ (sym c.read.ensures ∙ c.in-Some.is)).1

pub put_correction-requires-2 : goal.put_correction-requires-2
put_correction-requires-2 c = correction-at-fits _ _ _ (sym c.read_correction.ensures ∙ c.in-Ok.is)
