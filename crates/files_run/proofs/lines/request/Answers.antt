-- `files_run::lines::request` is safe and ends: what was read fits its layout, from a line and at a place of a file. Assumes nothing.
use Rattle.std.proofs.Common.{sym, ◌∙◌}
use Rattle.layout.proofs.RequestTrip.{request-back}
use Rattle.files.proofs.ValueFits.{request-at-fits}
use Rattle.files_run.proofs.lines.request.Goals as goal

pub put_request-requires : goal.put_request-requires
put_request-requires c = (request-back _ _ (sym c.read.ensures ∙ c.in-Some.is)).1

pub put_request-requires-2 : goal.put_request-requires-2
put_request-requires-2 c = request-at-fits _ _ _ (sym c.read_request.ensures ∙ c.in-Ok.is)
