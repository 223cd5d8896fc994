-- `files_run::lines::report` is safe and ends: what was read fits its layout, from a line and at a place of a file. Assumes nothing.
use Rattle.std.proofs.Common.{sym, ◌∙◌}
use Rattle.layout.proofs.ReportLaws.{report-back}
use Rattle.files.proofs.ValueFits.{report-at-fits}
use Rattle.files_run.proofs.lines.report.Goals as goal

pub put_report-requires : goal.put_report-requires
put_report-requires c = (report-back _ _ (sym c.read.ensures ∙ c.in-Some.is)).1

pub put_report-requires-2 : goal.put_report-requires-2
put_report-requires-2 c = report-at-fits _ _ _ (sym c.read_report.ensures ∙ c.in-Ok.is)
