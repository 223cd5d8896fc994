-- What fits a record fits its fields, and what its writers need. Assumes nothing.
use mathlib.Core.Path.{◌≡◌}
use mathlib.Core.Bool.{true}
use lib.ListN.{length, length-append}
use Rattle.laws.proofs.Overlay.{Room, laid-length}
use Rattle.fields.proofs.KindLaws.{kind-always}
use Rattle.fields.proofs.NumberLaws.{length-field, first_fits, last_fits}
use Rattle.laws.proofs.Tests.{and_left, and_right}
use Rattle.fields.specs.Code.{code_fits, maybe_code_fits}
use Rattle.fields.specs.CorrectionCode.{correction_code_fits}
use Rattle.fields.specs.Date.{maybe_date_fits}
use Rattle.fields.specs.Number.{number_fits}
use Rattle.layout.specs.declared.part.Part.{Part}
use Rattle.layout.specs.declared.report.Report.{Report}
use Rattle.layout.specs.declared.correction.Correction.{Correction}
use Rattle.layout.specs.declared.request.Request.{Request}
use Rattle.layout.specs.Part.{part_fits}
use Rattle.layout.specs.Report.{report_part, report_fits}
use Rattle.layout.specs.Correction.{correction_fits}
use Rattle.layout.specs.Request.{request_fits}

-- ---- what fits a record fits its fields
pub part-fields : (p : Part) → part_fits p ≡ true
    → (number_fits p.number ≡ true) × (maybe_date_fits p.date ≡ true) × (maybe_code_fits p.gaining ≡ true) × (maybe_code_fits p.losing ≡ true)
unfolding part_fits
part-fields p h =
    let behind = and_right (number_fits p.number) _ h in
    let codes = and_right (maybe_date_fits p.date) _ behind in
    (and_left (number_fits p.number) _ h, and_left (maybe_date_fits p.date) _ behind, and_left (maybe_code_fits p.gaining) _ codes, and_right (maybe_code_fits p.gaining) _ codes)

pub report-part : (r : Report) → report_fits r ≡ true → part_fits (report_part r) ≡ true
unfolding report_fits
report-part r h = and_left (part_fits (report_part r)) _ h

pub correction-parts : (c : Correction) → correction_fits c ≡ true → (correction_code_fits c.code ≡ true) × (part_fits c.u ≡ true) × (part_fits c.k ≡ true)
unfolding correction_fits
correction-parts c h =
    let parts = and_right (correction_code_fits c.code) _ h in
    (and_left (correction_code_fits c.code) _ h, and_left (part_fits c.u) _ parts, and_left (part_fits c.k) _ (and_right (part_fits c.u) _ parts))

pub request-fields : (r : Request) → request_fits r ≡ true → (code_fits r.code ≡ true) × (maybe_date_fits r.from ≡ true)
unfolding request_fits
request-fields r h = (and_left (code_fits r.code) _ h, and_right (code_fits r.code) _ h)

-- what the writers need: where the next text goes, and that it fits
pub ruleset behind = (length-append, laid-length, length-field, first_fits, last_fits, part-fields, report-part, correction-parts, request-fields, kind-always)
