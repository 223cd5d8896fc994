-- The words of a record are those that a writer makes this record of. Assumes nothing.
use Rattle.calendar.specs.declared.dates.CalendarDays.{CalendarDays}
use Rattle.fields.specs.declared.code.Code.{Code}
use Rattle.std.specs.Prelude.{Option, Some, None}
use native.Mathlib.Omega.{arith}
use mathlib.Core.Path.{◌≡◌, refl, ap, ◌∙◌}
use mathlib.Core.Bool.{true, not}
use borrow.Author.Tests.{ne_eqb, leb-true, not-true}
use Rattle.laws.proofs.Tests.{and_left, and_right}
use Rattle.fields.specs.declared.kind.Kind.{Kind}
use Rattle.fields.specs.Field.{maybe_from, maybe_of_word}
use Rattle.fields.specs.Code.{code_of_word, maybe_code_of_word, maybe_code_fits}
use Rattle.fields.specs.CorrectionCode.{correction_code_fits, correction_code_of_word}
use Rattle.fields.specs.Date.{date_of_word, maybe_date_of_word, maybe_date_fits}
use Rattle.fields.specs.Kind.{kind_by, maybe_kind_of_word}
use Rattle.fields.specs.Number.{is_empty}
use Rattle.layout.specs.declared.part.Part.{Part}
use Rattle.layout.specs.declared.report.Report.{Report}
use Rattle.layout.specs.declared.correction.Correction.{Correction}
use Rattle.layout.specs.declared.request.Request.{Request}
use Rattle.layout.specs.Part.{rest_of_words, part_of_words, part_fits}
use Rattle.layout.specs.Report.{report_from, report_part, report_fits, report_of_words}
use Rattle.layout.specs.Correction.{sound_of, correction_fits, correction_of_words}
use Rattle.layout.specs.Request.{request_fits, request_of_words}
use Rattle.layout.proofs.PutLaws.{part-fields, report-part, request-fields}
use Rattle.layout.proofs.ReportLaws.{whole_part}
use Rattle.records.specs.Worded.{date_word, code_word, kind_word, part_words, report_words, correction_words, request_words}

date-worded : (d : Option CalendarDays) → maybe_date_fits d ≡ true → maybe_date_of_word (date_word d) ≡ Some d
unfolding maybe_of_word maybe_from date_of_word
date-worded (Some d) h = let le = leb-true d.0 18992 h in rw (ne_eqb d.0 65535 (λ e. absurd (omega (arith, e))), h)
date-worded None h = refl

code-worded : (c : Option Code) → maybe_code_fits c ≡ true → maybe_code_of_word (code_word c) ≡ Some c
unfolding maybe_of_word maybe_from code_of_word
code-worded (Some c) h = let le = leb-true c.0 999 h in rw (ne_eqb c.0 1000 (λ e. absurd (omega (arith, e))), h)
code-worded None h = refl

kind-worded : (k : Option Kind) → maybe_kind_of_word (kind_word k) ≡ Some k
unfolding maybe_of_word maybe_from kind_by
kind-worded (Some Kind.P) = refl
kind-worded (Some Kind.L) = refl
kind-worded (Some Kind.Z) = refl
kind-worded None = refl

pub part-worded : (p : Part) → part_fits p ≡ true → part_of_words (part_words p) ≡ Some p
unfolding part_of_words rest_of_words
part-worded p h =
    let f = part-fields p h in
    rw (f.0, date-worded p.date f.1, code-worded p.gaining f.2, code-worded p.losing f.3, kind-worded p.kind)

pub report-worded : (r : Report) → report_fits r ≡ true → report_of_words (report_words r) ≡ Some r
unfolding report_of_words report_from report_fits
report-worded r h =
    let b = and_right (part_fits (report_part r)) _ h in
    ap report_from (part-worded (report_part r) (report-part r h))
    ∙ whole_part r (not-true (is_empty r.number.first) (and_left (not (is_empty r.number.first)) _ b)) (and_right (not (is_empty r.number.first)) _ b)

pub correction-worded : (c : Correction) → correction_fits c ≡ true → correction_of_words (correction_words c) ≡ Some c
unfolding correction_of_words correction_fits sound_of correction_code_of_word
correction-worded c h =
    let a = and_left (correction_code_fits c.code) _ h in
    let h₁ = and_right (correction_code_fits c.code) _ h in
    let u = and_left (part_fits c.u) _ h₁ in
    let h₂ = and_right (part_fits c.u) _ h₁ in
    let k = and_left (part_fits c.k) _ h₂ in
    let s = and_right (part_fits c.k) _ h₂ in
    rw (a, part-worded c.u u, part-worded c.k k, s)

pub request-worded : (q : Request) → request_fits q ≡ true → request_of_words (request_words q) ≡ Some q
unfolding request_of_words code_of_word
request-worded q h =
    let f = request-fields q h in
    rw (f.0, date-worded q.from f.1)
