-- What the files need to know of their records. Assumes nothing.
--     fits_width, fits-short     words that make a record are as many as its kind takes, and its line is no longer than they are
use Rattle.layout.specs.declared.correction.Correction.{Correction as ACorrection}
use Rattle.layout.specs.declared.request.Request.{Request as ARequest}
use Rattle.std.specs.Prelude.{is_some}
use Rattle.layout.specs.declared.report.Report.{Report}
use Rattle.layout.specs.declared.part.Part.{Part}
use Rattle.std.specs.Prelude.{Option, Some, None}
use Prim.Native.Nat.{ℕ, ◌+◌, ◌*◌, ◌≤◌}
use native.Mathlib.Omega.{arith}
use mathlib.Core.Path.{◌≡◌, sym, ap, ◌∙◌}
use mathlib.Core.Bool.{true}
use mathlib.Core.List.{List}
use lib.ListN.{length}
use native.Mathlib.Decide.{ℕ_discrete}
use Rattle.laws.proofs.Tests.{never}
use Rattle.layout.specs.Report.{report_from, report_of_words, report_part}
use Rattle.layout.specs.Correction.{correction_of_words}
use Rattle.layout.specs.Request.{request_of_words}
use Rattle.layout.proofs.PartLaws.{words_count, part-short, date-short}
use Rattle.layout.proofs.CorrectionLaws as correction
use Rattle.layout.proofs.RequestLaws as request
use Rattle.records.specs.declared.names.kind.FileKind.{FileKind}
use Rattle.records.specs.declared.names.kind.FileKind.TheVariants.{Default, Correction, Request, Response}
use Rattle.records.specs.Record.{report_spelt, correction_spelt, request_spelt, width_of, fits, text_of}

-- ---- how many words
report-width : (w : List ℕ) → is_some (report_of_words w) ≡ true → length w ≡ 6
unfolding report_of_words report_from
report-width w e = elim (ℕ_discrete (length w) 6) [
  | yes h ↦ h
  | no h ↦ never (sym (ap (λ (p : Option Part). is_some (report_from p)) (words_count w h)) ∙ e)
]

correction-width : (w : List ℕ) → is_some (correction_of_words w) ≡ true → length w ≡ 13
correction-width w e = elim (ℕ_discrete (length w) 13) [
  | yes h ↦ h
  | no h ↦ never (sym (ap is_some (correction.words-1 w h)) ∙ e)
]

request-width : (w : List ℕ) → is_some (request_of_words w) ≡ true → length w ≡ 2
request-width w e = elim (ℕ_discrete (length w) 2) [
  | yes h ↦ h
  | no h ↦ never (sym (ap is_some (request.words-1 w h)) ∙ e)
]

pub fits_width : (k : FileKind) (w : List ℕ) → fits k w ≡ true → length w ≡ width_of k
unfolding fits
fits_width Default w e = report-width w e
fits_width Correction w e = correction-width w e
fits_width Request w e = request-width w e
fits_width Response w e = report-width w e

-- ---- how many bytes
report-short : (r : Option Report) → length (report_spelt r) ≤ 46
report-short (Some x) = part-short (report_part x)
report-short None = omega arith

correction-short : (r : Option ACorrection) → length (correction_spelt r) ≤ 101
correction-short (Some x) = omega (arith, correction.length-correction x, part-short x.u, part-short x.k)
correction-short None = omega arith

request-short : (r : Option ARequest) → length (request_spelt r) ≤ 14
request-short (Some x) = omega (arith, request.length-request x, date-short x.from)
request-short None = omega arith

pub fits-short : (k : FileKind) (w : List ℕ) → fits k w ≡ true → length (text_of k w) + 1 ≤ 8 * length w
unfolding fits text_of
fits-short Default w e = omega (arith, report-width w e, report-short (report_of_words w))
fits-short Correction w e = omega (arith, correction-width w e, correction-short (correction_of_words w))
fits-short Request w e = omega (arith, request-width w e, request-short (request_of_words w))
fits-short Response w e = omega (arith, report-width w e, report-short (report_of_words w))
