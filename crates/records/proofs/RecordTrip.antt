-- Records read back and written back, by the kind of file. Assumes nothing.
--     record-lacks, record-begins     a record holds no CR, and is never taken for a closing record
--     fits-record                     what words spell is a record
--     report-same, correction-same, request-same     and reads as the value of these words
use Rattle.layout.specs.declared.correction.Correction.{Correction as ACorrection}
use Rattle.layout.specs.declared.request.Request.{Request as ARequest}
use Rattle.std.specs.Prelude.{is_some}
use Rattle.layout.specs.declared.report.Report.{Report}
use Rattle.std.specs.Prelude.{Option, Some, None}
use Prim.Native.Nat.{ℕ}
use mathlib.Core.Path.{◌≡◌, refl, sym, ap, ◌∙◌}
use mathlib.Core.Bool.{true, false}
use mathlib.Core.List.{List}
use Rattle.laws.specs.Lists.{all}
use Rattle.laws.specs.Split.{lacks}
use Rattle.laws.specs.Digits.{is_digit}
use Rattle.laws.proofs.Split.{lacks-by}
use Rattle.fields.specs.Bytes.{field_byte, record_byte}
use Rattle.laws.proofs.Tests.{never}
use Rattle.layout.specs.Report.{report_of, report_of_words, report_part}
use Rattle.layout.specs.Correction.{correction_of, correction_of_words}
use Rattle.layout.specs.Request.{request_of, request_of_words}
use Rattle.layout.proofs.RecordBytes.{part-record-bytes, correction-bytes, request-bytes, no-line-end}
use Rattle.layout.proofs.ReportLaws.{report-trip, report-back, report-words}
use Rattle.layout.proofs.CorrectionTrip.{correction-trip, correction-back, correction-words}
use Rattle.layout.proofs.RequestTrip.{request-trip, request-back, request-words}
use Rattle.records.specs.closing.Closing.{begins}
use Rattle.records.proofs.closing.ClosingLaws.{begins-not}
use Rattle.records.specs.declared.names.kind.FileKind.{FileKind}
use Rattle.records.specs.declared.names.kind.FileKind.TheVariants.{Default, Correction, Request, Response}
use Rattle.records.specs.Record.{is_record, report_spelt, correction_spelt, request_spelt, fits, text_of}

-- ---- the bytes of a record
report-record : (l : List ℕ) → is_some (report_of l) ≡ true → all record_byte l ≡ true
report-record l e = go (report_of l) refl e
  where
    go : (r : Option Report) → report_of l ≡ r → is_some r ≡ true → all record_byte l ≡ true
    go (Some x) q e = ap (all record_byte) (sym (report-back l x q).0) ∙ part-record-bytes (report_part x)
    go None q e = never e

correction-record : (l : List ℕ) → is_some (correction_of l) ≡ true → all record_byte l ≡ true
correction-record l e = go (correction_of l) refl e
  where
    go : (r : Option ACorrection) → correction_of l ≡ r → is_some r ≡ true → all record_byte l ≡ true
    go (Some x) q e = ap (all record_byte) (sym (correction-back l x q).0) ∙ correction-bytes x
    go None q e = never e

request-record : (l : List ℕ) → is_some (request_of l) ≡ true → all record_byte l ≡ true
request-record l e = go (request_of l) refl e
  where
    go : (r : Option ARequest) → request_of l ≡ r → is_some r ≡ true → all record_byte l ≡ true
    go (Some x) q e = ap (all record_byte) (sym (request-back l x q).0) ∙ request-bytes x
    go None q e = never e

record-bytes : (k : FileKind) (l : List ℕ) → is_record k l ≡ true → all record_byte l ≡ true
unfolding is_record
record-bytes Default l e = report-record l e
record-bytes Correction l e = correction-record l e
record-bytes Request l e = request-record l e
record-bytes Response l e = report-record l e

pub record-lacks : (k : FileKind) (l : List ℕ) → is_record k l ≡ true → lacks 13 l ≡ true
record-lacks k l e = (no-line-end l (record-bytes k l e)).0

pub record-begins : (k : FileKind) (l : List ℕ) → is_record k l ≡ true → begins l ≡ false
unfolding record_byte field_byte is_digit
record-begins k l e = begins-not l (lacks-by record_byte 101 refl l (record-bytes k l e))

-- ---- what words spell
pub report-same : (w : List ℕ) → is_some (report_of_words w) ≡ true → report_of (report_spelt (report_of_words w)) ≡ report_of_words w
report-same w e = go (report_of_words w) refl e
  where
    go : (r : Option Report) → report_of_words w ≡ r → is_some r ≡ true → report_of (report_spelt r) ≡ r
    go (Some x) q e = report-trip x (report-words w x q)
    go None q e = never e

pub correction-same : (w : List ℕ) → is_some (correction_of_words w) ≡ true → correction_of (correction_spelt (correction_of_words w)) ≡ correction_of_words w
correction-same w e = go (correction_of_words w) refl e
  where
    go : (r : Option ACorrection) → correction_of_words w ≡ r → is_some r ≡ true → correction_of (correction_spelt r) ≡ r
    go (Some x) q e = correction-trip x (correction-words w x q)
    go None q e = never e

pub request-same : (w : List ℕ) → is_some (request_of_words w) ≡ true → request_of (request_spelt (request_of_words w)) ≡ request_of_words w
request-same w e = go (request_of_words w) refl e
  where
    go : (r : Option ARequest) → request_of_words w ≡ r → is_some r ≡ true → request_of (request_spelt r) ≡ r
    go (Some x) q e = request-trip x (request-words w x q)
    go None q e = never e

pub fits-record : (k : FileKind) (w : List ℕ) → fits k w ≡ true → is_record k (text_of k w) ≡ true
unfolding fits is_record text_of
fits-record Default w e = ap is_some (report-same w e) ∙ e
fits-record Correction w e = ap is_some (correction-same w e) ∙ e
fits-record Request w e = ap is_some (request-same w e) ∙ e
fits-record Response w e = ap is_some (report-same w e) ∙ e
