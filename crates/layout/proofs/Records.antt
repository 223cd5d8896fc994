-- What holds of every record that reads: its bytes are those of 4.4.1, and a report or a correction begins with a digit. Assumes nothing.
use Rattle.std.specs.Prelude.{Some}
use Prim.Native.Nat.{ℕ, ◌<◌}
use mathlib.Core.Path.{◌≡◌, ap, ◌∙◌}
use mathlib.Core.Bool.{true}
use mathlib.Core.List.{List, ◌++◌}
use lib.ListN.{length, get_or, get_or-append}
use Rattle.laws.specs.Lists.{all}
use Rattle.laws.specs.Digits.{is_digit, digits}
use Rattle.laws.proofs.Tables.{all-at}
use Rattle.laws.proofs.Digits.{length_digits, all_digits_lem}
use Rattle.fields.specs.Bytes.{record_byte}
use Rattle.layout.specs.declared.correction.Correction.{Correction}
use Rattle.layout.specs.declared.report.Report.{Report}
use Rattle.layout.specs.declared.request.Request.{Request}
use Rattle.layout.specs.Report.{report_of, report_part}
use Rattle.layout.specs.Correction.{correction_of}
use Rattle.layout.specs.Request.{request_of}
use Rattle.layout.proofs.RecordBytes.{part-record-bytes, correction-bytes, request-bytes}
use Rattle.layout.proofs.ReportLaws.{report-back}
use Rattle.layout.proofs.RequestTrip.{request-back}
use Rattle.layout.proofs.CorrectionTrip.{correction-back}

-- ---- each byte
pub report-characters : (s : List ℕ) (r : Report) → report_of s ≡ Some r → all record_byte s ≡ true
report-characters s r h = rw (report-back s r h).0 at (part-record-bytes (report_part r))

pub correction-characters : (s : List ℕ) (c : Correction) → correction_of s ≡ Some c → all record_byte s ≡ true
correction-characters s c h = rw (correction-back s c h).0 at (correction-bytes c)

pub request-characters : (s : List ℕ) (r : Request) → request_of s ≡ Some r → all record_byte s ≡ true
request-characters s r h = rw (request-back s r h).0 at (request-bytes r)

-- ---- the first byte
digit-first : (k n : ℕ) (t : List ℕ) → 0 < k → is_digit (get_or (digits k n ++ t) 0 0) ≡ true
digit-first k n t h =
    let l : 0 < length (digits k n) = rw length_digits h in
    ap is_digit (get_or-append (digits k n) t 0 0 l) ∙ all-at is_digit (digits k n) 0 0 (all_digits_lem k n) l
