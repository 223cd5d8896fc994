-- A record that is read at a place of a file fits its layout, and so can be written again. Assumes nothing.
use Rattle.std.specs.Prelude.{Option, Some, None, Result, Ok, Err, ⊤}
use Rattle.files.specs.declared.read.NoRecord.{NoRecord}
use mathlib.Core.Path.{◌≡◌}
use mathlib.Core.Bool.{true}
use mathlib.Core.List.{List}
use Prim.Native.Nat.{ℕ}
use native.Mathlib.Omega.{arith}
use Rattle.laws.specs.Split.{piece_of}
use Rattle.records.specs.declared.names.kind.FileKind.{FileKind}
use Rattle.layout.specs.declared.report.Report.{Report}
use Rattle.layout.specs.declared.correction.Correction.{Correction}
use Rattle.layout.specs.declared.request.Request.{Request}
use Rattle.layout.specs.Report.{report_of, report_fits}
use Rattle.layout.specs.Correction.{correction_of, correction_fits}
use Rattle.layout.specs.Request.{request_of, request_fits}
use Rattle.layout.proofs.ReportLaws.{report-back}
use Rattle.layout.proofs.CorrectionTrip.{correction-back}
use Rattle.layout.proofs.RequestTrip.{request-back}
use Rattle.files.specs.Reading.{found_at}
use Rattle.files.specs.Values.{value_found, report_at, correction_at, request_at}

-- what is told was read
value-read : {A : Type 0} (found : Result ⊤ NoRecord) (r : Option A) (x : A) → value_found found r ≡ Ok x → r ≡ Some x
value-read (Ok found) (Some y) x e = cc
value-read (Ok found) None x e = absurd (let z : ◌≡◌ {A = ℕ} 0 1 = cc in omega arith)
value-read (Err none) r x e = absurd (let z : ◌≡◌ {A = ℕ} 0 1 = cc in omega arith)

pub report-at-fits : (file : List ℕ) (k : ℕ) (x : Report) → report_at file k ≡ Ok x → report_fits x ≡ true
unfolding report_at
report-at-fits file k x e = (report-back (piece_of 13 file k) x (value-read (found_at FileKind.Default file k) (report_of (piece_of 13 file k)) x e)).1

pub correction-at-fits : (file : List ℕ) (k : ℕ) (x : Correction) → correction_at file k ≡ Ok x → correction_fits x ≡ true
unfolding correction_at
correction-at-fits file k x e = (correction-back (piece_of 13 file k) x (value-read (found_at FileKind.Correction file k) (correction_of (piece_of 13 file k)) x e)).1

pub request-at-fits : (file : List ℕ) (k : ℕ) (x : Request) → request_at file k ≡ Ok x → request_fits x ≡ true
unfolding request_at
request-at-fits file k x e = (request-back (piece_of 13 file k) x (value-read (found_at FileKind.Request file k) (request_of (piece_of 13 file k)) x e)).1
