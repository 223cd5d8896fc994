-- The value of the record at a place of a file, and what each answer tells. Assumes nothing: these are definitions.
use Rattle.layout.specs.declared.request.Request.{Request}
use Rattle.layout.specs.declared.report.Report.{Report}
use Rattle.layout.specs.declared.correction.Correction.{Correction}
use Rattle.std.specs.Prelude.{Option, Some, None, Result, Ok, Err, ⊤}
use Rattle.files.specs.declared.read.NoRecord.{NoRecord}
use Rattle.std.specs.Prelude.{ℕ, List, []}
use Rattle.laws.specs.Split.{piece_of}
use Rattle.laws.specs.Told.{Told, told}
use Rattle.faults.specs.Cause.{fault_told}
use Rattle.layout.specs.Report.{report_of}
use Rattle.layout.specs.Correction.{correction_of}
use Rattle.layout.specs.Request.{request_of}
use Rattle.records.specs.declared.names.kind.FileKind.{FileKind}
use Rattle.records.specs.Worded.{report_words, correction_words, request_words}
use Rattle.files.specs.Reading.{found_at}

-- ---- where a record is found, it is read (`proofs/ValueTrip`), so the last line is never asked
abbrev pub value_found : {A : Type 0} → Result ⊤ NoRecord → Option A → Result A NoRecord
value_found (Err none) r = Err none
value_found (Ok found) (Some x) = Ok x
value_found (Ok found) None = Err NoRecord.Beyond

-- reports of default and response files
unfoldable pub report_at : List ℕ → ℕ → Result Report NoRecord
report_at file k = value_found (found_at FileKind.Default file k) (report_of (piece_of 13 file k))

-- corrections
unfoldable pub correction_at : List ℕ → ℕ → Result Correction NoRecord
correction_at file k = value_found (found_at FileKind.Correction file k) (correction_of (piece_of 13 file k))

-- the request of a request file
unfoldable pub request_at : List ℕ → ℕ → Result Request NoRecord
request_at file k = value_found (found_at FileKind.Request file k) (request_of (piece_of 13 file k))

-- ---- what an answer tells: 0 with the words that a writer takes for this record, 4 with the fault, or 7
abbrev pub value_told : {A : Type 0} → (A → List ℕ) → Result A NoRecord → Told
value_told words (Ok x) = told 0 (words x)
value_told words (Err (NoRecord.Fault fault)) = fault_told fault.at fault.cause
value_told words (Err NoRecord.Beyond) = told 7 []

abbrev pub report_at_told : Result Report NoRecord → Told
report_at_told = value_told report_words

abbrev pub correction_at_told : Result Correction NoRecord → Told
correction_at_told = value_told correction_words

abbrev pub request_at_told : Result Request NoRecord → Told
request_at_told = value_told request_words
