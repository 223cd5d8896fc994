-- The record at a place of a file. Assumes nothing: these are definitions.
use Rattle.std.specs.Prelude.{Result, Ok, Err, ⊤}
use Rattle.files.specs.declared.read.NoRecord.{NoRecord}
use Rattle.files.specs.declared.judge.Fault.{Fault}
use Rattle.std.specs.Prelude.{ℕ, cond, List, [], ltb, get_or}
use Rattle.laws.specs.Told.{Told, told}
use Rattle.faults.specs.Cause.{fault_told}
use Rattle.records.specs.declared.names.kind.FileKind.{FileKind}
use Rattle.files.specs.Judged.{judged_file, records_of}

-- what an answer tells: 0, 4 with the fault, or 7
abbrev pub found_told : Result ⊤ NoRecord → Told
found_told (Ok x) = told 0 []
found_told (Err (NoRecord.Fault fault)) = fault_told fault.at fault.cause
found_told (Err NoRecord.Beyond) = told 7 []

-- the place k of a file that was judged: a fault first, then a place beyond the records
abbrev pub found_in : Result ℕ Fault → ℕ → Result ⊤ NoRecord
found_in (Err fault) k = Err (NoRecord.Fault fault)
found_in (Ok n) k = cond (ltb k n) (Ok tt) (Err NoRecord.Beyond)

unfoldable pub found_at : FileKind → List ℕ → ℕ → Result ⊤ NoRecord
found_at kind file k = found_in (judged_file kind file) k

-- the text of the record at the place k; nothing where there is none
unfoldable pub record_at : FileKind → List ℕ → ℕ → List ℕ
record_at kind file k = get_or (records_of kind file) k []
