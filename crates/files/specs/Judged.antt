-- How many records a file has, or its first fault: its place, and why. The lines of a file are its pieces between CRs (13): each line ends
-- with a CR, so the last piece, behind the last CR, has to be empty. Assumes nothing: these are definitions.
use Rattle.std.specs.Prelude.{Result, Ok, Err}
use Rattle.files.specs.declared.judge.Fault.{Fault}
use Rattle.std.specs.Prelude.{eqb, ℕ, ◌+◌, Bool, true, false, cond, ◌||◌, List, [], ◌∷◌, length, take}
use Rattle.laws.specs.Lists.{same_lists}
use Rattle.laws.specs.Split.{split}
use Rattle.laws.specs.Told.{Told, told}
use Rattle.records.specs.closing.Closing.{begins, closing_text}
use Rattle.records.specs.declared.names.kind.FileKind.{FileKind}
use Rattle.records.specs.names.Kind.{has_closing}
use Rattle.faults.specs.declared.cause.Cause.TheVariants.{Length, Closing, After}
use Rattle.faults.specs.declared.cause.FaultPlace.{FaultPlace}
use Rattle.std.specs.Result.{result_and}
use Rattle.std.specs.Prelude.{⊤}
use Rattle.faults.specs.declared.cause.Cause.{Cause}
use Rattle.faults.specs.declared.cause.FieldFault.{FieldFault}
use Rattle.faults.specs.Cause.{fault_told}
use Rattle.faults.specs.Record.{record_fault, end_pos}

-- what an answer tells: 0 with the count of the records, or 4 with the fault
abbrev pub judged_told : Result ℕ Fault → Told
judged_told (Ok n) = told 0 (n ∷ [])
judged_told (Err fault) = fault_told fault.at fault.cause

-- a field of the record i; the field 0 is none
abbrev pub place_at : ℕ → ℕ → FaultPlace
place_at i field = record { place = i; field = field }

abbrev pub fault_of : FaultPlace → Cause → Fault
fault_of place cause = record { at = place; cause = cause }

abbrev pub fault_at : {A : Type 0} → FaultPlace → Cause → Result A Fault
fault_at place cause = Err (fault_of place cause)

-- whether nothing stands behind the last CR, and no line either
abbrev pub is_end : List (List ℕ) → Bool
is_end [] = false
is_end ([] ∷ []) = true
is_end ([] ∷ m ∷ more) = false
is_end ((b ∷ l) ∷ more) = false

-- at the place i stands a line l that begins as a closing record does: it has to be the right one, and nothing may follow
abbrev pub closed : ℕ → List ℕ → List (List ℕ) → Result ℕ Fault
closed i l more = cond (same_lists eqb l (closing_text (i + 1))) (cond (is_end more) (Ok i) (fault_at (place_at (i + 1) 0) After)) (fault_at (place_at i 0) Closing)

-- what is said of the line at the place i, by the check of it as a record
abbrev pub at_line : ℕ → Result ⊤ FieldFault → Result ⊤ Fault
at_line i (Ok x) = Ok x
at_line i (Err fault) = fault_at (place_at i fault.field) fault.cause

-- a record leaves the answer to what follows it
abbrev pub on_line : ℕ → Result ⊤ FieldFault → Result ℕ Fault → Result ℕ Fault
on_line i check others = result_and (at_line i check) others

-- a line that no CR ends: its own fault, or that the CR is missing
unfoldable pub unended : FileKind → ℕ → List ℕ → Result ℕ Fault
unended kind i l = on_line i (record_fault kind l) (fault_at (place_at i (end_pos kind)) Length)

-- what stands behind the last CR: nothing, or a closing record without its CR; else a line that no CR ends
unfoldable pub last_line : FileKind → ℕ → List ℕ → Result ℕ Fault
last_line kind i l = cond (eqb (length l) 0 || begins l) (fault_at (place_at i 0) Closing) (unended kind i l)

-- the lines from the place i on: the last one; a closing record; a record, and then the others
unfoldable pub judged : FileKind → ℕ → List (List ℕ) → Result ℕ Fault
judged kind i [] = last_line kind i []
judged kind i (l ∷ []) = last_line kind i l
judged kind i (l ∷ m ∷ more) = cond (begins l) (closed i l (m ∷ more)) (on_line i (record_fault kind l) (judged kind (i + 1) (m ∷ more)))

-- one record and nothing else
unfoldable pub judged_one : FileKind → List (List ℕ) → Result ℕ Fault
judged_one kind [] = unended kind 0 []
judged_one kind (l ∷ []) = unended kind 0 l
judged_one kind (l ∷ m ∷ more) = on_line 0 (record_fault kind l) (cond (is_end (m ∷ more)) (Ok 1) (fault_at (place_at 1 0) After))

-- a file of a kind
unfoldable pub judged_file : FileKind → List ℕ → Result ℕ Fault
judged_file kind file = cond (has_closing kind) (judged kind 0 (split 13 file)) (judged_one kind (split 13 file))

-- the texts of the records; none where there is a fault
abbrev pub records_in : Result ℕ Fault → List (List ℕ) → List (List ℕ)
records_in (Ok n) lines = take n lines
records_in (Err fault) lines = []

unfoldable pub records_of : FileKind → List ℕ → List (List ℕ)
records_of kind file = records_in (judged_file kind file) (split 13 file)
