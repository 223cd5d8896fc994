-- The number of each cause, for other languages, and what is told of a fault. Assumes nothing: these are definitions.
use Rattle.std.specs.Prelude.{Result, Err, ⊤}
use Rattle.faults.specs.declared.cause.FieldFault.{FieldFault}
use Rattle.std.specs.Prelude.{ℕ, [], ◌∷◌}
use Rattle.laws.specs.Told.{Told, told}
use Rattle.faults.specs.declared.cause.Cause.{Cause}
use Rattle.faults.specs.declared.cause.FaultPlace.{FaultPlace}
use Rattle.faults.specs.declared.cause.Cause.TheVariants.{Character, Length, Date, Code, Value, Closing, After}

abbrev pub cause_number : Cause → ℕ
cause_number Character = 1
cause_number Length = 2
cause_number Date = 3
cause_number Code = 4
cause_number Value = 5
cause_number Closing = 6
cause_number After = 7

-- 4, with the place of the record, the field in it (0: none) and the cause
abbrev pub fault_told : FaultPlace → Cause → Told
fault_told at cause = told 4 (at.place ∷ at.field ∷ cause_number cause ∷ [])

-- what is said of a record with a fault in a field
abbrev pub fault_in : ℕ → Cause → Result ⊤ FieldFault
fault_in field cause = Err (record { field = field; cause = cause })
