-- The six fields of a report, or of a part of a correction: the first that is wrong, and why. Assumes nothing: these are definitions.
use Rattle.std.specs.Prelude.{Result, Ok, Err, is_ok, ⊤}
use Rattle.std.specs.Result.{result_and}
use Rattle.faults.specs.declared.cause.FieldFault.{FieldFault}
use Rattle.faults.specs.Cause.{fault_in}
use Rattle.faults.specs.declared.cause.Cause.{Cause}
use Rattle.std.specs.Prelude.{ℕ, ◌+◌, Bool, ◌||◌, List}
use Rattle.faults.specs.Field.{digits_alone, date_alone, code_alone, kind_alone, allowed, is_range, is_named}

-- a field by itself, and where it stands
abbrev pub at_field : ℕ → Result ⊤ Cause → Result ⊤ FieldFault
at_field pos (Ok x) = Ok x
at_field pos (Err cause) = fault_in pos cause

-- a field that is right leaves the answer to those behind it, as do fields that are all right (`result_and`)
abbrev pub on_field : ℕ → Result ⊤ Cause → Result ⊤ FieldFault → Result ⊤ FieldFault
on_field pos check others = result_and (at_field pos check) others

-- whether the gaining network is named; where fields may be missing, nothing is asked
unfoldable pub is_named_or : Result ⊤ Cause → List ℕ → List ℕ → Bool
is_named_or missing gaining status = is_ok missing || is_named gaining status

-- the two number fields; `none` is said of an empty first one
abbrev pub on_numbers : ℕ → Result ⊤ Cause → List ℕ → List ℕ → Result ⊤ FieldFault → Result ⊤ FieldFault
on_numbers pos none first last others =
    on_field pos (digits_alone none first)
    (on_field (pos + 2) (allowed (digits_alone (Ok tt) last) (is_range first last))
    others)

-- gaining and losing network, and the status; `missing` is said of an empty losing network or status
abbrev pub on_networks : ℕ → Result ⊤ Cause → List ℕ → List ℕ → List ℕ → Result ⊤ FieldFault
on_networks pos missing gaining losing status =
    on_field pos (code_alone (Ok tt) gaining)
    (on_field (pos + 2) (code_alone missing losing)
    (on_field (pos + 4) (allowed (kind_alone missing status) (is_named_or missing gaining status))
    (Ok tt)))

-- numbers, date, networks and status, at every second "Pos." from `pos` on, for the commas have theirs
unfoldable pub six_fault : ℕ → Result ⊤ Cause → Result ⊤ Cause → List ℕ → List ℕ → List ℕ → List ℕ → List ℕ → List ℕ → Result ⊤ FieldFault
six_fault pos none missing first last date gaining losing status =
    on_numbers pos none first last
    (on_field (pos + 4) (date_alone missing date)
    (on_networks (pos + 6) missing gaining losing status))
