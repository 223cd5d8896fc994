-- The first field of a record that is wrong, and why; a field is known by its "Pos." in the table of 4.5.2.3 (reports), 4.7.8 (corrections) or
-- 4.5.1 (requests). Assumes nothing: these are definitions.
use Rattle.std.specs.Prelude.{Result, Ok, Err, ⊤}
use Rattle.std.specs.Result.{result_and}
use Rattle.faults.specs.declared.cause.FieldFault.{FieldFault}
use Rattle.faults.specs.Cause.{fault_in}
use Rattle.faults.specs.declared.cause.Cause.{Cause}
use Rattle.std.specs.Prelude.{ℕ, ◌+◌, ◌*◌, ◌-◌, cond, not, ◌||◌, List, eqb, leb, length, take, drop}
use Rattle.laws.specs.Split.{split}
use Rattle.records.specs.declared.names.kind.FileKind.{FileKind}
use Rattle.faults.specs.declared.cause.Cause.TheVariants.{Length, Value}
use Rattle.faults.specs.Cut.{field_at, rest_at, code_in, mark_in, number_in}
use Rattle.faults.specs.Field.{date_alone, code_alone, correction_code_alone, mark_alone, nothing_alone, objects}
use Rattle.faults.specs.Six.{on_field, six_fault}

-- how many commas a line has
abbrev pub commas : List ℕ → ℕ
commas s = length (split 44 s) - 1

-- where all fields are right: the first comma that is missing has the wrong length. It has a "Pos." of its own, two for each comma behind `pos`
unfoldable pub on_commas : ℕ → ℕ → List ℕ → Result ⊤ FieldFault
on_commas most pos s = cond (leb most (commas s)) (Ok tt) (fault_in (pos + 2 * commas s) Length)

-- ---- a report: an empty field that must not be empty has the wrong length
unfoldable pub report_fault : List ℕ → Result ⊤ FieldFault
report_fault s =
    six_fault 1 (Err Length) (Err Length) (field_at s 0) (field_at s 1) (field_at s 2) (field_at s 3) (field_at s 4) (rest_at s 5)

-- ---- a correction
-- what the U part of an objection must not leave empty is a value that the table doesn't allow there
unfoldable pub whole_for : List ℕ → Result ⊤ Cause
whole_for code = cond (objects code) (Err Value) (Ok tt)

-- with any other code one part has a number: the K part, where the U part has none
unfoldable pub number_for : List ℕ → List ℕ → Result ⊤ Cause
number_for code first = cond (objects code || not (eqb (length first) 0)) (Ok tt) (Err Value)

unfoldable pub u_fault : List ℕ → List ℕ → List ℕ → Result ⊤ FieldFault
u_fault code first s = six_fault 3 (whole_for code) (whole_for code) first (field_at s 1) (field_at s 2) (field_at s 3) (field_at s 4) (field_at s 5)

unfoldable pub k_fault : List ℕ → List ℕ → List ℕ → Result ⊤ FieldFault
k_fault code first s =
    six_fault 16 (number_for code first) (Ok tt) (drop 2 (field_at s 6)) (field_at s 7) (field_at s 8) (field_at s 9) (field_at s 10) (rest_at s 11)

-- code, "U:", the U part that begins with `first`, "K:", the K part, and the commas: the one behind the K part's first number is 17
unfoldable pub correction_from : List ℕ → List ℕ → List ℕ → List ℕ → Result ⊤ FieldFault
correction_from code mark first s =
    on_field 1 (correction_code_alone code)
    (on_field 2 (mark_alone 85 mark)
    (result_and (u_fault code first s)
    (on_field 15 (mark_alone 75 (take 2 (field_at s 6)))
    (result_and (k_fault code first s)
    (on_commas 11 5 s)))))

unfoldable pub correction_fault : List ℕ → Result ⊤ FieldFault
correction_fault s = correction_from (code_in (field_at s 0)) (mark_in (field_at s 0)) (number_in (field_at s 0)) s

-- ---- a request: a network code, a date or nothing, and nothing behind the second comma, where the CR stands
unfoldable pub request_fault : List ℕ → Result ⊤ FieldFault
request_fault s =
    on_field 1 (code_alone (Err Length) (field_at s 0))
    (on_field 3 (date_alone (Ok tt) (field_at s 1))
    (on_field 5 (nothing_alone (rest_at s 2))
    (on_commas 2 2 s)))

-- ---- a record of a file of a kind
unfoldable pub record_fault : FileKind → List ℕ → Result ⊤ FieldFault
record_fault FileKind.Default s = report_fault s
record_fault FileKind.Correction s = correction_fault s
record_fault FileKind.Request s = request_fault s
record_fault FileKind.Response s = report_fault s

-- the "Pos." of the CR that ends a record
abbrev pub end_pos : FileKind → ℕ
end_pos FileKind.Default = 12
end_pos FileKind.Correction = 27
end_pos FileKind.Request = 5
end_pos FileKind.Response = 12
