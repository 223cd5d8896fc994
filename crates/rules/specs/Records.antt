-- What the bytes of a record say: the number that it names, its class within a day, and what the verdicts take. Each is total: bytes that
-- are no record of their kind name no number, come behind the others of their kind, and say what no rule knows. Assumes nothing: these are definitions.
use Rattle.layout.specs.declared.correction.Correction.{Correction}
use Rattle.fields.specs.declared.number.Digits.{Digits}
use Rattle.std.specs.Prelude.{Option, Some, None}
use Rattle.std.specs.Prelude.{ℕ, zero, suc, ◌+◌, cond, List, drop}
use Rattle.laws.specs.Split.{piece_of}
use Rattle.fields.specs.declared.kind.Kind.{Kind}
use Rattle.fields.specs.declared.number.Number.{Number}
use Rattle.fields.specs.Number.{digits_field_of}
use Rattle.fields.specs.CorrectionCode.{is_objection}
use Rattle.layout.specs.declared.report.Report.{Report}
use Rattle.layout.specs.Report.{report_of, whole_of}
use Rattle.layout.specs.Correction.{correction_of, named_number}
use Rattle.entries.specs.declared.report.Published.{Published}
use Rattle.entries.specs.Report.{by_kind}
use Rattle.verdict.specs.declared.step.Says.{Says}
use Rattle.verdict.specs.declared.step.Says.TheVariants.{Reported, Objected, Other}

-- ---- the number

-- both fields empty: no record of a file names it
abbrev pub no_number : Number
no_number = record { first = record { 0 = 1 }; last = record { 0 = 1 } }

abbrev pub number_in_report : Option Report → Number
number_in_report (Some r) = r.number
number_in_report None = no_number

abbrev pub number_in_correction : Option Correction → Number
number_in_correction (Some c) = named_number c
number_in_correction None = no_number

-- the number that a record names. The kinds of file: 0 default, 1 correction
unfoldable pub number_in : ℕ → List ℕ → Number
number_in zero bytes = number_in_report (report_of bytes)
number_in (suc zero) bytes = number_in_correction (correction_of bytes)
number_in (suc (suc kind)) bytes = no_number

-- the digits of a number field behind a leading 1; 1 where it is empty, or is no number field
abbrev pub field_digits : Option Digits → ℕ
field_digits (Some d) = d.0
field_digits None = 1

-- the field before the first comma (44) of a report; of a correction that of its U part, behind the code and "U:"
unfoldable pub first_in : ℕ → List ℕ → ℕ
first_in zero bytes = field_digits (digits_field_of (piece_of 44 bytes 0))
first_in (suc zero) bytes = field_digits (digits_field_of (piece_of 44 (drop 6 bytes) 0))
first_in (suc (suc kind)) bytes = 1

-- ---- the class within a day: corrections, then P, then L, then Z. Numbers between them are left for kinds of record to come

abbrev pub class_of_kind : Kind → ℕ
class_of_kind kind = by_kind kind 8 9 10

abbrev pub class_of_report : Option Report → ℕ
class_of_report (Some r) = class_of_kind r.kind
class_of_report None = 11

abbrev pub correction_class : ℕ
correction_class = 2

unfoldable pub class_in : ℕ → List ℕ → ℕ
class_in zero bytes = class_of_report (report_of bytes)
class_in (suc zero) bytes = correction_class
class_in (suc (suc kind)) bytes = 100 + kind

-- ---- what it says

-- a report without its number
abbrev pub published_by : Report → Published
published_by r = record { kind = r.kind; date = r.date; losing = r.losing; gaining = r.gaining }

abbrev pub reported : Option Report → Says
reported (Some r) = Reported (published_by r)
reported None = Other

-- an objection with this code, against the report of its U part
abbrev pub objected : ℕ → Option Report → Says
objected code (Some r) = Objected (record { code = code; named = published_by r })
objected code None = Other

-- a correction: 25XX is an objection
abbrev pub corrected : Option Correction → Says
corrected (Some c) = cond (is_objection c.code) (objected c.code.0 (whole_of c.u)) Other
corrected None = Other

unfoldable pub says_in : ℕ → List ℕ → Says
says_in zero bytes = reported (report_of bytes)
says_in (suc zero) bytes = corrected (correction_of bytes)
says_in (suc (suc kind)) bytes = Other
