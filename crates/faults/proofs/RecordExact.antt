-- The search for a fault finds one exactly in the lines that are no records. Assumes nothing.
--     record-exact                  of any line, for each kind of file
--     record_has_no_fault, right-record    so a record is right, and what is right is a record
use Rattle.std.specs.Prelude.{Result, Ok, Err, is_ok, ⊤}
use Rattle.faults.specs.declared.cause.FieldFault.{FieldFault}
use Prim.Native.Nat.{ℕ}
use native.Mathlib.Omega.{arith}
use mathlib.Core.Path.{◌≡◌, refl, sym, ap, ◌∙◌}
use mathlib.Core.Bool.{true}
use mathlib.Core.List.{List}
use Rattle.records.specs.declared.names.kind.FileKind.{FileKind}
use Rattle.records.specs.declared.names.kind.FileKind.TheVariants.{Default, Correction, Request, Response}
use Rattle.records.specs.Record.{is_record}
use Rattle.faults.specs.Record.{record_fault}
use Rattle.faults.proofs.ReportExact.{report-exact}
use Rattle.faults.proofs.RequestExact.{request-exact}
use Rattle.faults.proofs.CorrectionExact.{correction-exact}

pub record-exact : (kind : FileKind) (l : List ℕ) → is_record kind l ≡ is_ok (record_fault kind l)
unfolding is_record record_fault
record-exact Default l = report-exact l
record-exact Correction l = correction-exact l
record-exact Request l = request-exact l
record-exact Response l = report-exact l

faultless-right : (r : Result ⊤ FieldFault) → is_ok r ≡ true → r ≡ Ok tt
faultless-right (Ok tt) e = refl
faultless-right (Err fault) e = absurd (let z : ◌≡◌ {A = ℕ} 0 1 = cc in omega arith)

-- a record has no fault, and what has none is a record
pub record_has_no_fault : (kind : FileKind) (l : List ℕ) → is_record kind l ≡ true → record_fault kind l ≡ Ok tt
record_has_no_fault kind l e = faultless-right (record_fault kind l) (sym (record-exact kind l) ∙ e)

pub right-record : (kind : FileKind) (l : List ℕ) → record_fault kind l ≡ Ok tt → is_record kind l ≡ true
right-record kind l e = record-exact kind l ∙ ap is_ok e
