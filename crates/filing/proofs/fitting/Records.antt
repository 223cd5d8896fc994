-- What is read is in range, whatever the bytes are. Assumes nothing.
--     says-fine       what the bytes of a record say
use Rattle.layout.specs.declared.correction.Correction.{Correction}
use Rattle.std.specs.Prelude.{Option, Some, None}
use mathlib.Core.Path.{◌≡◌, refl}
use mathlib.Core.Bool.{Bool, true, false, cond, not, ◌&&◌}
use mathlib.Core.List.{List}
use Prim.Native.Nat.{ℕ, zero, suc}
use borrow.Author.Tests.{leb-true}
use Rattle.laws.proofs.Tests.{and_left, and_right}
use Rattle.fields.specs.declared.gaining.Gaining.{Gaining}
use Rattle.fields.specs.declared.gaining.Gaining.TheVariants.{Code as To, Owner}
use Rattle.fields.specs.Code.{maybe_code_fits}
use Rattle.fields.specs.Date.{maybe_date_fits}
use Rattle.fields.specs.Gaining.{gaining_field}
use Rattle.fields.specs.CorrectionCode.{is_objection}
use Rattle.fields.specs.Number.{is_empty, number_fits}
use Rattle.layout.specs.declared.report.Report.{Report}
use Rattle.layout.specs.Part.{part_fits}
use Rattle.layout.specs.Report.{report_of, whole_of, report_fits, is_named}
use Rattle.layout.specs.Correction.{correction_of}
use Rattle.layout.proofs.ReportLaws.{report-back}
use Rattle.verdict.specs.declared.step.Says.TheVariants.{Other}
use Rattle.rules.specs.Records.{published_by, reported, objected, corrected, says_in}
use Rattle.filing.proofs.fitting.Steps.{FineGaining, FinePublished, FineSays}

gaining-fine : (g : Gaining) → maybe_code_fits (gaining_field g) ≡ true → FineGaining g
gaining-fine (To c) e = leb-true c.0 999 e
gaining-fine Owner e = tt

module _ (r : Report) (e : report_fits r ≡ true) where
  abbrev codes : Bool
  codes = maybe_code_fits (gaining_field r.gaining) && maybe_code_fits (Some r.losing)

  abbrev days : Bool
  days = maybe_date_fits (Some r.date)

  fields_fit : (days && codes) ≡ true
  unfolding report_fits part_fits
  fields_fit =
      and_right (number_fits r.number) (days && codes)
      (and_left (number_fits r.number && (days && codes)) (not (is_empty r.number.first) && is_named (gaining_field r.gaining) r.kind) e)

  codes-fit : codes ≡ true
  codes-fit = and_right days codes fields_fit

  published-fine : FinePublished (published_by r)
  published-fine = record {
    date-in = leb-true r.date.0 18992 (and_left days codes fields_fit);
    losing-in = leb-true r.losing.0 999 (and_right (maybe_code_fits (gaining_field r.gaining)) (maybe_code_fits (Some r.losing)) codes-fit);
    gaining-in = gaining-fine r.gaining (and_left (maybe_code_fits (gaining_field r.gaining)) (maybe_code_fits (Some r.losing)) codes-fit);
  }

report-fine : (s : List ℕ) → FineSays (reported (report_of s))
report-fine s = go (report_of s) refl
  where
    go : (t : Option Report) → report_of s ≡ t → FineSays (reported t)
    go (Some r) e = published-fine r (report-back s r e).1
    go None e = tt

objection-fine : (code : ℕ) (t : Option Report) → FineSays (objected code t)
objection-fine code (Some r) = tt
objection-fine code None = tt

correction-fine : (t : Option Correction) → FineSays (corrected t)
correction-fine (Some c) = go (is_objection c.code)
  where
    go : (b : Bool) → FineSays (cond b (objected c.code.0 (whole_of c.u)) Other)
    go true = objection-fine c.code.0 (whole_of c.u)
    go false = tt
correction-fine None = tt

-- the kinds of file: 0 default, 1 correction
pub says-fine : (kind : ℕ) (bytes : List ℕ) → FineSays (says_in kind bytes)
unfolding says_in
says-fine zero bytes = report-fine bytes
says-fine (suc zero) bytes = correction-fine (correction_of bytes)
says-fine (suc (suc kind)) bytes = tt
