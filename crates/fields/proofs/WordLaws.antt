-- What is made of plain words fits its field. Assumes nothing.
use Rattle.std.specs.Prelude.{Option, Some, None}
use Prim.Native.Nat.{ℕ}
use native.Mathlib.Omega.{arith}
use mathlib.Core.Path.{◌≡◌, refl}
use mathlib.Core.Bool.{Bool, true, false, cond}
use lib.Dec.{leb}
use Rattle.calendar.specs.declared.dates.CalendarDays.{CalendarDays}
use Rattle.calendar.specs.Dates.{in_calendar}
use Rattle.fields.specs.declared.code.Code.{Code}
use Rattle.fields.specs.declared.correction_code.CorrectionCode.{CorrectionCode}
use Rattle.fields.specs.Code.{code_of_word, code_fits, maybe_code_of_word, maybe_code_fits}
use Rattle.fields.specs.CorrectionCode.{correction_code_of_word, correction_code_fits}
use Rattle.fields.proofs.FieldLaws.{maybe-word}
use Rattle.fields.specs.declared.kind.Kind.{Kind}
use Rattle.fields.specs.Kind.{kind_of_word, kind_fits}
use Rattle.fields.specs.Date.{date_of_word, date_fits, maybe_date_of_word, maybe_date_fits}

pub code-word : (w : ℕ) (c : Code) → code_of_word w ≡ Some c → code_fits c ≡ true
unfolding code_of_word
code-word w c h = go (leb w 999) refl h
  where
    go : (t : Bool) → leb w 999 ≡ t → cond t (Some (record { 0 = w })) None ≡ Some c → code_fits c ≡ true
    go true p e = let same : ◌≡◌ {A = Code} (record { 0 = w }) c = cc in rw (← same) p
    go false p e = absurd (let z : ◌≡◌ {A = ℕ} 0 1 = cc in omega arith)

pub maybe-code-word : (w : ℕ) (c : Option Code) → maybe_code_of_word w ≡ Some c → maybe_code_fits c ≡ true
maybe-code-word = maybe-word 1000 code-word

pub correction-code-word : (w : ℕ) (c : CorrectionCode) → correction_code_of_word w ≡ Some c → correction_code_fits c ≡ true
unfolding correction_code_of_word
correction-code-word w c h = go (leb w 9999) refl h
  where
    go : (t : Bool) → leb w 9999 ≡ t → cond t (Some (record { 0 = w })) None ≡ Some c → correction_code_fits c ≡ true
    go true p e = let same : ◌≡◌ {A = CorrectionCode} (record { 0 = w }) c = cc in rw (← same) p
    go false p e = absurd (let z : ◌≡◌ {A = ℕ} 0 1 = cc in omega arith)

pub date-word : (w : ℕ) (d : CalendarDays) → date_of_word w ≡ Some d → date_fits d ≡ true
unfolding date_of_word
date-word w d h = go (in_calendar w) refl h
  where
    go : (t : Bool) → in_calendar w ≡ t → cond t (Some (record { 0 = w })) None ≡ Some d → date_fits d ≡ true
    go true p e = let same : ◌≡◌ {A = CalendarDays} (record { 0 = w }) d = cc in rw (← same) p
    go false p e = absurd (let z : ◌≡◌ {A = ℕ} 0 1 = cc in omega arith)

pub maybe-date-word : (w : ℕ) (d : Option CalendarDays) → maybe_date_of_word w ≡ Some d → maybe_date_fits d ≡ true
maybe-date-word = maybe-word 65535 date-word

pub kind-word : (w : ℕ) (k : Kind) → kind_of_word w ≡ Some k → kind_fits k ≡ true
kind-word w k h = refl
