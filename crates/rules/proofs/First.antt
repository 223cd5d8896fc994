-- The field before the first comma against the number that a record names, for any bytes. Assumes nothing.
--     first-in     it is empty, or the record names no number, or it is the first field of the number
--     not_named    so a record with another field there does not name the number
use Rattle.std.specs.Prelude.{Option, Some, None}
use mathlib.Core.Path.{◌≡◌, refl, sym, ap, ◌∙◌}
use mathlib.Core.Logic.{◌⊎◌, inl, inr}
use mathlib.Core.Bool.{Bool, true, false, cond, ◌&&◌}
use mathlib.Core.List.{List, [], ◌∷◌, ◌++◌, append-nil, append_assoc}
use Prim.Native.Nat.{ℕ, zero, suc, ◌+◌}
use native.Mathlib.Omega.{arith}
use borrow.Author.Tests.{eqb-true, ne_eqb}
use lib.Dec.{eqb}
use lib.ListN.{length, get_or, drop}
use lib.Seq.{drop-append-add}
use Rattle.laws.specs.Digits.{is_digit}
use Rattle.laws.specs.Split.{piece_of}
use Rattle.laws.proofs.Tests.{and_left, and_right}
use Rattle.laws.proofs.Digits.{length_digits}
use Rattle.laws.proofs.Split.{split-more, lacks-by}
use Rattle.fields.specs.declared.number.Number.{Number}
use Rattle.fields.specs.Bytes.{field_byte}
use Rattle.fields.specs.CorrectionCode.{correction_code_fits, correction_code_text}
use Rattle.fields.specs.Number.{digits_field_of, digits_size, digits_text, is_empty, number_fits, same_number}
use Rattle.fields.proofs.ByteLaws.{bytes-digits}
use Rattle.fields.proofs.NumberLaws.{digits-trip, first_fits}
use Rattle.layout.specs.declared.part.Part.{Part}
use Rattle.layout.specs.declared.report.Report.{Report}
use Rattle.layout.specs.declared.correction.Correction.{Correction}
use Rattle.layout.specs.Part.{part_fits, part_text}
use Rattle.layout.specs.Report.{report_of, report_part, report_fits, report_text}
use Rattle.layout.specs.Correction.{correction_of, correction_fits, correction_text, named_number}
use Rattle.layout.proofs.ReportLaws.{report-back}
use Rattle.layout.proofs.CorrectionTrip.{correction-back}
use Rattle.rules.specs.Records.{number_in_report, number_in_correction, number_in, field_digits, first_in}

-- ---- the first field of a part, whatever follows it
comma-none : field_byte 44 ≡ false
unfolding field_byte is_digit
comma-none = refl

first_piece : (p : Part) (rest : List ℕ) → piece_of 44 (part_text p ++ rest) 0 ≡ digits_text p.number.first
unfolding part_text
first_piece p rest =
    ap (λ (s : List ℕ). piece_of 44 s 0) (append_assoc (digits_text p.number.first) _ rest)
    ∙ ap (λ (fs : List (List ℕ)). get_or fs 0 []) (split-more 44 (digits_text p.number.first) _ (lacks-by field_byte 44 comma-none (digits_text p.number.first) (bytes-digits (digits_size p.number.first) p.number.first.0)))

part_field : (p : Part) (rest : List ℕ) → part_fits p ≡ true → field_digits (digits_field_of (piece_of 44 (part_text p ++ rest) 0)) ≡ p.number.first.0
unfolding part_fits
part_field p rest h =
    ap (λ (f : List ℕ). field_digits (digits_field_of f)) (first_piece p rest)
    ∙ ap field_digits (digits-trip p.number.first (first_fits p.number (and_left (number_fits p.number) _ h)))

-- ---- a report
report-field : (s : List ℕ) (r : Report) → report_of s ≡ Some r → r.number.first.0 ≡ field_digits (digits_field_of (piece_of 44 s 0))
unfolding report_fits
report-field s r e =
    let b = report-back s r e in
    sym (part_field (report_part r) [] (and_left (part_fits (report_part r)) _ b.1))
    ∙ ap (λ (t : List ℕ). field_digits (digits_field_of (piece_of 44 t 0))) (append-nil (report_text r) ∙ b.0)

-- ---- a correction
behind-head : (c : Correction) → drop 6 (correction_text c) ≡ part_text c.u ++ (44 ∷ 75 ∷ 58 ∷ part_text c.k)
unfolding correction_text
behind-head c =
    let six : 6 ≡ length (correction_code_text c.code) + 2 = omega (arith, length_digits 4 c.code.0) in
    let rest : List ℕ = part_text c.u ++ (44 ∷ 75 ∷ 58 ∷ part_text c.k) in
    ap (λ (n : ℕ). drop n (correction_code_text c.code ++ (85 ∷ 58 ∷ rest))) six
    ∙ drop-append-add (correction_code_text c.code) (85 ∷ 58 ∷ rest) 2

correction-field : (s : List ℕ) (c : Correction) → correction_of s ≡ Some c → c.u.number.first.0 ≡ field_digits (digits_field_of (piece_of 44 (drop 6 s) 0))
unfolding correction_fits
correction-field s c e =
    let b = correction-back s c e in
    sym (part_field c.u (44 ∷ 75 ∷ 58 ∷ part_text c.k) (and_left (part_fits c.u) _ (and_right (correction_code_fits c.code) _ b.1)))
    ∙ ap (λ (t : List ℕ). field_digits (digits_field_of (piece_of 44 t 0))) (sym (behind-head c) ∙ ap (drop 6) b.0)

-- ---- the field v against the number that the record names
abbrev Agree : ℕ → ℕ → Type 0
Agree v named = (v ≡ 1) ⊎ (named ≡ 1) ⊎ (named ≡ v)

in-report : (s : List ℕ) (read : Option Report) → report_of s ≡ read → Agree (field_digits (digits_field_of (piece_of 44 s 0))) (number_in_report read).first.0
in-report s (Some r) e = inr (inr (report-field s r e))
in-report s None e = inr (inl refl)

in-correction : (s : List ℕ) (read : Option Correction) → correction_of s ≡ read → Agree (field_digits (digits_field_of (piece_of 44 (drop 6 s) 0))) (number_in_correction read).first.0
unfolding named_number
in-correction s (Some c) e = go (is_empty c.u.number.first) refl
  where
    go : (t : Bool) → is_empty c.u.number.first ≡ t → Agree (field_digits (digits_field_of (piece_of 44 (drop 6 s) 0))) (cond t c.k.number c.u.number).first.0
    go true q = inl (sym (correction-field s c e) ∙ eqb-true c.u.number.first.0 1 q)
    go false q = inr (inr (correction-field s c e))
in-correction s None e = inr (inl refl)

pub first-in : (kind : ℕ) (bytes : List ℕ) → (first_in kind bytes ≡ 1) ⊎ ((number_in kind bytes).first.0 ≡ 1) ⊎ ((number_in kind bytes).first.0 ≡ first_in kind bytes)
unfolding first_in number_in
first-in zero bytes = in-report bytes (report_of bytes) refl
first-in (suc zero) bytes = in-correction bytes (correction_of bytes) refl
first-in (suc (suc kind)) bytes = inl refl

-- ---- a record that has another field there does not name the number
pub not_named : (kind : ℕ) (bytes : List ℕ) (n : Number) → (first_in kind bytes ≡ n.first.0 → ⊥) → (first_in kind bytes ≡ 1 → ⊥) → (n.first.0 ≡ 1 → ⊥) → same_number (number_in kind bytes) n ≡ false
unfolding same_number
not_named kind bytes n other some named = go (first-in kind bytes)
  where
    differ : ((number_in kind bytes).first.0 ≡ n.first.0 → ⊥) → (eqb (number_in kind bytes).first.0 n.first.0 && eqb (number_in kind bytes).last.0 n.last.0) ≡ false
    differ h = rw (ne_eqb (number_in kind bytes).first.0 n.first.0 h)

    go : (first_in kind bytes ≡ 1) ⊎ ((number_in kind bytes).first.0 ≡ 1) ⊎ ((number_in kind bytes).first.0 ≡ first_in kind bytes) → (eqb (number_in kind bytes).first.0 n.first.0 && eqb (number_in kind bytes).last.0 n.last.0) ≡ false
    go (inl e) = absurd (some e)
    go (inr (inl e)) = differ (λ q. named (sym q ∙ e))
    go (inr (inr e)) = differ (λ q. other (sym e ∙ q))
