-- A line is a correction exactly if no fault is found in it as one (`correction-exact`): a line that is read as one, and one without a fault, are
-- both spelt as corrections are (`read-line`, `faultless-line`), and for lines so spelt the two tests agree (`line-agree`). Assumes nothing.
use Rattle.std.specs.Prelude.{⊤}
use Rattle.std.specs.Prelude.{Ok, Err, is_ok}
use Rattle.std.specs.Prelude.{is_some}
use Rattle.layout.specs.declared.correction.Correction.{Correction}
use Rattle.std.specs.Prelude.{Option, Some, None}
use Prim.Native.Nat.{ℕ}
use native.Mathlib.Omega.{arith}
use mathlib.Core.Path.{◌≡◌, refl, sym, ap, ◌∙◌}
use mathlib.Core.Bool.{Bool, true, false, cond, not, ◌&&◌, ◌||◌, and-true, and-false}
use mathlib.Core.List.{List, [], ◌∷◌, ◌++◌}
use lib.Dec.{eqb, leb}
use lib.ListN.{length, take, drop, take-append-drop}
use borrow.Author.Tests.{eqb-true, leb-true}
use Rattle.laws.specs.Lists.{all, table, same_lists}
use Rattle.laws.specs.Split.{split, joined}
use Rattle.laws.proofs.Tests.{and_left, and_right, never, chosen, agree-where}
use Rattle.laws.proofs.Tables.{all-at, table-self}
use Rattle.laws.proofs.Same.{numbers-equal}
use Rattle.laws.proofs.Split.{joined-split, rest-piece}
use Rattle.laws.proofs.Digits.{length_digits}
use Rattle.fields.specs.declared.correction_code.CorrectionCode.{CorrectionCode}
use Rattle.fields.specs.Bytes.{field_byte}
use Rattle.fields.specs.Code.{maybe_code_text}
use Rattle.fields.specs.CorrectionCode.{correction_code_of, correction_code_text, is_objection}
use Rattle.fields.specs.Date.{maybe_date_text}
use Rattle.fields.specs.Kind.{maybe_kind_text}
use Rattle.fields.specs.Number.{digits_size, digits_text, is_empty}
use Rattle.fields.proofs.ByteLaws.{bytes-digits, bytes-maybe-code, bytes-maybe-date, bytes-maybe-kind}
use Rattle.layout.specs.declared.part.Part.{Part}
use Rattle.layout.specs.Part.{part_text}
use Rattle.layout.specs.Correction.{on_head, on_part, is_sound, sound_of, correction_of, correction_text}
use Rattle.layout.proofs.CorrectionTrip.{correction-back}
use Rattle.faults.specs.declared.cause.Cause.TheVariants.{Value}
use Rattle.faults.specs.Cut.{field_at, rest_at, code_width, code_in, mark_in, number_in}
use Rattle.faults.specs.Field.{is_character, correction_code_alone, objects, objects_by}
use Rattle.faults.specs.Record.{commas, whole_for, number_for, u_fault, k_fault, correction_from, correction_fault}
use Rattle.faults.proofs.CutLaws.{fields-counted}
use Rattle.faults.proofs.FieldExact.{needed, correction-code-right, correction-code-made, mark-right}
use Rattle.faults.proofs.SixExact.{field-then, record-then, commas-then, is_filled, filled_or, six-exact, six-bytes, first-empty, whole-exact}
use Rattle.faults.proofs.CorrectionLine.{Six, fields_in, part_in, line_of, head_field, comma_pieces, line-joined, Line, comma-pieces, line_read, line-fault}

-- ---- a line that is read
module _ (p : Part) where
  abbrev texts_of : Six
  texts_of =
      record { first = digits_text p.number.first; last = digits_text p.number.last; date = maybe_date_text p.date; gaining = maybe_code_text p.gaining; losing = maybe_code_text p.losing; status = maybe_kind_text p.kind }

  texts-bytes : all (all field_byte) (fields_in texts_of) ≡ true
  unfolding all
  texts-bytes =
      rw (
        bytes-digits (digits_size p.number.first) p.number.first.0,
        bytes-digits (digits_size p.number.last) p.number.last.0,
        bytes-maybe-date p.date,
        bytes-maybe-code p.gaining,
        bytes-maybe-code p.losing,
        bytes-maybe-kind p.kind,
      )

read-line : (s : List ℕ) → is_some (correction_of s) ≡ true → Line s
unfolding correction_text part_text
read-line s h = go (correction_of s) refl h
  where
    go : (r : Option Correction) → correction_of s ≡ r → is_some r ≡ true → Line s
    go (Some c) q e =
        record {
          code = correction_code_text c.code;
          u = texts_of c.u;
          k = texts_of c.k;
          spelt = (correction-back s c q).0;
          four = length_digits 4 c.code.0;
          code-bytes = bytes-digits 4 c.code.0;
          u-bytes = texts-bytes c.u;
          k-bytes = texts-bytes c.k;
        }
    go None q e = never e

-- ---- what no fault asks
correction-tests : (code mark first s : List ℕ) → is_ok (correction_from code mark first s)
    ≡ (is_ok (correction_code_alone code) && (same_lists eqb mark (85 ∷ 58 ∷ []) && (is_ok (u_fault code first s) && (same_lists eqb (take 2 (field_at s 6)) (75 ∷ 58 ∷ []) && (is_ok (k_fault code first s) && leb 11 (commas s))))))
unfolding correction_from is_character
correction-tests code mark first s =
    simp (field-then, record-then, commas-then, mark-right mark 85 refl, mark-right (take 2 (field_at s 6)) 75 refl)

code-needed : (f : List ℕ) → is_ok (correction_code_alone f) ≡ is_some (correction_code_of f)
unfolding correction_code_of
code-needed f = correction-code-right f ∙ needed (λ g. is_some (correction_code_of g)) refl f

-- ---- a line without a fault
-- a list as what stands before two bytes, these, and what stands behind them
two-between : (w : ℕ) (f two : List ℕ) → take 2 (drop w f) ≡ two → take w f ++ (two ++ drop 2 (drop w f)) ≡ f
two-between w f two e =
    ap (λ (t : List ℕ). take w f ++ (t ++ drop 2 (drop w f))) (sym e) ∙ ap (λ (t : List ℕ). take w f ++ t) (take-append-drop 2 (drop w f)) ∙ take-append-drop w f

faultless-line : (s : List ℕ) → is_ok (correction_fault s) ≡ true → Line s
unfolding correction_fault u_fault k_fault rest_at table
faultless-line s h =
    let h₁ = sym (correction-tests code mark first s) ∙ h in
    let h₂ = and_right (is_ok (correction_code_alone code)) _ h₁ in
    let h₃ = and_right (same_lists eqb mark (85 ∷ 58 ∷ [])) _ h₂ in
    let h₄ = and_right (is_ok (u_fault code first s)) _ h₃ in
    let h₅ = and_right (same_lists eqb (take 2 (field_at s 6)) (75 ∷ 58 ∷ [])) _ h₄ in
    let made = correction-code-made code (sym (code-needed code) ∙ and_left (is_ok (correction_code_alone code)) _ h₁) in
    let u-made = six-bytes 3 (whole_for code) (whole_for code) first (field_at s 1) (field_at s 2) (field_at s 3) (field_at s 4) (field_at s 5) (and_left (is_ok (u_fault code first s)) _ h₃) in
    let k_made = six-bytes 16 (number_for code first) (Ok tt) (drop 2 (field_at s 6)) (field_at s 7) (field_at s 8) (field_at s 9) (field_at s 10) (rest_at s 11) (and_left (is_ok (k_fault code first s)) _ h₅) in
    let most = fields-counted s 11 (all-at (all field_byte) _ 5 [] k_made (omega arith)) in
    let least = leb-true 11 (commas s) (and_right (is_ok (k_fault code first s)) _ h₅) in
    record {
      code = code;
      u = u;
      k = k;
      spelt = spelt (numbers-equal mark (85 ∷ 58 ∷ []) (and_left (same_lists eqb mark (85 ∷ 58 ∷ [])) _ h₂)) (numbers-equal (take 2 (field_at s 6)) (75 ∷ 58 ∷ []) (and_left (same_lists eqb (take 2 (field_at s 6)) (75 ∷ 58 ∷ [])) _ h₄)) (omega arith);
      four = eqb-true (length code) 4 made.0;
      code-bytes = made.1;
      u-bytes = u-made;
      k-bytes = k_made;
    }
  where
    code : List ℕ
    code = code_in (field_at s 0)

    mark : List ℕ
    mark = mark_in (field_at s 0)

    first : List ℕ
    first = number_in (field_at s 0)

    u : Six
    u = record { first = first; last = field_at s 1; date = field_at s 2; gaining = field_at s 3; losing = field_at s 4; status = field_at s 5 }

    k : Six
    k = record { first = drop 2 (field_at s 6); last = field_at s 7; date = field_at s 8; gaining = field_at s 9; losing = field_at s 10; status = rest_at s 11 }

    spelt : mark ≡ 85 ∷ 58 ∷ [] → take 2 (field_at s 6) ≡ 75 ∷ 58 ∷ [] → length (split 44 s) ≡ 12 → line_of code u k ≡ s
    spelt m₁ m₂ l =
        let p₀ : head_field code first ≡ field_at s 0 = two-between (code_width (field_at s 0)) (field_at s 0) (85 ∷ 58 ∷ []) m₁ in
        let p₆ : 75 ∷ 58 ∷ drop 2 (field_at s 6) ≡ field_at s 6 = two-between 0 (field_at s 6) (75 ∷ 58 ∷ []) m₂ in
        let p₁₁ : rest_at s 11 ≡ field_at s 11 = rest-piece 44 (split 44 s) 11 l in
        let pieces : comma_pieces code u k ≡ split 44 s =
        (λ i. p₀ i ∷ field_at s 1 ∷ field_at s 2 ∷ field_at s 3 ∷ field_at s 4 ∷ field_at s 5 ∷ p₆ i ∷ field_at s 7 ∷ field_at s 8 ∷ field_at s 9 ∷ field_at s 10 ∷ p₁₁ i ∷ [])
        ∙ table-self (split 44 s) [] 12 l in
        line-joined code u k ∙ ap (joined 44) pieces ∙ joined-split 44 s

-- ---- a line spelt as corrections are
abbrev numbered : Six → Bool
numbered x = not (eqb (length x.first) 0)

part-empty : (x : Six) (p : Part) → part_in x ≡ Some p → is_empty p.number.first ≡ eqb (length x.first) 0
part-empty x p e = first-empty x.first x.last x.date x.gaining x.losing x.status p e

whole-right : (code : List ℕ) → is_ok (whole_for code) ≡ not (objects code)
unfolding whole_for
whole-right code = go (objects code)
  where
    go : (t : Bool) → is_ok {T = ⊤} (cond t (Err Value) (Ok tt)) ≡ not t
    go true = refl
    go false = refl

number-right : (code first : List ℕ) → is_ok (number_for code first) ≡ (objects code || not (eqb (length first) 0))
unfolding number_for
number-right code first = chosen is_ok (Ok tt) (Err Value) refl refl (objects code || not (eqb (length first) 0))

-- the rule of the code
sound-exact : (c : CorrectionCode) (u k : Six) → is_some (on_part (part_in u) (λ p. on_part (part_in k) (λ q. sound_of c p q)))
    ≡ (((not (is_objection c) || numbered u) && filled_or (not (is_objection c)) (part_in u)) && (((is_objection c || numbered u) || numbered k) && filled_or true (part_in k)))
unfolding sound_of is_sound
sound-exact c u k = go (part_in u) (part_in k) refl refl
  where
    rule : (o a b f : Bool) → cond o (a && f) (a || b) ≡ (((not o || a) && (not o || f)) && (((o || a) || b) && true))
    rule true a b f = sym (and-true (a && f))
    rule false a b f = sym (and-true (a || b))

    go : (x y : Option Part) → part_in u ≡ x → part_in k ≡ y → is_some (on_part x (λ p. on_part y (λ q. sound_of c p q)))
        ≡ (((not (is_objection c) || numbered u) && filled_or (not (is_objection c)) x) && (((is_objection c || numbered u) || numbered k) && filled_or true y))
    go None y e₁ e₂ = simp and-false
    go (Some p) None e₁ e₂ = simp and-false
    go (Some p) (Some q) e₁ e₂ =
        chosen is_some (Some (record { code = c; u = p; k = q })) None refl refl (is_sound c p q)
        ∙ rw (whole-exact p, part-empty u p e₁, part-empty k q e₂) (rule (is_objection c) (numbered u) (numbered k) (is_filled p))

module _ {s : List ℕ} (l : Line s) where
  fault-tests : is_ok (correction_fault s)
      ≡ (is_some (correction_code_of l.code) && (((not (objects l.code) || numbered l.u) && filled_or (not (objects l.code)) (part_in l.u)) && (((objects l.code || numbered l.u) || numbered l.k) && filled_or true (part_in l.k))))
  unfolding u_fault k_fault rest_at same_lists
  fault-tests =
      ap is_ok (line-fault l)
      ∙ correction-tests l.code (85 ∷ 58 ∷ []) l.u.first s
      ∙ rw (
        comma-pieces l,
        code-needed l.code,
        six-exact 3 (whole_for l.code) (whole_for l.code) l.u.first l.u.last l.u.date l.u.gaining l.u.losing l.u.status,
        six-exact 16 (number_for l.code l.u.first) (Ok tt) l.k.first l.k.last l.k.date l.k.gaining l.k.losing l.k.status,
        whole-right l.code,
        number-right l.code l.u.first,
        and-true (((objects l.code || numbered l.u) || numbered l.k) && filled_or true (part_in l.k)),
      )

  line-agree : is_some (correction_of s) ≡ is_ok (correction_fault s)
  unfolding objects
  line-agree = ap is_some (line_read l) ∙ go (correction_code_of l.code) ∙ sym fault-tests
    where
      go : (r : Option CorrectionCode) → is_some (on_head r (λ c. on_part (part_in l.u) (λ p. on_part (part_in l.k) (λ q. sound_of c p q))))
          ≡ (is_some r && (((not (objects_by r) || numbered l.u) && filled_or (not (objects_by r)) (part_in l.u)) && (((objects_by r || numbered l.u) || numbered l.k) && filled_or true (part_in l.k))))
      go (Some c) = sound-exact c l.u l.k
      go None = refl

pub correction-exact : (s : List ℕ) → is_some (correction_of s) ≡ is_ok (correction_fault s)
correction-exact s = agree-where (is_some (correction_of s)) (is_ok (correction_fault s)) (read-line s) (faultless-line s) line-agree
