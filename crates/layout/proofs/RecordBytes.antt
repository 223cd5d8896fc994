-- The bytes of which records are made: nothing outside 4.4.1, no line end, and no colon in a part. Assumes nothing.
use Prim.Native.Nat.{ℕ}
use mathlib.Core.Path.{◌≡◌, refl, ◌∙◌}
use mathlib.Core.Bool.{Bool, true, false, ◌||◌}
use mathlib.Core.List.{List, [], ◌∷◌, ◌++◌}
use lib.Dec.{eqb}
use Rattle.laws.specs.Lists.{all}
use Rattle.laws.specs.Digits.{is_digit}
use Rattle.laws.specs.Split.{lacks, is_not}
use Rattle.laws.proofs.Tests.{and-true}
use Rattle.laws.proofs.Tables.{all_append, all_weaker}
use Rattle.laws.proofs.Split.{lacks-by, all-joined}
use Rattle.fields.specs.declared.correction_code.CorrectionCode.{CorrectionCode}
use Rattle.fields.specs.Bytes.{field_byte, record_byte}
use Rattle.fields.specs.Code.{code_text, maybe_code_text}
use Rattle.fields.specs.CorrectionCode.{correction_code_text}
use Rattle.fields.specs.Date.{maybe_date_text}
use Rattle.fields.specs.Kind.{maybe_kind_text}
use Rattle.fields.specs.Number.{digits_text, digits_size}
use Rattle.fields.proofs.ByteLaws.{bytes-digits, bytes-code, bytes-maybe-code, bytes-maybe-date, bytes-maybe-kind}
use Rattle.layout.specs.declared.part.Part.{Part}
use Rattle.layout.specs.declared.correction.Correction.{Correction}
use Rattle.layout.specs.declared.request.Request.{Request}
use Rattle.layout.specs.Part.{fields_of, part_text}
use Rattle.layout.specs.Correction.{correction_text}
use Rattle.layout.specs.Request.{request_text}

-- a field's byte, or a comma
unfoldable pub part_byte : ℕ → Bool
part_byte b = field_byte b || eqb b 44

module _ (p : Part) where
  weak : (b : ℕ) → field_byte b ≡ true → part_byte b ≡ true
  unfolding part_byte
  weak b e = rw e

  field-bytes : all (all part_byte) (fields_of p) ≡ true
  unfolding all
  field-bytes =
      let d : (f : List ℕ) → all field_byte f ≡ true → all part_byte f ≡ true = λ f h. all_weaker field_byte part_byte weak f h in
      rw (
        d (digits_text p.number.first) (bytes-digits (digits_size p.number.first) p.number.first.0),
        d (digits_text p.number.last) (bytes-digits (digits_size p.number.last) p.number.last.0),
        d (maybe_date_text p.date) (bytes-maybe-date p.date),
        d (maybe_code_text p.gaining) (bytes-maybe-code p.gaining),
        d (maybe_code_text p.losing) (bytes-maybe-code p.losing),
        d (maybe_kind_text p.kind) (bytes-maybe-kind p.kind),
      )

  pub part_bytes : all part_byte (part_text p) ≡ true
  unfolding part_text part_byte field_byte is_digit
  part_bytes = all-joined part_byte 44 refl (fields_of p) field-bytes

  -- no colon
  pub lacks-part : lacks 58 (part_text p) ≡ true
  unfolding part_byte field_byte is_digit
  lacks-part = lacks-by part_byte 58 refl (part_text p) part_bytes

  pub lacks-reported : lacks 58 (part_text p ++ (44 ∷ 75 ∷ [])) ≡ true
  unfolding all is_not
  lacks-reported = all_append (is_not 58) (part_text p) (44 ∷ 75 ∷ []) ∙ rw lacks-part

pub lacks-head : (c : CorrectionCode) → lacks 58 (correction_code_text c ++ (85 ∷ [])) ≡ true
unfolding all is_not field_byte is_digit
lacks-head c = all_append (is_not 58) (correction_code_text c) (85 ∷ []) ∙ rw (lacks-by field_byte 58 refl (correction_code_text c) (bytes-digits 4 c.0))

-- ---- each byte of a record is one of 4.4.1, and none is a line end
part-record : (b : ℕ) → part_byte b ≡ true → record_byte b ≡ true
unfolding part_byte record_byte
part-record b e = go (field_byte b) (eqb b 44) e
  where
    go : (s t : Bool) → (s || t) ≡ true → (s || (t || (eqb b 58 || (eqb b 85 || eqb b 75)))) ≡ true
    go true t h = refl
    go false true h = refl
    go false false h = cc

field-record : (b : ℕ) → field_byte b ≡ true → record_byte b ≡ true
unfolding record_byte
field-record b e = rw e

pub part-record-bytes : (p : Part) → all record_byte (part_text p) ≡ true
part-record-bytes p = all_weaker part_byte record_byte part-record (part_text p) (part_bytes p)

pub correction-bytes : (c : Correction) → all record_byte (correction_text c) ≡ true
unfolding correction_text all record_byte field_byte is_digit
correction-bytes c =
    all_append record_byte (correction_code_text c.code) _
    ∙ and-true _ _ (all_weaker field_byte record_byte field-record (correction_code_text c.code) (bytes-digits 4 c.code.0))
    (all_append record_byte (part_text c.u) _ ∙ and-true _ _ (part-record-bytes c.u) (part-record-bytes c.k))

pub request-bytes : (r : Request) → all record_byte (request_text r) ≡ true
unfolding request_text all
request-bytes r =
    let d : (f : List ℕ) → all field_byte f ≡ true → all record_byte f ≡ true = λ f h. all_weaker field_byte record_byte field-record f h in
    all-joined record_byte 44 comma (code_text r.code ∷ maybe_date_text r.from ∷ [] ∷ [])
    (rw (d (code_text r.code) (bytes-code r.code), d (maybe_date_text r.from) (bytes-maybe-date r.from)))
  where
    comma : record_byte 44 ≡ true
    comma = unfold record_byte field_byte is_digit in refl

-- a record has no CR (13), no LF (10)
pub no-line-end : (s : List ℕ) → all record_byte s ≡ true → (lacks 13 s ≡ true) × (lacks 10 s ≡ true)
unfolding record_byte field_byte is_digit
no-line-end s h = (lacks-by record_byte 13 refl s h, lacks-by record_byte 10 refl s h)
