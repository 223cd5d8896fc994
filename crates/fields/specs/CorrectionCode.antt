-- What a correction's code is read as, and how it is written. Assumes nothing: these are definitions.
use Rattle.std.specs.Prelude.{Option, Some, None}
use Rattle.std.specs.Prelude.{ℕ, ◌/◌, Bool, false, cond, List, leb, eqb, length}
use Rattle.laws.specs.Digits.{digits}
use Rattle.text.specs.Spelt.{digits_of}
use Rattle.fields.specs.declared.correction_code.CorrectionCode.{CorrectionCode}

unfoldable pub correction_code_from : Option ℕ → Option CorrectionCode
correction_code_from (Some n) = Some (record { 0 = n })
correction_code_from None = None

-- four digits
unfoldable pub correction_code_of : List ℕ → Option CorrectionCode
correction_code_of f = cond (eqb (length f) 4) (correction_code_from (digits_of false f)) None

abbrev pub correction_code_fits : CorrectionCode → Bool
correction_code_fits c = leb c.0 9999

unfoldable pub correction_code_of_word : ℕ → Option CorrectionCode
correction_code_of_word w = cond (leb w 9999) (Some (record { 0 = w })) None

-- 25XX
abbrev pub is_objection : CorrectionCode → Bool
is_objection c = eqb (c.0 / 100) 25

abbrev pub correction_code_text : CorrectionCode → List ℕ
correction_code_text c = digits 4 c.0
