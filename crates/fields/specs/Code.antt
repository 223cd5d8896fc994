-- What a network code's field is read as, which codes it can hold, and how they are written. Assumes nothing: these are definitions.
use Rattle.std.specs.Prelude.{Option, Some, None}
use Rattle.std.specs.Prelude.{ℕ, Bool, false, cond, ◌&&◌, List, ◌∷◌, leb, eqb, length, get_or, drop}
use Rattle.laws.specs.Digits.{digits}
use Rattle.text.specs.Spelt.{digits_of}
use Rattle.fields.specs.Field.{maybe_of, maybe_fits, maybe_of_word, maybe_text}
use Rattle.fields.specs.declared.code.Code.{Code}

unfoldable pub code_from : Option ℕ → Option Code
code_from (Some n) = Some (record { 0 = n })
code_from None = None

-- 'D' (68) and three digits
unfoldable pub code_of : List ℕ → Option Code
code_of f = cond (eqb (length f) 4 && eqb (get_or f 0 0) 68) (code_from (digits_of false (drop 1 f))) None

abbrev pub code_fits : Code → Bool
code_fits c = leb c.0 999

unfoldable pub code_of_word : ℕ → Option Code
code_of_word w = cond (leb w 999) (Some (record { 0 = w })) None

abbrev pub code_text : Code → List ℕ
code_text c = 68 ∷ digits 3 c.0

-- ---- a field that may be empty
abbrev pub maybe_code_of : List ℕ → Option (Option Code)
maybe_code_of = maybe_of code_of

abbrev pub maybe_code_fits : Option Code → Bool
maybe_code_fits = maybe_fits code_fits

-- the word 1000 stands for an empty field
abbrev pub maybe_code_of_word : ℕ → Option (Option Code)
maybe_code_of_word = maybe_of_word 1000 code_of_word

abbrev pub maybe_code_text : Option Code → List ℕ
maybe_code_text = maybe_text code_text
