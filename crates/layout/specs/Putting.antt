-- Fields with the comma (44) behind each, and what stands around the parts of a correction. Assumes nothing: these are definitions.
use Rattle.fields.specs.declared.code.Code.{Code}
use Rattle.std.specs.Prelude.{Option}
use Rattle.std.specs.Prelude.{ℕ, List, [], ◌∷◌, ◌++◌}
use Rattle.fields.specs.declared.correction_code.CorrectionCode.{CorrectionCode}
use Rattle.fields.specs.declared.number.Number.{Number}
use Rattle.fields.specs.Code.{maybe_code_text}
use Rattle.fields.specs.CorrectionCode.{correction_code_text}
use Rattle.fields.specs.Number.{digits_text}

abbrev pub followed : List ℕ → List ℕ
followed field = field ++ (44 ∷ [])

abbrev pub number_followed : Number → List ℕ
number_followed n = followed (digits_text n.first) ++ followed (digits_text n.last)

abbrev pub networks_followed : Option Code → Option Code → List ℕ
networks_followed gaining losing = followed (maybe_code_text gaining) ++ followed (maybe_code_text losing)

-- the code and "U:"; ",K:"
abbrev pub head_text : CorrectionCode → List ℕ
head_text code = correction_code_text code ++ (85 ∷ 58 ∷ [])

abbrev pub between_parts : List ℕ
between_parts = 44 ∷ 75 ∷ 58 ∷ []
