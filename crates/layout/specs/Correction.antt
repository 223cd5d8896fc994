-- What a correction is read as, which corrections it can hold, and how they are written. Assumes nothing: these are definitions.
use Rattle.std.specs.Prelude.{is_some}
use Rattle.std.specs.Prelude.{Option, Some, None}
use Rattle.std.specs.Prelude.{ℕ, ◌-◌, ◌+◌, Bool, cond, not, ◌&&◌, ◌||◌, List, ◌∷◌, ◌++◌, eqb, leb, length, get_or, take}
use Rattle.laws.specs.Split.{split, piece_of, between}
use Rattle.fields.specs.declared.correction_code.CorrectionCode.{CorrectionCode}
use Rattle.fields.specs.declared.number.Number.{Number}
use Rattle.fields.specs.CorrectionCode.{correction_code_of, correction_code_of_word, correction_code_fits, is_objection, correction_code_text}
use Rattle.fields.specs.Number.{is_empty}
use Rattle.layout.specs.declared.part.Part.{Part}
use Rattle.layout.specs.declared.correction.Correction.{Correction}
use Rattle.layout.specs.Part.{on, part_of, part_of_words, part_fits, part_text}
use Rattle.layout.specs.Report.{whole_of}

-- ---- what is found goes on to what makes the correction of it; a fault is the correction's

abbrev pub on_head : Option CorrectionCode → (CorrectionCode → Option Correction) → Option Correction
on_head c k = on c None k

abbrev pub on_part : Option Part → (Part → Option Correction) → Option Correction
on_part p k = on p None k

-- before the first colon: the code, and 'U' (85)
unfoldable pub head_of : List ℕ → Option CorrectionCode
head_of f = cond (eqb (length f) 5 && eqb (get_or f 4 0) 85) (correction_code_of (take 4 f)) None

-- between the colons: a part, a comma (44), and 'K' (75)
unfoldable pub reported_of : List ℕ → Option Part
reported_of f =
    cond (leb 2 (length f) && (eqb (get_or f (length f - 2) 0) 44 && eqb (get_or f (length f - 2 + 1) 0) 75)) (part_of (take (length f - 2) f)) None

-- with code 25XX the U part is a whole report; with any other at least one part has a number
unfoldable pub is_sound : CorrectionCode → Part → Part → Bool
is_sound code u k = cond (is_objection code) (is_some (whole_of u)) (not (is_empty u.number.first) || not (is_empty k.number.first))

unfoldable pub sound_of : CorrectionCode → Part → Part → Option Correction
sound_of code u k = cond (is_sound code u k) (Some (record { code = code; u = u; k = k })) None

unfoldable pub three_of : List ℕ → List ℕ → List ℕ → Option Correction
three_of a b c =
    on_head (head_of a)
    λ code. on_part (reported_of b)
    λ u. on_part (part_of c)
    λ k. sound_of code u k

-- two colons (58)
unfoldable pub correction_of : List ℕ → Option Correction
correction_of s = cond (eqb (length (split 58 s)) 3) (three_of (piece_of 58 s 0) (piece_of 58 s 1) (piece_of 58 s 2)) None

-- each field holds its value, and the code's rule is kept
unfoldable pub correction_fits : Correction → Bool
correction_fits c = correction_code_fits c.code && (part_fits c.u && (part_fits c.k && is_sound c.code c.u c.k))

-- the code, "U:", the U part, ",K:", the K part
unfoldable pub correction_text : Correction → List ℕ
correction_text c = correction_code_text c.code ++ (85 ∷ 58 ∷ (part_text c.u ++ (44 ∷ 75 ∷ 58 ∷ part_text c.k)))

-- the number that it names: that of the U part, or of the K part where U has none
unfoldable pub named_number : Correction → Number
named_number c = cond (is_empty c.u.number.first) c.k.number c.u.number

-- from 13 plain words: the code, and six for each part
unfoldable pub correction_of_words : List ℕ → Option Correction
correction_of_words w =
    cond (eqb (length w) 13)
    (on_head (correction_code_of_word (get_or w 0 0))
    λ code. on_part (part_of_words (between w 1 7))
    λ u. on_part (part_of_words (between w 7 13))
    λ k. sound_of code u k)
    None
