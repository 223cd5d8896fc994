-- One field by itself: right, or why it is wrong. The causes are tried in their order: the characters, the length, the value. Assumes nothing:
-- these are definitions.
use Rattle.std.specs.Prelude.{Result, Ok, Err, is_some, ⊤}
use Rattle.fields.specs.declared.number.Digits.{Digits}
use Rattle.fields.specs.declared.correction_code.CorrectionCode.{CorrectionCode}
use Rattle.std.specs.Prelude.{Option, Some, None}
use Rattle.std.specs.Prelude.{ℕ, Bool, true, false, cond, not, ◌&&◌, ◌||◌, List, [], ◌∷◌, eqb, leb, length}
use Rattle.laws.specs.Lists.{all, same_lists}
use Rattle.fields.specs.declared.kind.Kind.{Kind}
use Rattle.fields.specs.declared.kind.Kind.TheVariants.{P, L, Z}
use Rattle.fields.specs.Code.{code_of}
use Rattle.fields.specs.CorrectionCode.{correction_code_of, is_objection}
use Rattle.fields.specs.Date.{date_field_of}
use Rattle.fields.specs.Kind.{kind_of}
use Rattle.fields.specs.Number.{digits_field_of, number_of}
use Rattle.faults.specs.declared.cause.Cause.{Cause}
use Rattle.faults.specs.declared.cause.Cause.TheVariants.{Character, Length, Value}

-- ---- the characters of 4.4.1: tab (9), LF (10), CR (13), the blank to '~' (32 to 126), 'À' to 'ÿ' (192 to 255)
unfoldable pub is_character : ℕ → Bool
is_character b = eqb b 9 || (eqb b 10 || (eqb b 13 || ((leb 32 b && leb b 126) || (leb 192 b && leb b 255))))

-- ---- one field: its characters; `empty` where nothing stands in it; its length; its value, and the cause where that is wrong
unfoldable pub alone : Result ⊤ Cause → Bool → Bool → Cause → List ℕ → Result ⊤ Cause
alone empty long good cause f =
    cond (all is_character f) (cond (eqb (length f) 0) empty (cond long (cond good (Ok tt) (Err cause)) (Err Length))) (Err Character)

-- at most 11 digits
unfoldable pub digits_alone : Result ⊤ Cause → List ℕ → Result ⊤ Cause
digits_alone empty f = alone empty (leb (length f) 11) (is_some (digits_field_of f)) Value f

-- ddmmyyyy, a date of the calendar
unfoldable pub date_alone : Result ⊤ Cause → List ℕ → Result ⊤ Cause
date_alone empty f = alone empty (eqb (length f) 8) (is_some (date_field_of f)) Cause.Date f

-- D and three digits
unfoldable pub code_alone : Result ⊤ Cause → List ℕ → Result ⊤ Cause
code_alone empty f = alone empty (eqb (length f) 4) (is_some (code_of f)) Cause.Code f

-- P, L or Z
unfoldable pub kind_alone : Result ⊤ Cause → List ℕ → Result ⊤ Cause
kind_alone empty f = alone empty (eqb (length f) 1) (is_some (kind_of f)) Value f

-- four digits
unfoldable pub correction_code_alone : List ℕ → Result ⊤ Cause
correction_code_alone f = alone (Err Length) (eqb (length f) 4) (is_some (correction_code_of f)) Value f

-- a letter and a colon (58): "U:", "K:"
unfoldable pub mark_alone : ℕ → List ℕ → Result ⊤ Cause
mark_alone letter f = alone (Err Length) (eqb (length f) 2) (same_lists eqb f (letter ∷ 58 ∷ [])) Value f

-- nothing may stand there
unfoldable pub nothing_alone : List ℕ → Result ⊤ Cause
nothing_alone f = alone (Ok tt) false false Length f

-- ---- rules over two fields: the fault of the later one, and a value, where each by itself is right
abbrev pub allowed : Result ⊤ Cause → Bool → Result ⊤ Cause
allowed (Ok tt) rule = cond rule (Ok tt) (Err Value)
allowed (Err cause) rule = Err cause

-- the second number field is empty, or the last number of a block that the first begins (rules 5 and 8 of 4.4.2)
abbrev pub range_from : Option Digits → List ℕ → Bool
range_from (Some first) f = is_some (number_of first f)
range_from None f = false

unfoldable pub is_range : List ℕ → List ℕ → Bool
is_range a b = range_from (digits_field_of a) b

-- only a Z may leave the gaining network out
abbrev pub is_return : Kind → Bool
is_return P = false
is_return L = false
is_return Z = true

abbrev pub return_read : Option Kind → Bool
return_read (Some k) = is_return k
return_read None = false

unfoldable pub is_named : List ℕ → List ℕ → Bool
is_named gaining status = not (eqb (length gaining) 0) || return_read (kind_of status)

-- the code of an objection, 25XX
abbrev pub objects_by : Option CorrectionCode → Bool
objects_by (Some c) = is_objection c
objects_by None = false

unfoldable pub objects : List ℕ → Bool
objects code = objects_by (correction_code_of code)
