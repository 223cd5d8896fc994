-- What the two number fields are read as, which numbers they can hold, and how they are written. Assumes nothing: these are definitions.
use Rattle.std.specs.Prelude.{Option, Some, None}
use Rattle.std.specs.Prelude.{ℕ, Bool, true, cond, ◌&&◌, List, leb, eqb, length}
use Rattle.laws.specs.Digits.{digits, down, size_of}
use Rattle.text.specs.Spelt.{digits_of}
use Rattle.fields.specs.declared.number.Digits.{Digits}
use Rattle.fields.specs.declared.number.Number.{Number}
use Rattle.fields.specs.Block.{block}

-- ---- one field: at most 11 digits, behind a leading 1

unfoldable pub digits_from : Option ℕ → Option Digits
digits_from (Some n) = Some (record { 0 = n })
digits_from None = None

unfoldable pub digits_field_of : List ℕ → Option Digits
digits_field_of f = cond (leb (length f) 11) (digits_from (digits_of true f)) None

-- how many digits follow the leading 1
abbrev pub digits_size : Digits → ℕ
digits_size d = size_of 12 d.0

unfoldable pub digits_fits : Digits → Bool
digits_fits d = leb (digits_size d) 11 && eqb (down (digits_size d) d.0) 1

abbrev pub is_empty : Digits → Bool
is_empty d = eqb d.0 1

abbrev pub digits_text : Digits → List ℕ
digits_text d = digits (digits_size d) d.0

-- ---- both fields: the second is empty, or the last number of a block whose first number is the first field's

-- two fields that are a block
unfoldable pub block_fits : Digits → Digits → Bool
block_fits first last = digits_fits first && (digits_fits last && block (digits_text first) (digits_text last))

unfoldable pub number_from : Digits → Option Digits → Option Number
number_from first (Some last) = cond (block_fits first last) (Some (record { first = first; last = last })) None
number_from first None = None

-- the second field f beside the first
unfoldable pub number_of : Digits → List ℕ → Option Number
number_of first f = cond (eqb (length f) 0) (Some (record { first = first; last = record { 0 = 1 } })) (number_from first (digits_field_of f))

unfoldable pub number_fits : Number → Bool
number_fits n = cond (is_empty n.last) (digits_fits n.first) (block_fits n.first n.last)

-- two numbers are the same exactly if they agree field by field
unfoldable pub same_number : Number → Number → Bool
same_number a b = eqb a.first.0 b.first.0 && eqb a.last.0 b.last.0
