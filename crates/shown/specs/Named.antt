-- How a word of the command line names a number: num1, or num1-num2. Assumes nothing: these are definitions.
use Rattle.fields.specs.declared.number.Number.{Number}
use Rattle.fields.specs.declared.number.Digits.{Digits}
use Rattle.std.specs.Prelude.{Option, Some, None}
use Rattle.std.specs.Prelude.{ℕ, ◌+◌, cond, List, [], leb, length, take, drop}
use Rattle.laws.specs.Split.{end_of}
use Rattle.fields.specs.Number.{digits_field_of, is_empty, number_of}

-- the two fields as a number; a first field of no digits is none
abbrev pub beside_first : Option Digits → List ℕ → Option Number
beside_first (Some d) last = cond (is_empty d) None (number_of d last)
beside_first None last = None

-- the two fields of a word whose first dash stands at `dash`; where there is none, the word is the first; nothing behind a dash is no number
unfoldable pub named_at : List ℕ → ℕ → Option Number
named_at word dash =
    cond (leb (length word) dash) (beside_first (digits_field_of word) [])
    (cond (leb (length word) (dash + 1)) None (beside_first (digits_field_of (take dash word)) (drop (dash + 1) word)))

-- the number that a word names; '-' is 45
abbrev pub number_named : List ℕ → Option Number
number_named word = named_at word (end_of 45 word 0)
