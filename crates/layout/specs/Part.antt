-- What six fields with commas between them are read as, which parts they can hold, and how they are written.
-- Assumes nothing: these are definitions.
use Rattle.fields.specs.declared.kind.Kind.{Kind}
use Rattle.calendar.specs.declared.dates.CalendarDays.{CalendarDays}
use Rattle.fields.specs.declared.code.Code.{Code}
use Rattle.std.specs.Prelude.{Option, Some, None}
use Rattle.std.specs.Prelude.{ℕ, Bool, cond, ◌&&◌, List, [], ◌∷◌, eqb, length, get_or}
use Rattle.laws.specs.Split.{split, piece_of, joined}
use Rattle.fields.specs.declared.number.Digits.{Digits}
use Rattle.fields.specs.declared.number.Number.{Number}
use Rattle.fields.specs.Code.{maybe_code_of, maybe_code_of_word, maybe_code_fits, maybe_code_text}
use Rattle.fields.specs.Date.{maybe_date_of, maybe_date_of_word, maybe_date_fits, maybe_date_text}
use Rattle.fields.specs.Kind.{maybe_kind_of, maybe_kind_of_word, maybe_kind_text}
use Rattle.fields.specs.Number.{digits_field_of, digits_text, number_of, number_fits}
use Rattle.layout.specs.declared.part.Part.{Part}

-- ---- a field's value goes on to what makes the record of it; in place of a fault stands `fault`
abbrev pub on : {X A : Type 0} → Option X → A → (X → A) → A
on (Some x) fault k = k x
on None fault k = fault

module _ {A : Type 0} where
  abbrev pub on_digits : Option Digits → A → (Digits → A) → A
  on_digits = on

  abbrev pub on_number : Option Number → A → (Number → A) → A
  on_number = on

  abbrev pub on_date : Option (Option CalendarDays) → A → (Option CalendarDays → A) → A
  on_date = on

  abbrev pub on_code : Option (Option Code) → A → (Option Code → A) → A
  on_code = on

  abbrev pub on_kind : Option (Option Kind) → A → (Option Kind → A) → A
  on_kind = on

-- the part of six fields
unfoldable pub six_of : List ℕ → List ℕ → List ℕ → List ℕ → List ℕ → List ℕ → Option Part
six_of a b c d e f =
    on_digits (digits_field_of a) None
    λ first. on_number (number_of first b) None
    λ number. on_date (maybe_date_of c) None
    λ date. on_code (maybe_code_of d) None
    λ gaining. on_code (maybe_code_of e) None
    λ losing. on_kind (maybe_kind_of f) None
    λ kind. Some (record { number = number; date = date; gaining = gaining; losing = losing; kind = kind })

-- six fields between commas (44), no more and no fewer
unfoldable pub part_of : List ℕ → Option Part
part_of s = cond (eqb (length (split 44 s)) 6) (six_of (piece_of 44 s 0) (piece_of 44 s 1) (piece_of 44 s 2) (piece_of 44 s 3) (piece_of 44 s 4) (piece_of 44 s 5)) None

-- each field holds its value
unfoldable pub part_fits : Part → Bool
part_fits p = number_fits p.number && (maybe_date_fits p.date && (maybe_code_fits p.gaining && maybe_code_fits p.losing))

-- the six fields
abbrev pub fields_of : Part → List (List ℕ)
fields_of p =
    digits_text p.number.first ∷ digits_text p.number.last ∷ maybe_date_text p.date ∷ maybe_code_text p.gaining ∷ maybe_code_text p.losing ∷ maybe_kind_text p.kind ∷ []

-- with commas between them
unfoldable pub part_text : Part → List ℕ
part_text p = joined 44 (fields_of p)

-- ---- from six plain words
unfoldable pub rest_of_words : Number → ℕ → ℕ → ℕ → ℕ → Option Part
rest_of_words number c d e f =
    on_date (maybe_date_of_word c) None
    λ date. on_code (maybe_code_of_word d) None
    λ gaining. on_code (maybe_code_of_word e) None
    λ losing. on_kind (maybe_kind_of_word f) None
    λ kind. Some (record { number = number; date = date; gaining = gaining; losing = losing; kind = kind })

abbrev pub number_of_words : List ℕ → Number
number_of_words w = record { first = record { 0 = get_or w 0 0 }; last = record { 0 = get_or w 1 0 } }

unfoldable pub part_of_words : List ℕ → Option Part
part_of_words w =
    cond (eqb (length w) 6 && number_fits (number_of_words w)) (rest_of_words (number_of_words w) (get_or w 2 0) (get_or w 3 0) (get_or w 4 0) (get_or w 5 0)) None
