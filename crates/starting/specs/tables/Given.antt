-- The number table as it is given: lines `num1,num2,OWNER,ddmmyyyy`, each ended by a line feed, and nothing else. Assumes nothing: these are definitions.
use Rattle.std.specs.Prelude.{Option, Some, None}
use Rattle.std.specs.Prelude.{◌≡◌, true, cond, ◌&&◌, ℕ, ◌≤◌, eqb, leb, length}
use mathlib.Core.List.{List, [], ◌∷◌, map, flat_map}
use Rattle.laws.specs.Lists.{all, none_twice}
use Rattle.laws.specs.Overlay.{overlay}
use Rattle.laws.specs.Split.{split, piece_of}
use Rattle.calendar.specs.declared.dates.CalendarDays.{CalendarDays}
use Rattle.fields.specs.Code.{code_of}
use Rattle.fields.specs.Date.{date_field_of}
use Rattle.fields.specs.Number.{digits_field_of, is_empty, number_of, same_number}
use Rattle.fields.specs.declared.code.Code.{Code}
use Rattle.fields.specs.declared.number.Digits.{Digits}
use Rattle.fields.specs.declared.number.Number.{Number}
use Rattle.store.specs.numbers.Lines.{line_slot, good_line}
use Rattle.store.specs.declared.numbers.lines.Line.{Line}

-- ---- what is found goes on to what makes the line of it; a fault is the line's
abbrev pub on_digits : Option Digits → (Digits → Option Line) → Option Line
on_digits (Some d) k = k d
on_digits None k = None

abbrev pub on_number : Option Number → (Number → Option Line) → Option Line
on_number (Some n) k = k n
on_number None k = None

abbrev pub on_code : Option Code → (Code → Option Line) → Option Line
on_code (Some c) k = k c
on_code None k = None

abbrev pub on_date : Option CalendarDays → (CalendarDays → Option Line) → Option Line
on_date (Some d) k = k d
on_date None k = None

-- a number whose first field is not empty, a network code, a day of the calendar
unfoldable pub four_of : List ℕ → List ℕ → List ℕ → List ℕ → Option Line
four_of a b c d =
    on_digits (digits_field_of a)
    λ first. cond (is_empty first) None
    (on_number (number_of first b)
    λ number. on_code (code_of c)
    λ owner. on_date (date_field_of d)
    λ setup. Some (record { number = number; owner = owner; setup = setup }))

-- four fields with commas (44) between them
unfoldable pub line_given : List ℕ → Option Line
line_given l = cond (eqb (length (split 44 l)) 4) (four_of (piece_of 44 l 0) (piece_of 44 l 1) (piece_of 44 l 2) (piece_of 44 l 3)) None

-- ---- the lines
-- behind the last line feed nothing stands
abbrev pub end_given : List ℕ → Option (List Line)
end_given [] = Some []
end_given (b ∷ bs) = None

abbrev pub with_line : Option Line → Option (List Line) → Option (List Line)
with_line (Some l) (Some ls) = Some (l ∷ ls)
with_line (Some l) None = None
with_line None o = None

-- the pieces between line feeds: a line each, but for the last
unfoldable pub lines_given : List (List ℕ) → Option (List Line)
lines_given [] = None
lines_given (l ∷ []) = end_given l
lines_given (l ∷ m ∷ more) = with_line (line_given l) (lines_given (m ∷ more))

-- at most 1,024 numbers, none twice
abbrev pub number_of_line : Line → Number
number_of_line l = l.number

unfoldable pub checked : Option (List Line) → Option (List Line)
checked (Some ls) = cond (leb (length ls) 1024 && none_twice same_number (map number_of_line ls)) (Some ls) None
checked None = None

-- the table that a text gives, if it gives one. A line feed is 10
unfoldable pub table_of : List ℕ → Option (List Line)
table_of text = checked (lines_given (split 10 text))

-- ---- lines laid out behind the place of a count
pub record Spread (ls : List Line) (before : List ℕ) (n : ℕ) (after : List ℕ) : Type 0 where
  pub size : n ≡ length ls
  pub few : n ≤ 1024
  pub good : all good_line ls ≡ true
  pub bytes : after ≡ overlay before 2 (flat_map line_slot ls)

abbrev pub LaidOut : List ℕ → List ℕ → Option ℕ → List ℕ → Type 0
LaidOut text before (Some n) after = (ls : List Line) × (lines_given (split 10 text) ≡ Some ls) × Spread ls before n after
LaidOut text before None after = table_of text ≡ None

abbrev pub Judged : List ℕ → List ℕ → Option ℕ → List ℕ → Type 0
Judged text before (Some n) after = (ls : List Line) × (table_of text ≡ Some ls) × Spread ls before n after
Judged text before None after = table_of text ≡ None
