-- The number table, as the buffer `table` holds it. Assumes nothing: these are definitions.
use Rattle.std.specs.Prelude.{Bool, not, ◌&&◌, List, [], ◌++◌, ℕ}
use Rattle.laws.specs.Lists.{table}
use Rattle.laws.specs.Slots.{slot_at}
use Rattle.laws.specs.Words.{low_first, word_at}
use Rattle.calendar.specs.Dates.{in_calendar}
use Rattle.fields.specs.Code.{code_fits}
use Rattle.fields.specs.Number.{is_empty, number_fits}
use Rattle.fields.specs.declared.number.Number.{Number}
use Rattle.store.specs.declared.numbers.lines.Line.{Line}

-- a line as its slot: the two number fields in five bytes each, the owner in two, the set-up day in two
unfoldable pub line_slot : Line → List ℕ
line_slot l =
    low_first 5 l.number.first.0 ++ (low_first 5 l.number.last.0 ++ (low_first 2 l.owner.0 ++ (low_first 2 l.setup.0 ++ [])))

-- and a slot as a line
unfoldable pub line_of : List ℕ → Line
line_of s = record {
  number = record { first = record { 0 = word_at 5 s 0 }; last = record { 0 = word_at 5 s 5 } };
  owner = record { 0 = word_at 2 s 10 };
  setup = record { 0 = word_at 2 s 12 };
}

-- the line in the slot k, behind the count
unfoldable pub line_at : List ℕ → ℕ → Line
line_at lines k = line_of (slot_at 2 14 lines k)

unfoldable pub line_count : List ℕ → ℕ
line_count lines = word_at 2 lines 0

-- the lines
unfoldable pub lines_of : List ℕ → List Line
lines_of lines = table (line_count lines) (line_at lines)

unfoldable pub number_at : List ℕ → ℕ → Number
number_at lines k = (line_at lines k).number

-- a well formed line: a number that its fields hold, a network code, a day of the calendar
unfoldable pub good_line : Line → Bool
good_line l = number_fits l.number && (not (is_empty l.number.first) && (code_fits l.owner && in_calendar l.setup.0))
