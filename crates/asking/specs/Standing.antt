-- A number's entry, as the store holds it and as it stood before a file arrived. Assumes nothing: these are definitions.
use Rattle.std.specs.Option.{option_map}
use Rattle.std.specs.Prelude.{Option, Some, None, Result, Ok, Err}
use Rattle.std.specs.Prelude.{Bool, ◌&&◌, List, map, ℕ, leb, length, take}
use Rattle.fields.specs.declared.number.Number.{Number}
use Rattle.entries.specs.declared.entry.Entry.{Entry}
use Rattle.model.specs.Rules.{TableLine}
use Rattle.model.specs.Model.{Filed, entry_over, line_of, entry_of}
use Rattle.rules.specs.Rules.{rules}
use Rattle.store.specs.numbers.Lines.{line_count, lines_of}
use Rattle.store.specs.Reads.{table_line}
use Rattle.asking.specs.declared.answer.NotShown.{NotShown}

-- the lines of the number table
abbrev pub lines_in : List ℕ → List (TableLine Number)
lines_in t = map table_line (lines_of t)

-- ---- the entry of a number
abbrev pub held_as : Option Entry → Result Entry NotShown
held_as None = Err NotShown.UnknownNumber
held_as (Some e) = Ok e

-- as the store holds it
unfoldable pub entry_in : List (TableLine Number) → List Entry → Number → Result Entry NotShown
entry_in lines entries number = held_as (entry_of rules lines entries number)

-- as it stood before the file at n arrived
unfoldable pub entry_before : List (TableLine Number) → List Filed → ℕ → Number → Result Entry NotShown
entry_before lines files n number = held_as (option_map (entry_over rules (take n files)) (line_of rules lines number))

-- what has to hold of any bytes before a stored entry is shown from them: room, and at most 1,024 lines
unfoldable pub has_entries : List ℕ → List ℕ → Bool
has_entries t e = leb 14338 (length t) && (leb 102400 (length e) && leb (line_count t) 1024)
