-- The figure: how many stored entries differ from those worked out from the journals. Assumes nothing: these are definitions.
use Rattle.std.specs.Prelude.{Option, Some, None, Result, Ok, Err}
use Rattle.std.specs.Prelude.{Bool, not, ℕ, length}
use mathlib.Core.List.{List, [], ◌∷◌, zip_with}
use Rattle.laws.specs.Lists.{table, keep}
use Rattle.laws.specs.Told.{Told, told}
use Rattle.fields.specs.declared.number.Number.{Number}
use Rattle.entries.specs.declared.entry.Entry.{Entry}
use Rattle.entries.specs.comparing.Same.{same_entry}
use Rattle.model.specs.Rules.{TableLine}
use Rattle.model.specs.Model.{Filed, entry_over}
use Rattle.rules.specs.Rules.{rules}
use Rattle.store.specs.numbers.Lines.{line_at}
use Rattle.store.specs.entry_slots.Entries.{entry_at}
use Rattle.store.specs.Reads.{Held, table_line}
use Rattle.asking.specs.declared.answer.Unreadable.{Unreadable}

-- an entry differs from the one that the line's records lead to
unfoldable pub differs : List Filed → TableLine Number → Entry → Bool
differs files line entry = not (same_entry entry (entry_over rules files line))

-- how many tests hold
abbrev pub how_many : List Bool → ℕ
how_many l = length (keep (λ (b : Bool). b) l)

-- how many entries differ
unfoldable pub figure_of : List (TableLine Number) → List Filed → List Entry → ℕ
figure_of lines files entries = how_many (zip_with (differs files) lines entries)

-- what its answer tells: 0 with the figure, or 44
abbrev pub figure_told : Result ℕ Unreadable → Told
figure_told (Ok n) = told 0 (n ∷ [])
figure_told (Err e) = told 44 []

abbrev pub figure_asked : Option Held → Result ℕ Unreadable
figure_asked None = Err (record {})
figure_asked (Some h) = Ok (figure_of h.lines h.files h.entries)

-- ---- as it is counted: how many of the first m entries differ
unfoldable pub differing : List Filed → List ℕ → List ℕ → ℕ → ℕ
differing files t e m = how_many (table m (λ (i : ℕ). differs files (table_line (line_at t i)) (entry_at e i)))
