-- All lines of the table worked out afresh: what the entries are then, and which of them were others before. Assumes nothing: these are definitions.
use Rattle.std.specs.Prelude.{Option, Some, None, Result, Ok, Err}
use Rattle.std.specs.Prelude.{◌≡◌, Bool, false, cond, ℕ, ◌+◌, ◌*◌, ◌<◌, leb, length, get_or, take}
use mathlib.Core.List.{List, [], ◌∷◌, flat_map, zip_with}
use Rattle.laws.specs.Lists.{table, keep}
use Rattle.laws.specs.Overlay.{overlay}
use Rattle.laws.specs.Told.{Told}
use Rattle.fields.specs.declared.number.Number.{Number}
use Rattle.entries.specs.declared.entry.Entry.{Entry}
use Rattle.model.specs.Rules.{TableLine}
use Rattle.model.specs.Model.{Filed, entry_over}
use Rattle.rules.specs.Rules.{rules}
use Rattle.store.specs.numbers.Lines.{line_at}
use Rattle.store.specs.entry_slots.Entries.{entry_slot, entry_at}
use Rattle.store.specs.Reads.{Buffers, Held, table_line, reads}
use Rattle.asking.specs.answering.Figure.{differs, figure_told}
use Rattle.asking.specs.declared.answer.Unreadable.{Unreadable}

-- the slot of a line: the entry worked out afresh over these files
unfoldable pub worked_slot : List Filed → TableLine Number → List ℕ
worked_slot files line = entry_slot (entry_over rules files line)

-- the slots of all lines, one behind the other; every byte behind them stays
unfoldable pub reworked_entries : List Filed → List (TableLine Number) → List ℕ → List ℕ
reworked_entries files lines entries = overlay entries 0 (flat_map (worked_slot files) lines)

-- the places at which a test holds
unfoldable pub places : List Bool → List ℕ
places tests = keep (λ (i : ℕ). get_or tests i false) (table (length tests) (λ (i : ℕ). i))

-- the places of the lines whose entry is not the one worked out over these files, in the order of the table
unfoldable pub changed_lines : List Filed → List (TableLine Number) → List Entry → List ℕ
changed_lines files lines entries = places (zip_with (differs files) lines entries)

-- as many files as a store takes: over the first so many of them is over all (`all-files`)
abbrev pub all_files : ℕ
all_files = 1024

-- ---- what reworking over the first n files answers, and what it leaves: over a store, or over none

-- what an answer tells: 0 with the count of the entries that were others, or 44
abbrev pub reworked_told : Result ℕ Unreadable → Told
reworked_told r = figure_told r

abbrev pub rework_number : Result ℕ Unreadable → ℕ
rework_number r = (reworked_told r).number

abbrev pub rework_answer : ℕ → Option Held → Result ℕ Unreadable
rework_answer n None = Err (record {})
rework_answer n (Some h) = Ok (length (changed_lines (take n h.files) h.lines h.entries))

abbrev pub entries_after : ℕ → Option Held → List ℕ → List ℕ
entries_after n None entries = entries
entries_after n (Some h) entries = reworked_entries (take n h.files) h.lines entries

-- the list begins with the places; every number behind them stays
abbrev pub list_after : ℕ → Option Held → List ℕ → List ℕ
list_after n None list = list
list_after n (Some h) list = overlay list 0 (changed_lines (take n h.files) h.lines h.entries)

-- the store, where the list has room for every line that a table can have
unfoldable pub with_room : List ℕ → Buffers → Option Held
with_room list b = cond (leb 1024 (length list)) (reads b) None

pub record Reworks (b : Buffers) (n : ℕ) (list : List ℕ) (answer : Result ℕ Unreadable) (entries listed : List ℕ) : Type 0 where
  pub answers : answer ≡ rework_answer n (with_room list b)
  pub leaves : entries ≡ entries_after n (with_room list b) b.entries
  pub lists : listed ≡ list_after n (with_room list b) list

-- ---- line by line

-- the line k, and whether its entry changes
abbrev pub line_of : List ℕ → ℕ → TableLine Number
line_of t k = table_line (line_at t k)

abbrev pub changes : List Filed → List ℕ → List ℕ → ℕ → Bool
changes files t entries k = differs files (line_of t k) (entry_at entries k)

-- of the first m lines, the places of those whose entry changes
unfoldable pub changes_to : List Filed → List ℕ → List ℕ → ℕ → List ℕ
changes_to files t entries m = keep (changes files t entries) (table m (λ (i : ℕ). i))

-- the entries of the first m lines fit their slots: a store that reads as one gives this
abbrev pub Fitting : List Filed → List ℕ → ℕ → Type 0
Fitting files t m = (k : ℕ) → k < m → length (worked_slot files (line_of t k)) ≡ 100

pub record LineReworked (files : List Filed) (t : List ℕ) (k : ℕ) (before after : List ℕ) (changed : Bool) : Type 0 where
  pub written : after ≡ overlay before (k * 100) (worked_slot files (line_of t k))
  pub told : changed ≡ changes files t before k

pub record Noted (before : List ℕ) (count i : ℕ) (changed : Bool) (after : List ℕ) (r : ℕ) : Type 0 where
  pub laid : after ≡ overlay before count (cond changed (i ∷ []) [])
  pub counted : r ≡ count + cond changed 1 0

pub record LinesReworked (files : List Filed) (t : List ℕ) (m : ℕ) (before after list listed : List ℕ) (r : ℕ) : Type 0 where
  pub written : after ≡ overlay before 0 (flat_map (worked_slot files) (table m (line_of t)))
  pub laid : listed ≡ overlay list 0 (changes_to files t before m)
  pub counted : r ≡ length (changes_to files t before m)
