-- What starting answers, and what it leaves in the buffers. Assumes nothing: these are definitions.
use Rattle.std.specs.Prelude.{Option, Some, None, Result, Ok, Err}
use Rattle.std.specs.Prelude.{◌≡◌, cond, ℕ, ◌*◌, length}
use mathlib.Core.List.{List, [], ◌∷◌, ◌++◌, map, flat_map}
use Rattle.laws.specs.Lists.{table}
use Rattle.laws.specs.Overlay.{overlay, part}
use Rattle.laws.specs.Told.{Told, told}
use Rattle.laws.specs.Words.{low_first}
use Rattle.store.specs.entry_slots.Entries.{entry_slot}
use Rattle.store.specs.numbers.Lines.{line_slot, line_at}
use Rattle.store.specs.declared.numbers.lines.Line.{Line}
use Rattle.store.specs.Reads.{Buffers, Held, table_line, long_enough}
use Rattle.entries.specs.Entry.{first_entry}
use Rattle.entries.specs.declared.entry.Entry.{Entry}
use Rattle.starting.specs.tables.Given.{table_of}
use Rattle.starting.specs.declared.start.NotStarted.{NotStarted}
use Rattle.starting.specs.declared.start.NotStarted.TheVariants.{Short, BadTable}

-- what an answer tells: 0 with the count of the lines, 44, or 6
abbrev pub started_told : Result ℕ NotStarted → Told
started_told (Ok n) = told 0 (n ∷ [])
started_told (Err Short) = told 44 []
started_told (Err BadTable) = told 6 []

abbrev pub start_number : Result ℕ NotStarted → ℕ
start_number s = (started_told s).number

-- the first entry of a line: holder the owner, no confirmed date, all places free
abbrev pub first_of : Line → Entry
first_of l = first_entry (record { owner = l.owner; setup = l.setup })

unfoldable pub first_slot : Line → List ℕ
first_slot l = entry_slot (first_of l)

-- ---- the answer: 44 for a short buffer before all else, then 6 for a text that gives no table
abbrev pub answer_of : Option (List Line) → Result ℕ NotStarted
answer_of (Some ls) = Ok (length ls)
answer_of None = Err BadTable

unfoldable pub start_answer : List ℕ → Buffers → Result ℕ NotStarted
start_answer text b = cond (long_enough b) (answer_of (table_of text)) (Err Short)

-- ---- the buffers: the count and the lines, no file, a first entry for each line; every other byte stays
abbrev pub table_after : Option (List Line) → List ℕ → List ℕ
table_after (Some ls) t = overlay t 0 (low_first 2 (length ls) ++ flat_map line_slot ls)
table_after None t = t

abbrev pub files_after : Option (List Line) → List ℕ → List ℕ
files_after (Some ls) f = overlay f 0 (low_first 2 0)
files_after None f = f

abbrev pub entries_after : Option (List Line) → List ℕ → List ℕ
entries_after (Some ls) e = overlay e 0 (flat_map first_slot ls)
entries_after None e = e

abbrev pub with_table : Option (List Line) → Buffers → Buffers
with_table given b = record {
  table = table_after given b.table;
  files = files_after given b.files;
  regular = b.regular;
  corrections = b.corrections;
  entries = entries_after given b.entries;
}

unfoldable pub start_buffers : List ℕ → Buffers → Buffers
start_buffers text b = cond (long_enough b) (with_table (table_of text) b) b

-- what the contract of starting says
pub record Starts (text : List ℕ) (before : Buffers) (answer : Result ℕ NotStarted) (after : Buffers) : Type 0 where
  pub answers : answer ≡ start_answer text before
  pub leaves : after ≡ start_buffers text before

-- the store that a table starts: its lines, no file, their first entries
unfoldable pub started_with : List Line → Held
started_with ls = record { lines = map table_line ls; files = []; entries = map first_of ls }

-- ---- what the parts of starting say
-- the count and n lines of `room`, written into a table
unfoldable pub table_with : List ℕ → ℕ → List ℕ → List ℕ
table_with room n t = overlay (overlay t 0 (low_first 2 n)) 2 (part room 2 (n * 14))

-- the first entries of n lines of `room`
unfoldable pub entries_with : List ℕ → ℕ → List ℕ → List ℕ
entries_with room n e = overlay e 0 (flat_map first_slot (table n (line_at room)))

pub record Entered (room : List ℕ) (n : ℕ) (t f e t' f' e' : List ℕ) : Type 0 where
  pub table_is : t' ≡ table_with room n t
  pub files-is : f' ≡ overlay f 0 (low_first 2 0)
  pub entries-is : e' ≡ entries_with room n e

pub record Begun (text t f e : List ℕ) (answer : Result ℕ NotStarted) (t' f' e' : List ℕ) : Type 0 where
  pub answers : answer ≡ answer_of (table_of text)
  pub table_is : t' ≡ table_after (table_of text) t
  pub files-is : f' ≡ files_after (table_of text) f
  pub entries-is : e' ≡ entries_after (table_of text) e
