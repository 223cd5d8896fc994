-- What is done for one record after the other of a file. Assumes nothing: these are definitions.
use Rattle.std.specs.Prelude.{◌≡◌, Bool, true, cond, not, ◌&&◌, List, ℕ, ◌+◌, ◌*◌, ◌≤◌, ◌<◌, ltb, length, take, drop}
use Rattle.laws.specs.Lists.{table, any, keep, none_twice}
use Rattle.laws.specs.Overlay.{overlay}
use Rattle.laws.specs.Slots.{slot_at}
use Rattle.order.specs.groups.Groups.{tags}
use Rattle.fields.specs.declared.number.Number.{Number}
use Rattle.fields.specs.Number.{same_number}
use Rattle.model.specs.Rules.{Event}
use Rattle.model.specs.Model.{Filed, event_at, number_of, about, journal, history, entry_over}
use Rattle.store.specs.journals.Files.{file_count}
use Rattle.store.specs.declared.journals.files.File.{File}
use Rattle.store.specs.numbers.Lines.{line_count, line_at, number_at}
use Rattle.store.specs.entry_slots.Entries.{entry_slot}
use Rattle.store.specs.Reads.{table_line}
use Rattle.rules.specs.Rules.{rules}
use Rattle.working.specs.Working.{Sound}
use Rattle.working.specs.indexing.Index.{front}

-- a file whose records begin at `start` in its journal, as the model has it
unfoldable pub filed_from : (ℕ → ℕ → List ℕ) → File → ℕ → Filed
filed_from r f start = record { kind = f.kind; publisher = f.publisher; day = f.day; records = table f.count (λ (i : ℕ). r f.kind (start + i)) }

-- the number that the record at a place of a file names
unfoldable pub number_from : Filed → ℕ → Number
number_from f i = number_of rules (event_at f i)

-- whether one of the file's first j records names the number
unfoldable pub named_to : Filed → ℕ → Number → Bool
named_to f j n = any (about rules n) (table j (event_at f))

-- whether a place is among the first j, and its record names the number
unfoldable pub earlier : Filed → ℕ → Number → ℕ → Bool
earlier f j n i = ltb i j && same_number (number_from f i) n

-- the first field of the number that the record at a place names, as it stands in front of the place
unfoldable pub front_from : Filed → ℕ → ℕ
front_from f i = front (number_from f i).first.0

-- the first w tags are those of the file's records, in order
pub record Tagged (f : Filed) (wanted : List ℕ) (w : ℕ) : Type 0 where
  pub counted : w ≡ length f.records
  pub few : w ≤ 10240
  pub places : take w wanted ≡ tags (front_from f) (table w (λ (i : ℕ). i))

-- whether the record at j is the first of the file that names the number
unfoldable pub new_at : Filed → ℕ → Number → Bool
new_at f j n = not (named_to f j (number_from f j)) && same_number (number_from f j) n

-- how many records of all files have a number that one of the file's first j records names
unfoldable pub count_to : List Filed → Filed → ℕ → ℕ
count_to all f j = length (keep (λ (e : Event). named_to f j (number_of rules e)) (journal all))

-- what is asked of the buffers and the number of files: a store that reads as one gives this, and writing entries keeps it
pub record Workable (n : ℕ) (lines files regular corrections entries : List ℕ) : Type 0 where
  pub counted : n ≡ file_count files
  pub sound : Sound n files regular corrections
  pub line_room : 14338 ≤ length lines
  pub few_lines : line_count lines ≤ 1024
  pub once : none_twice same_number (table (line_count lines) (number_at lines)) ≡ true
  pub entry_room : 102400 ≤ length entries

-- the entry of the line k, worked out afresh, as its slot
abbrev pub slot_afresh : List Filed → List ℕ → ℕ → List ℕ
slot_afresh all lines k = entry_slot (entry_over rules all (table_line (line_at lines k)))

-- the entries before and after: those of the lines whose number passes the test are worked out afresh, every other byte is as it was
pub record Redone (p : Number → Bool) (all : List Filed) (lines before after : List ℕ) : Type 0 where
  pub slots : (k : ℕ) → k < line_count lines → slot_at 0 100 after k ≡ cond (p (number_at lines k)) (slot_afresh all lines k) (slot_at 0 100 before k)
  pub rest : drop (line_count lines * 100) after ≡ drop (line_count lines * 100) before

-- what `renew_line` does and answers: the entry of the line k is written; how many records name its number
pub record LineRenewed (all : List Filed) (lines before after : List ℕ) (k r : ℕ) : Type 0 where
  pub written : after ≡ overlay before (k * 100) (slot_afresh all lines k)
  pub counted : r ≡ length (history rules all (number_at lines k))

-- what `renew_number` does and answers: the entry of the number's line, where it has one; how many records name it
pub record NumberRenewed (all : List Filed) (number : Number) (lines before after : List ℕ) (r : ℕ) : Type 0 where
  pub redone : Redone (same_number number) all lines before after
  pub counted : r ≡ length (history rules all number)

-- what `renew_record` does and answers for the record at j: its number's entry, and how many records more are counted, where no earlier one names the number
pub record RecordRenewed (all : List Filed) (f : Filed) (j : ℕ) (lines before after : List ℕ) (r : ℕ) : Type 0 where
  pub redone : Redone (new_at f j) all lines before after
  pub counted : count_to all f (j + 1) ≡ count_to all f j + r
  pub few : r ≤ 10240

-- what `renew_records` and `renew_file` do and answer, up to the record at j: the entries of the numbers that the first j records of the file name are worked out, and the records of these numbers are counted
pub record Staged (all : List Filed) (f : Filed) (j : ℕ) (lines before after : List ℕ) (sum : ℕ) : Type 0 where
  pub redone : Redone (named_to f j) all lines before after
  pub counted : sum ≡ count_to all f j
  pub few : sum ≤ 10240 * j
