-- What starting and filing answer, and what answer 0 of filing leaves in the buffers: paper 01, "What filing answers". Assumes nothing: these are definitions.
use Rattle.std.specs.Prelude.{Result, Ok, Err}
use Rattle.files.specs.declared.judge.Fault.{Fault}
use Rattle.std.specs.Prelude.{Option, Some, None}
use Rattle.std.specs.Prelude.{◌≡◌, Bool, true, false, not, List, [], ◌∷◌, ◌++◌, ℕ, ◌<◌}
use Rattle.laws.specs.Lists.{any}
use Rattle.laws.specs.Slots.{slot_at}
use Rattle.calendar.specs.Dates.{in_calendar}
use Rattle.fields.specs.Code.{code_of}
use Rattle.fields.specs.Number.{same_number}
use Rattle.fields.specs.declared.code.Code.{Code}
use Rattle.fields.specs.declared.number.Number.{Number}
use Rattle.files.specs.Judged.{judged_file, records_of as texts_of}
use Rattle.model.specs.Model.{Filed, alike, events, journal_of, entry_over, count_of}
use Rattle.rules.specs.Records.{number_in}
use Rattle.rules.specs.Rules.{rules}
use Rattle.store.specs.journals.Files.{files_of, records_of}
use Rattle.store.specs.journals.Reads.{records_at}
use Rattle.store.specs.numbers.Lines.{line_count, line_at}
use Rattle.store.specs.declared.numbers.lines.Line.{Line}
use Rattle.store.specs.entry_slots.Entries.{entry_at}
use Rattle.store.specs.Reads.{Buffers, table_line, held, long_enough, is_readable, reads}
use Rattle.starting.specs.tables.Given.{table_of}
use Rattle.filing.specs.declared.entering.kind.Filable.{Filable}
use Rattle.filing.specs.entering.Entering.{kind_number, file_kind, filed_as}
use Rattle.filing.specs.checking.Filing.{within_limits}

-- ---- the answers
-- no network code; no table; a file with a fault
abbrev pub is_no_code : Option Code → Bool
is_no_code (Some c) = false
is_no_code None = true

abbrev pub is_no_table : Option (List Line) → Bool
is_no_table (Some lines) = false
is_no_table None = true

abbrev pub is_fault : Result ℕ Fault → Bool
is_fault (Ok n) = false
is_fault (Err fault) = true

-- the file as it is offered; its publisher counts only once it is a network code
abbrev pub offered_as : Filable → Option Code → ℕ → List ℕ → Filed
offered_as kind (Some c) day text = filed_as kind c.0 day text
offered_as kind None day text = filed_as kind 0 day text

-- the paper's table, line by line: the number of the first line that applies, else 0
abbrev pub filing_table : Buffers → Filable → List ℕ → ℕ → List ℕ → List (Bool × ℕ)
filing_table b kind publisher day text =
    (not (is_readable b), 44)
    ∷ (is_no_code (code_of publisher), 1)
    ∷ (not (in_calendar day), 2)
    ∷ (any (alike (offered_as kind (code_of publisher) day text)) (held b).files, 3)
    ∷ (is_fault (judged_file (file_kind kind) text), 4)
    ∷ (not (within_limits ((held b).files ++ (offered_as kind (code_of publisher) day text ∷ []))), 5)
    ∷ []

abbrev pub starting_table : List ℕ → Buffers → List (Bool × ℕ)
starting_table text b = (not (long_enough b), 44) ∷ (is_no_table (table_of text), 6) ∷ []

-- ---- answer 0
-- whether some record of the file names the number
abbrev pub named_in : Filable → List ℕ → Number → Bool
named_in kind text number = any (λ (r : List ℕ). same_number (number_in (kind_number kind) r) number) (texts_of (file_kind kind) text)

pub record JoinedAndRenewed (b : Buffers) (kind : Filable) (publisher : List ℕ) (day : ℕ) (text : List ℕ) (count : ℕ) (after : Buffers) : Type 0 where
  -- the file that was offered: its publisher is a network code, its publication day in the calendar
  pub code : Code
  pub published : code_of publisher ≡ Some code
  pub dated : in_calendar day ≡ true
  pub filed : Filed
  pub offered : filed ≡ filed_as kind code.0 day text
  -- the buffers read as a store before and after, with the same table
  pub read-before : reads b ≡ Some (held b)
  pub read-after : reads after ≡ Some (held after)
  pub same-table : after.table ≡ b.table
  -- exactly this file's records join their journal behind the stored ones, and the other journal stays
  pub one_more : (held after).files ≡ (held b).files ++ (filed ∷ [])
  pub joined : journal_of (kind_number kind) (held after).files ≡ journal_of (kind_number kind) (held b).files ++ events filed
  pub other : (k : ℕ) → (kind_number kind ≡ k → ⊥) → journal_of k (held after).files ≡ journal_of k (held b).files
  -- the stored ones keep their bytes, each at its place of its journal
  pub kept : (k place : ℕ) → place < records_of k (files_of b.files) → records_at after.regular after.corrections k place ≡ records_at b.regular b.corrections k place
  -- the count: the records of both journals, after filing, whose number is named by Some record of this file
  pub counted : count ≡ count_of rules (held after).files filed
  -- the entries of the numbers named are worked out afresh, the others keep theirs byte for byte
  pub renewed : (k : ℕ) → k < line_count b.table → named_in kind text (line_at b.table k).number ≡ true
      → entry_at after.entries k ≡ entry_over rules (held after).files (table_line (line_at b.table k))
  pub untouched : (k : ℕ) → k < line_count b.table → named_in kind text (line_at b.table k).number ≡ false
      → slot_at 0 100 after.entries k ≡ slot_at 0 100 b.entries k
