-- What the five lent buffers mean: the store of the model, or nothing. Assumes nothing: these are definitions.
use Rattle.std.specs.Prelude.{Option, Some, None}
use Rattle.std.specs.Prelude.{Bool, cond, ◌&&◌, List, map, ℕ, leb, length}
use Rattle.laws.specs.Lists.{table, all, none_twice}
use Rattle.laws.specs.Slots.{slot_at}
use Rattle.model.specs.Model.{Filed}
use Rattle.model.specs.Rules.{TableLine}
use Rattle.fields.specs.Number.{same_number}
use Rattle.fields.specs.declared.number.Number.{Number}
use Rattle.entries.specs.declared.entry.Entry.{Entry}
use Rattle.store.specs.journals.Files.{file_count, files_of, good_file, same_file, records_of}
use Rattle.store.specs.journals.Reads.{read_files}
use Rattle.store.specs.numbers.Lines.{line_count, lines_of, number_at, good_line}
use Rattle.store.specs.declared.numbers.lines.Line.{Line}
use Rattle.store.specs.entry_slots.Entries.{entry_at, good_entry}
use Rattle.store.specs.Records.{good_report, good_correction}

-- the five buffers
pub record Buffers : Type 0 where
  pub table : List ℕ
  pub files : List ℕ
  pub regular : List ℕ
  pub corrections : List ℕ
  pub entries : List ℕ

-- what they hold: the lines of the number table, the files in order of arrival with their records, an entry for each line
pub record Held : Type 0 where
  pub lines : List (TableLine Number)
  pub files : List Filed
  pub entries : List Entry

-- ---- the parts, whether they are well formed or not
-- a line in the model's words
abbrev pub table_line : Line → TableLine Number
table_line l = record { number = l.number; owner = l.owner.0; set_up = l.setup.0 }

unfoldable pub held : Buffers → Held
held b = record {
  lines = map table_line (lines_of b.table);
  files = read_files b.files b.regular b.corrections;
  entries = table (line_count b.table) (entry_at b.entries);
}

-- ---- whether they are well formed
-- room for 1,024 numbers, 1,024 files, 8,192 reports, 2,048 corrections and 1,024 entries
unfoldable pub long_enough : Buffers → Bool
long_enough b =
    leb 14338 (length b.table)
    && (leb 8194 (length b.files) && (leb 368640 (length b.regular) && (leb 200704 (length b.corrections) && leb 102400 (length b.entries))))

-- at most 1,024 numbers, each line well formed, no number twice
unfoldable pub good_table : List ℕ → Bool
good_table t = leb (line_count t) 1024 && (all good_line (lines_of t) && none_twice same_number (table (line_count t) (number_at t)))

-- at most 1,024 files, each in range, none twice, with at most 8,192 reports and 2,048 corrections
unfoldable pub good_files : List ℕ → Bool
good_files f =
    leb (file_count f) 1024
    && (all good_file (files_of f) && (none_twice same_file (files_of f) && (leb (records_of 0 (files_of f)) 8192 && leb (records_of 1 (files_of f)) 2048)))

-- each record of the files in its layout
unfoldable pub good_records : List ℕ → List ℕ → List ℕ → Bool
good_records files regular corrections =
    all good_report (table (records_of 0 (files_of files)) (slot_at 0 45 regular))
    && all good_correction (table (records_of 1 (files_of files)) (slot_at 0 98 corrections))

unfoldable pub is_readable : Buffers → Bool
is_readable b =
    long_enough b
    && (good_table b.table && (good_files b.files && (good_records b.files b.regular b.corrections && all good_entry (table (line_count b.table) (slot_at 0 100 b.entries)))))

-- ---- what the buffers mean
unfoldable pub reads : Buffers → Option Held
reads b = cond (is_readable b) (Some (held b)) None

-- the buffers by name
abbrev pub lent : List ℕ → List ℕ → List ℕ → List ℕ → List ℕ → Buffers
lent t f r c e = record { table = t; files = f; regular = r; corrections = c; entries = e }
