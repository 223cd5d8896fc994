-- What the buffers are once a file's records have joined their journal, and when a file may be entered. Assumes nothing: these are definitions.
use Rattle.std.specs.Prelude.{Ok}
use Rattle.std.specs.Prelude.{◌≡◌, Bool, true, false, cond, ℕ, ◌+◌, ◌*◌, ◌≤◌, ◌<◌, eqb, ltb, length, take}
use mathlib.Core.List.{List, flat_map}
use Rattle.laws.specs.Lists.{any, all}
use Rattle.laws.specs.Overlay.{overlay}
use Rattle.laws.specs.Slots.{slot_of}
use Rattle.laws.specs.Split.{split}
use Rattle.laws.specs.Words.{low_first}
use Rattle.calendar.specs.Dates.{in_calendar}
use Rattle.model.specs.Model.{Filed}
use Rattle.records.specs.declared.names.kind.FileKind.{FileKind}
use Rattle.files.specs.Judged.{judged_file, records_of as texts_of}
use Rattle.store.specs.journals.Files.{file_count, files_of, file_slot, same_file, records_of}
use Rattle.store.specs.declared.journals.files.File.{File}
use Rattle.store.specs.Reads.{Buffers, lent, is_readable}
use Rattle.filing.specs.declared.entering.kind.Filable.{Filable}
use Rattle.filing.specs.declared.entering.kind.Filable.TheVariants.{Default, Correction}

-- ---- the kinds that are filed
-- the number of a kind in the list of files; the kind among all kinds of file
abbrev pub kind_number : Filable → ℕ
kind_number Default = 0
kind_number Correction = 1

abbrev pub file_kind : Filable → FileKind
file_kind Default = FileKind.Default
file_kind Correction = FileKind.Correction

-- how many records its journal takes
abbrev pub most : Filable → ℕ
most Default = 8192
most Correction = 2048

-- ---- the file
-- as the model has it: its records as published
unfoldable pub filed_as : Filable → ℕ → ℕ → List ℕ → Filed
filed_as kind publisher day text = record { kind = kind_number kind; publisher = publisher; day = day; records = texts_of (file_kind kind) text }

-- and as the list of files tells of it
unfoldable pub file_in : Filed → File
file_in f = record { kind = f.kind; publisher = f.publisher; day = f.day; count = length f.records }

-- ---- the buffers
-- one file more in the list: the count, and a slot behind the others
unfoldable pub files_with : List ℕ → File → List ℕ
files_with files f = overlay (overlay files 0 (low_first 2 (file_count files + 1))) (2 + file_count files * 8) (file_slot f)

-- a journal with records behind its first n
unfoldable pub journal_with : ℕ → List ℕ → ℕ → List (List ℕ) → List ℕ
journal_with width journal n records = overlay journal (n * width) (flat_map (slot_of width) records)

-- the buffers with one file more: its records behind the stored ones of their journal; every other byte stays
unfoldable pub entered : Filed → Buffers → Buffers
entered f b = record {
  table = b.table;
  files = files_with b.files (file_in f);
  regular = cond (eqb f.kind 0) (journal_with 45 b.regular (records_of 0 (files_of b.files)) f.records) b.regular;
  corrections = cond (eqb f.kind 1) (journal_with 98 b.corrections (records_of 1 (files_of b.files)) f.records) b.corrections;
  entries = b.entries;
}

-- ---- when a file may be entered
-- what the checks of filing have found: the buffers read as a store, the text is a file of its kind with m records, publisher and day are in
-- range, none alike is filed, and there is room
pub record Enterable (b : Buffers) (kind : Filable) (publisher day : ℕ) (text : List ℕ) (m : ℕ) : Type 0 where
  pub readable : is_readable b ≡ true
  pub judged : judged_file (file_kind kind) text ≡ Ok m
  pub code : publisher ≤ 999
  pub date : in_calendar day ≡ true
  pub new : any (same_file (file_in (filed_as kind publisher day text))) (files_of b.files) ≡ false
  pub slot : file_count b.files < 1024
  pub room : records_of (kind_number kind) (files_of b.files) + m ≤ most kind

-- ---- as the code enters it
-- the part of `Enterable` that it needs, of the three buffers that it writes
pub record Ready (files regular corrections : List ℕ) (kind : Filable) (text : List ℕ) (m : ℕ) : Type 0 where
  pub judged : judged_file (file_kind kind) text ≡ Ok m
  pub slot : file_count files < 1024
  pub room : records_of (kind_number kind) (files_of files) + m ≤ most kind
  pub long-files : 8194 ≤ length files
  pub long-regular : 368640 ≤ length regular
  pub long-corrections : 200704 ≤ length corrections

-- and what it leaves in them, whatever table and entries stand beside them
pub record Joined (f : Filed) (files regular corrections files₁ regular₁ corrections₁ : List ℕ) : Type 0 where
  pub buffers : (t e : List ℕ) → lent t files₁ regular₁ corrections₁ e ≡ entered f (lent t files regular corrections e)

unfoldable pub shorter : ℕ → List ℕ → Bool
shorter width l = ltb (length l) width

-- the first m lines of a text, each shorter than a slot
abbrev pub first_lines : ℕ → List ℕ → List (List ℕ)
first_lines m text = take m (split 13 text)

pub record Lines (width : ℕ) (text : List ℕ) (m : ℕ) : Type 0 where
  pub enough : m ≤ length (split 13 text)
  pub short : all (shorter width) (first_lines m text) ≡ true

-- the two journals with records behind the first n of their kind's journal
abbrev pub regular_with : Filable → List ℕ → ℕ → List (List ℕ) → List ℕ
regular_with Default journal n records = journal_with 45 journal n records
regular_with Correction journal n records = journal

abbrev pub corrections_with : Filable → List ℕ → ℕ → List (List ℕ) → List ℕ
corrections_with Default journal n records = journal
corrections_with Correction journal n records = journal_with 98 journal n records
