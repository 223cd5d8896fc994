-- What five buffers that read as a store keep to, part by part. Assumes nothing.
use mathlib.Core.Path.{◌≡◌}
use mathlib.Core.Bool.{Bool, true, ◌&&◌}
use mathlib.Core.List.{List}
use Prim.Native.Nat.{ℕ}
use lib.Dec.{leb}
use Rattle.laws.specs.Lists.{table, all, none_twice}
use Rattle.laws.specs.Slots.{slot_at}
use Rattle.laws.proofs.Tests.{and_left, and_right}
use Rattle.fields.specs.Number.{same_number}
use Rattle.store.specs.journals.Files.{file_count, files_of, good_file, same_file, records_of}
use Rattle.store.specs.numbers.Lines.{line_count, lines_of, number_at, good_line}
use Rattle.store.specs.entry_slots.Entries.{good_entry}
use Rattle.store.specs.Reads.{Buffers, long_enough, good_table, good_files, good_records, is_readable}

module _ (b : Buffers) (e : is_readable b ≡ true) where
  abbrev last : Bool
  last = all good_entry (table (line_count b.table) (slot_at 0 100 b.entries))

  abbrev records : Bool
  records = good_records b.files b.regular b.corrections

  pub whole_long : long_enough b ≡ true
  unfolding is_readable
  whole_long = and_left (long_enough b) (good_table b.table && (good_files b.files && (records && last))) e

  behind-long : (good_table b.table && (good_files b.files && (records && last))) ≡ true
  unfolding is_readable
  behind-long = and_right (long_enough b) (good_table b.table && (good_files b.files && (records && last))) e

  pub whole-table : good_table b.table ≡ true
  whole-table = and_left (good_table b.table) (good_files b.files && (records && last)) behind-long

  behind-table : (good_files b.files && (records && last)) ≡ true
  behind-table = and_right (good_table b.table) (good_files b.files && (records && last)) behind-long

  pub whole-files : good_files b.files ≡ true
  whole-files = and_left (good_files b.files) (records && last) behind-table

  pub whole-records : good_records b.files b.regular b.corrections ≡ true
  whole-records = and_left records last (and_right (good_files b.files) (records && last) behind-table)

  pub whole-entries : all good_entry (table (line_count b.table) (slot_at 0 100 b.entries)) ≡ true
  whole-entries = and_right records last (and_right (good_files b.files) (records && last) behind-table)

-- the table: each line is well formed, and no number stands there twice
module _ (t : List ℕ) (e : good_table t ≡ true) where
  pub lines-good : all good_line (lines_of t) ≡ true
  unfolding good_table
  lines-good =
      and_left (all good_line (lines_of t)) (none_twice same_number (table (line_count t) (number_at t)))
      (and_right (leb (line_count t) 1024) (all good_line (lines_of t) && none_twice same_number (table (line_count t) (number_at t))) e)

  pub numbers-once : none_twice same_number (table (line_count t) (number_at t)) ≡ true
  unfolding good_table
  numbers-once =
      and_right (all good_line (lines_of t)) (none_twice same_number (table (line_count t) (number_at t)))
      (and_right (leb (line_count t) 1024) (all good_line (lines_of t) && none_twice same_number (table (line_count t) (number_at t))) e)

-- the list of files: each is in range, and none stands there twice
pub files-good : (f : List ℕ) → good_files f ≡ true → all good_file (files_of f) ≡ true
unfolding good_files
files-good f e =
    let rest : Bool = none_twice same_file (files_of f) && (leb (records_of 0 (files_of f)) 8192 && leb (records_of 1 (files_of f)) 2048) in
    and_left (all good_file (files_of f)) rest (and_right (leb (file_count f) 1024) (all good_file (files_of f) && rest) e)

pub files-once : (f : List ℕ) → good_files f ≡ true → none_twice same_file (files_of f) ≡ true
unfolding good_files
files-once f e =
    let counts : Bool = leb (records_of 0 (files_of f)) 8192 && leb (records_of 1 (files_of f)) 2048 in
    and_left (none_twice same_file (files_of f)) counts
    (and_right (all good_file (files_of f)) (none_twice same_file (files_of f) && counts)
    (and_right (leb (file_count f) 1024) (all good_file (files_of f) && (none_twice same_file (files_of f) && counts)) e))
