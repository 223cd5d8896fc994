-- The tests of the five buffers, one after the other, as the code makes them. Assumes nothing.
use Rattle.std.specs.Prelude.{Some, None}
use mathlib.Core.Path.{◌≡◌, sym, ap, ap₂}
use mathlib.Core.Bool.{Bool, true, false, ◌&&◌}
use mathlib.Core.List.{List}
use Prim.Native.Nat.{ℕ, ◌≤◌}
use lib.Dec.{leb}
use lib.ListN.{length}
use borrow.Author.Tests.{leb-true}
use Rattle.std.specs.List.{list_all, range_with_len}
use Rattle.store.proofs.Ranges.{all_of_table}
use Rattle.laws.specs.Lists.{table, all, none_twice}
use Rattle.laws.specs.Slots.{slot_at}
use Rattle.laws.proofs.Tests.{and_left, and_right}
use Rattle.fields.specs.Number.{same_number}
use Rattle.store.specs.journals.Files.{file_count, file_at, files_of, good_file, same_file, records_of}
use Rattle.store.specs.numbers.Lines.{line_count, line_at, lines_of, number_at, good_line}
use Rattle.store.specs.entry_slots.Entries.{good_entry}
use Rattle.store.specs.Records.{good_report, good_correction}
use Rattle.store.specs.Reads.{Buffers, held, long_enough, good_table, good_files, good_records, is_readable, reads}

-- ---- the tests in std's words, as the code makes them
pub table_tested : (t : List ℕ) → good_table t ≡ (leb (line_count t) 1024 && (list_all (λ i. good_line (line_at t i)) (range_with_len 0 (line_count t)) && none_twice same_number (table (line_count t) (number_at t))))
unfolding good_table lines_of
table_tested t = ap (λ (b : Bool). leb (line_count t) 1024 && (b && none_twice same_number (table (line_count t) (number_at t)))) (sym (all_of_table (line_at t) good_line (line_count t)))

pub records_tested : (f r c : List ℕ) → good_records f r c ≡ (list_all (λ i. good_report (slot_at 0 45 r i)) (range_with_len 0 (records_of 0 (table (file_count f) (file_at f))))
    && list_all (λ i. good_correction (slot_at 0 98 c i)) (range_with_len 0 (records_of 1 (table (file_count f) (file_at f)))))
unfolding good_records files_of
records_tested f r c = ap₂ ◌&&◌ (sym (all_of_table (slot_at 0 45 r) good_report (records_of 0 (files_of f)))) (sym (all_of_table (slot_at 0 98 c) good_correction (records_of 1 (files_of f))))

pub entries_tested : (b : Buffers) → is_readable b ≡ (long_enough b
    && (good_table b.table && (good_files b.files && (good_records b.files b.regular b.corrections && list_all (λ i. good_entry (slot_at 0 100 b.entries i)) (range_with_len 0 (line_count b.table))))))
unfolding is_readable
entries_tested b =
    ap (λ (t : Bool). long_enough b && (good_table b.table && (good_files b.files && (good_records b.files b.regular b.corrections && t))))
    (sym (all_of_table (slot_at 0 100 b.entries) good_entry (line_count b.table)))

-- what a well formed list of files keeps to
module _ (f : List ℕ) (e : good_files f ≡ true) where
  behind : (all good_file (files_of f) && (none_twice same_file (files_of f) && (leb (records_of 0 (files_of f)) 8192 && leb (records_of 1 (files_of f)) 2048))) ≡ true
  unfolding good_files
  behind = and_right (leb (file_count f) 1024) (all good_file (files_of f) && (none_twice same_file (files_of f) && (leb (records_of 0 (files_of f)) 8192 && leb (records_of 1 (files_of f)) 2048))) e

  counts : (leb (records_of 0 (files_of f)) 8192 && leb (records_of 1 (files_of f)) 2048) ≡ true
  counts =
      and_right (none_twice same_file (files_of f)) (leb (records_of 0 (files_of f)) 8192 && leb (records_of 1 (files_of f)) 2048)
      (and_right (all good_file (files_of f)) (none_twice same_file (files_of f) && (leb (records_of 0 (files_of f)) 8192 && leb (records_of 1 (files_of f)) 2048)) behind)

  pub few-files : file_count f ≤ 1024
  unfolding good_files
  few-files = leb-true (file_count f) 1024 (and_left (leb (file_count f) 1024) (all good_file (files_of f) && (none_twice same_file (files_of f) && (leb (records_of 0 (files_of f)) 8192 && leb (records_of 1 (files_of f)) 2048))) e)

  pub few-reports : records_of 0 (files_of f) ≤ 8192
  few-reports = leb-true (records_of 0 (files_of f)) 8192 (and_left (leb (records_of 0 (files_of f)) 8192) (leb (records_of 1 (files_of f)) 2048) counts)

  pub few-corrections : records_of 1 (files_of f) ≤ 2048
  few-corrections = leb-true (records_of 1 (files_of f)) 2048 (and_right (leb (records_of 0 (files_of f)) 8192) (leb (records_of 1 (files_of f)) 2048) counts)

-- the files, counted by the code
pub counted : (f : List ℕ) (n : ℕ) → n ≡ file_count f → (kind : ℕ) → records_of kind (table n (file_at f)) ≡ records_of kind (files_of f)
unfolding files_of
counted f n e kind = ap (λ (k : ℕ). records_of kind (table k (file_at f))) e

-- ---- the whole
module _ (b : Buffers) where
  pub read-entries : long_enough b ≡ true → good_table b.table ≡ true → good_files b.files ≡ true → good_records b.files b.regular b.corrections ≡ true
      → (n : ℕ) → n ≡ line_count b.table → all good_entry (table n (slot_at 0 100 b.entries)) ≡ is_readable b
  unfolding is_readable
  read-entries h t f r n e = rw (h, t, f, r, ← e)

  -- the buffers read as a store exactly where the test says so
  pub reads-some : is_readable b ≡ true → reads b ≡ Some (held b)
  unfolding reads
  reads-some e = rw e

  pub reads_none : is_readable b ≡ false → reads b ≡ None
  unfolding reads
  reads_none e = rw e

-- ---- how long the buffers are
-- buffers that are long enough
pub record Long (b : Buffers) : Type 0 where
  pub long-table : 14338 ≤ length b.table
  pub long-files : 8194 ≤ length b.files
  pub long-regular : 368640 ≤ length b.regular
  pub long-corrections : 200704 ≤ length b.corrections
  pub long-entries : 102400 ≤ length b.entries

pub long : (b : Buffers) → long_enough b ≡ true → Long b
unfolding long_enough
long b e =
    let t : Bool = leb 14338 (length b.table) in
    let f : Bool = leb 8194 (length b.files) in
    let r : Bool = leb 368640 (length b.regular) in
    let c : Bool = leb 200704 (length b.corrections) in
    let n : Bool = leb 102400 (length b.entries) in
    let e₁ = and_right t (f && (r && (c && n))) e in
    let e₂ = and_right f (r && (c && n)) e₁ in
    let e₃ = and_right r (c && n) e₂ in
    record {
      long-table = leb-true 14338 (length b.table) (and_left t (f && (r && (c && n))) e);
      long-files = leb-true 8194 (length b.files) (and_left f (r && (c && n)) e₁);
      long-regular = leb-true 368640 (length b.regular) (and_left r (c && n) e₂);
      long-corrections = leb-true 200704 (length b.corrections) (and_left c n e₃);
      long-entries = leb-true 102400 (length b.entries) (and_right c n e₃);
    }

-- what a well formed number table keeps to
pub few-lines : (t : List ℕ) → good_table t ≡ true → line_count t ≤ 1024
unfolding good_table
few-lines t e = leb-true (line_count t) 1024 (and_left (leb (line_count t) 1024) (all good_line (lines_of t) && none_twice same_number (table (line_count t) (number_at t))) e)
