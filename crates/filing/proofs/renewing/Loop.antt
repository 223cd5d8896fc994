-- The loop over the records of the last file: what holds before the record at j, a turn, and the end. Assumes nothing.
use mathlib.Core.Path.{◌≡◌, refl, sym, ap, ◌∙◌}
use mathlib.Core.Bool.{true, ◌||◌}
use mathlib.Core.List.{List, map}
use Prim.Native.Nat.{ℕ, ◌+◌, ◌*◌, ◌≤◌}
use native.Mathlib.Omega.{arith}
use lib.ListN.{length}
use Rattle.laws.specs.Lists.{table}
use Rattle.fields.specs.declared.number.Number.{Number}
use Rattle.model.specs.Model.{Filed, named, count_of}
use Rattle.store.specs.journals.Files.{file_at, file_count, records_of}
use Rattle.store.specs.journals.Reads.{records_at, read_files}
use Rattle.store.specs.declared.journals.files.File.{File}
use Rattle.store.specs.numbers.Lines.{line_count, lines_of, number_at}
use Rattle.rules.specs.Rules.{rules}
use Rattle.store.specs.Reads.{lent, is_readable, table_line}
use Rattle.store.proofs.Checks.{few-lines, long}
use Rattle.store.proofs.Whole.{whole_long, whole-table, numbers-once}
use Rattle.working.specs.Working.{InFile}
use Rattle.working.proofs.GatherLaws.{in-turn}
use Rattle.working.proofs.Readable.{readable-sound}
use Rattle.filing.specs.fitting.Renewing.{last_filed, renewed_entries}
use Rattle.filing.specs.renewing.Turns.{filed_from, named_to, new_at, Workable, RecordRenewed, Staged}
use Rattle.filing.proofs.renewing.LastFile.{last-read}
use Rattle.filing.proofs.renewing.Renewed.{redone-all}
use Rattle.filing.proofs.renewing.Stages.{named_none, named-stage, named-all, all_read, count_none, count-all}
use Rattle.filing.proofs.renewing.Writing.{redone-none, redone-same, redone-then}

module _ (all : List Filed) (f : Filed) (lines before : List ℕ) where
  pub staged-none : Staged all f 0 lines before before 0
  staged-none = record {
    redone = redone-none all lines (named_to f 0) before (λ k h. named_none f (number_at lines k));
    counted = count_none all f;
    few = omega arith;
  }

  pub staged-turn : (mid after : List ℕ) (j sum r : ℕ) → Staged all f j lines before mid sum → RecordRenewed all f j lines mid after r → Staged all f (j + 1) lines before after (sum + r)
  staged-turn mid after j sum r s w = record {
    redone =
        redone-same all lines (λ (n : Number). named_to f j n || new_at f j n) (named_to f (j + 1)) (named-stage f j)
        (redone-then all lines (named_to f j) (new_at f j) s.redone w.redone);
    counted = ap (λ (n : ℕ). n + r) s.counted ∙ sym w.counted;
    few = omega (arith, s.few, w.few);
  }

  module _ (after : List ℕ) (j sum : ℕ) (s : Staged all f j lines before after sum) (e : length f.records ≡ j) where
    pub staged_count : sum ≡ count_of rules all f
    staged_count = s.counted ∙ count-all all f j e

    pub staged-entries : line_count lines * 100 ≤ length before → after ≡ renewed_entries all f (map table_line (lines_of lines)) before
    staged-entries room = redone-all all f lines before room after (redone-same all lines (named_to f j) (named rules f) (λ n. named-all f n j e) s.redone)

-- writing entries keeps what is asked
pub still-workable : {n : ℕ} {lines files regular corrections entries : List ℕ} → Workable n lines files regular corrections entries → (now : List ℕ) → length now ≡ length entries → Workable n lines files regular corrections now
still-workable w now e = record {
  counted = w.counted;
  sound = w.sound;
  line_room = w.line_room;
  few_lines = w.few_lines;
  once = w.once;
  entry_room = omega (arith, w.entry_room);
}

-- ---- what a store that reads as one gives
module _ (lines files regular corrections entries : List ℕ) (whole : is_readable (lent lines files regular corrections entries) ≡ true) where
  pub workable : (n : ℕ) (now : List ℕ) → n ≡ file_count files → length now ≡ length entries → Workable n lines files regular corrections now
  workable n now c e =
      let b = lent lines files regular corrections entries in
      let room = long b (whole_long b whole) in record {
        counted = c;
        sound = readable-sound lines files regular corrections entries n whole (omega arith);
        line_room = room.long-table;
        few_lines = few-lines lines (whole-table b whole);
        once = numbers-once lines (whole-table b whole);
        entry_room = omega (arith, room.long-entries);
      }

  module _ (m : ℕ) (f : File) (start : ℕ) (e : f ≡ file_at files m) (q : start ≡ records_of f.kind (table m (file_at files))) (n : m + 1 ≡ file_count files) where
    pub in-last : InFile regular corrections f start f.count
    in-last =
        in-turn (file_count files) files regular corrections (readable-sound lines files regular corrections entries (file_count files) whole (omega arith)) m f start (omega arith) e q

    -- the end of the loop
    module _ (after : List ℕ) (j sum : ℕ)
        (s : Staged (read_files files regular corrections) (filed_from (records_at regular corrections) f start) j lines entries after sum) (d : f.count ≡ j) where
      last : last_filed (read_files files regular corrections) ≡ filed_from (records_at regular corrections) f start
      last = last-read files regular corrections f start m (omega arith) n e q

      pub counted-last : sum ≡ count_of rules (read_files files regular corrections) (last_filed (read_files files regular corrections))
      counted-last = rw last (staged_count (read_files files regular corrections) (filed_from (records_at regular corrections) f start) lines entries after j sum s (all_read (records_at regular corrections) f start ∙ d))

      pub renewed-last : after ≡ renewed_entries (read_files files regular corrections) (last_filed (read_files files regular corrections)) (map table_line (lines_of lines)) entries
      renewed-last =
          let able = workable (file_count files) entries refl refl in
          rw last
          (staged-entries (read_files files regular corrections) (filed_from (records_at regular corrections) f start) lines entries after j sum s (all_read (records_at regular corrections) f start ∙ d)
          (omega (arith, able.few_lines, able.entry_room)))
