-- What entering a file leaves in the buffers. Assumes nothing.
--     enterable-ready     where a file may be entered, the code that enters it may be called
--     entered-readable    the buffers still read as a store
--     entered-files       the files that they read as are those before, and behind them this one
--     entered-stays       every stored record keeps its bytes and its place (`stored-stay` in `Journals`: its whole slot, in a journal of any width)
use mathlib.Core.Path.{◌≡◌, refl, sym, ap, ◌∙◌}
use mathlib.Core.Bool.{Bool, true, cond, ◌&&◌}
use mathlib.Core.List.{List, [], ◌∷◌, ◌++◌}
use Prim.Native.Nat.{ℕ, zero, suc, ◌+◌, ◌*◌, ◌≤◌, ◌<◌}
use native.Mathlib.Nat.{add-zero}
use native.Mathlib.Omega.{arith}
use borrow.Author.Tests.{le-leb, leb-true}
use lib.Dec.{eqb, leb}
use lib.ListN.{length, get_or}
use Rattle.laws.specs.Lists.{table, all}
use Rattle.laws.specs.Slots.{slot_at, slot_of}
use Rattle.laws.proofs.Slots.{held-slot}
use Rattle.laws.proofs.Tables.{all-at}
use Rattle.laws.proofs.Tests.{and_left, and_right}
use Rattle.records.specs.declared.names.kind.FileKind.{FileKind}
use Rattle.records.specs.Record.{is_record}
use Rattle.files.specs.Judged.{records_of as texts_of}
use Rattle.store.specs.journals.Files.{files_of, good_file, records_in, records_of}
use Rattle.store.specs.journals.Reads.{records_at, filed_in, first_files, read_files}
use Rattle.store.proofs.journals.Reading.{Roomy}
use Rattle.store.specs.numbers.Lines.{line_count}
use Rattle.store.specs.entry_slots.Entries.{good_entry}
use Rattle.model.specs.Model.{Filed}
use Rattle.store.specs.Records.{good_report, good_correction}
use Rattle.store.specs.Reads.{Buffers, long_enough, good_table, good_files, good_records, is_readable}
use Rattle.store.proofs.Checks.{Long, long}
use Rattle.filing.specs.declared.entering.kind.Filable.{Filable}
use Rattle.filing.specs.declared.entering.kind.Filable.TheVariants.{Default, Correction}
use Rattle.filing.specs.entering.Entering.{kind_number, file_kind, most, filed_as, file_in, files_with, journal_with, regular_with, corrections_with, entered, shorter, Enterable, Ready}
use Rattle.filing.proofs.entering.Journals.{is-shorter, length-journal, slot_kept, record-stays, record-new, all-stored}
use Rattle.filing.proofs.entering.Writing.{slot_width, record-short, records-count, records-good, records-short}
use Rattle.filing.proofs.entering.Joining.{few, with_file, entered-as}
use Rattle.filing.proofs.entering.Listing.{Listed, listed, listed-test, listed_more, files-more, records-more, length-files, filed-more}

-- ---- buffers that read as a store
pub record Parts (b : Buffers) : Type 0 where
  pub long-enough : long_enough b ≡ true
  pub good-table : good_table b.table ≡ true
  pub good-files : good_files b.files ≡ true
  pub good-reports : all good_report (table (records_of 0 (files_of b.files)) (slot_at 0 45 b.regular)) ≡ true
  pub good-corrections : all good_correction (table (records_of 1 (files_of b.files)) (slot_at 0 98 b.corrections)) ≡ true
  pub good-entries : all good_entry (table (line_count b.table) (slot_at 0 100 b.entries)) ≡ true

pub parts : (b : Buffers) → is_readable b ≡ true → Parts b
unfolding is_readable good_records
parts b e =
    let l : Bool = long_enough b in
    let t : Bool = good_table b.table in
    let f : Bool = good_files b.files in
    let r : Bool = all good_report (table (records_of 0 (files_of b.files)) (slot_at 0 45 b.regular)) in
    let c : Bool = all good_correction (table (records_of 1 (files_of b.files)) (slot_at 0 98 b.corrections)) in
    let n : Bool = all good_entry (table (line_count b.table) (slot_at 0 100 b.entries)) in
    let e₁ = and_right l (t && (f && ((r && c) && n))) e in
    let e₂ = and_right t (f && ((r && c) && n)) e₁ in
    let e₃ = and_right f ((r && c) && n) e₂ in
    let e₄ = and_left (r && c) n e₃ in
    record {
      long-enough = and_left l (t && (f && ((r && c) && n))) e;
      good-table = and_left t (f && ((r && c) && n)) e₁;
      good-files = and_left f ((r && c) && n) e₂;
      good-reports = and_left r c e₄;
      good-corrections = and_right r c e₄;
      good-entries = and_right (r && c) n e₃;
    }

pub parts-read : (b : Buffers) → Parts b → is_readable b ≡ true
unfolding is_readable good_records
parts-read b p = rw (p.long-enough, p.good-table, p.good-files, p.good-reports, p.good-corrections, p.good-entries)

-- ---- the journals of the two kinds
abbrev journal_of : Filable → List ℕ → List ℕ → List ℕ
journal_of Default regular corrections = regular
journal_of Correction regular corrections = corrections

length-regular : (kind : Filable) (j : List ℕ) (n : ℕ) (rs : List (List ℕ)) → length (regular_with kind j n rs) ≡ length j
length-regular Default j n rs = length-journal 45 j n rs
length-regular Correction j n rs = refl

length-corrections : (kind : Filable) (j : List ℕ) (n : ℕ) (rs : List (List ℕ)) → length (corrections_with kind j n rs) ≡ length j
length-corrections Default j n rs = refl
length-corrections Correction j n rs = length-journal 98 j n rs

-- the stored records stay
stays : (kind : Filable) (regular corrections : List ℕ) (count : ℕ → ℕ) (rs : List (List ℕ)) (k place : ℕ) → place < count k
    → records_at (regular_with kind regular (count (kind_number kind)) rs) (corrections_with kind corrections (count (kind_number kind)) rs) k place ≡ records_at regular corrections k place
unfolding records_at
stays Default regular corrections count rs zero place h = record-stays 45 regular (count 0) rs place h
stays Default regular corrections count rs (suc zero) place h = refl
stays Default regular corrections count rs (suc (suc k)) place h = refl
stays Correction regular corrections count rs zero place h = refl
stays Correction regular corrections count rs (suc zero) place h = record-stays 98 corrections (count 1) rs place h
stays Correction regular corrections count rs (suc (suc k)) place h = refl

module _ (kind : Filable) (regular corrections : List ℕ) (n : ℕ) (rs : List (List ℕ)) (short : all (shorter (slot_width kind)) rs ≡ true) (room : (n + length rs) * slot_width kind ≤ length (journal_of kind regular corrections)) where
  -- the new ones stand behind them
  behind : (i : ℕ) → i < length rs → records_at (regular_with kind regular n rs) (corrections_with kind corrections n rs) (kind_number kind) (n + i) ≡ get_or rs i []
  behind i h = go kind short room
    where
      go : (kind : Filable) → all (shorter (slot_width kind)) rs ≡ true → (n + length rs) * slot_width kind ≤ length (journal_of kind regular corrections)
          → records_at (regular_with kind regular n rs) (corrections_with kind corrections n rs) (kind_number kind) (n + i) ≡ get_or rs i []
      go Default s r = unfold records_at in record-new 45 regular n rs s r i h
      go Correction s r = unfold records_at in record-new 98 corrections n rs s r i h

-- ---- the new slots hold records in their layout
report-slot : (r : List ℕ) → is_record FileKind.Default r ≡ true → good_report (slot_of 45 r) ≡ true
unfolding good_report is_record
report-slot r e = rw (slot_kept 45 r (is-shorter 45 r (record-short Default r e)), held-slot 45 r) e

correction-slot : (r : List ℕ) → is_record FileKind.Correction r ≡ true → good_correction (slot_of 98 r) ≡ true
unfolding good_correction is_record
correction-slot r e = rw (slot_kept 98 r (is-shorter 98 r (record-short Correction r e)), held-slot 98 r) e

-- a journal with more records, or with as many as before
module _ (good : List ℕ → Bool) (width : ℕ) (j : List ℕ) (n k : ℕ) (before : all good (table n (slot_at 0 width j)) ≡ true) where
  as_before : k ≡ n + 0 → all good (table k (slot_at 0 width j)) ≡ true
  as_before e = ap (λ (c : ℕ). all good (table c (slot_at 0 width j))) (e ∙ add-zero n) ∙ before

  grown : (rs : List (List ℕ)) (test : List ℕ → Bool) → k ≡ n + length rs → ((r : List ℕ) → test r ≡ true → good (slot_of width r) ≡ true) → all test rs ≡ true
      → all (shorter width) rs ≡ true → (n + length rs) * width ≤ length j → all good (table k (slot_at 0 width (journal_with width j n rs))) ≡ true
  grown rs test e slots tested short room =
      ap (λ (c : ℕ). all good (table c (slot_at 0 width (journal_with width j n rs)))) e
      ∙ all-stored width j n rs short room good before (λ i h. slots (get_or rs i []) (all-at test rs i [] tested h))

-- ---- a file that may be entered
module _ {b : Buffers} {kind : Filable} {publisher day : ℕ} {text : List ℕ} {m : ℕ} (w : Enterable b kind publisher day text m) where
  abbrev file : Filed
  file = filed_as kind publisher day text

  abbrev texts : List (List ℕ)
  texts = texts_of (file_kind kind) text

  abbrev place : ℕ
  place = records_of (kind_number kind) (files_of b.files)

  before : Parts b
  before = parts b w.readable

  lengths : Long b
  lengths = long b before.long-enough

  size : length texts ≡ m
  size = records-count kind text m w.judged

  pub enterable-ready : Ready b.files b.regular b.corrections kind text m
  enterable-ready = record {
    judged = w.judged;
    slot = w.slot;
    room = w.room;
    long-files = lengths.long-files;
    long-regular = lengths.long-regular;
    long-corrections = lengths.long-corrections;
  }

  -- there is room for the records
  room_for : (place + length texts) * slot_width kind ≤ length (journal_of kind b.regular b.corrections)
  room_for = go kind (omega (arith, w.room, size))
    where
      go : (k : Filable) → place + length texts ≤ most k → (place + length texts) * slot_width k ≤ length (journal_of k b.regular b.corrections)
      go Default h = omega (arith, lengths.long-regular)
      go Correction h = omega (arith, lengths.long-corrections)

  -- ---- the list of files
  roomy : Roomy (file_in file)
  unfolding file_in filed_as
  roomy = record { publisher-fits = omega (arith, w.code); day-fits = omega (arith, leb-true day 18992 w.date); count_fits = omega (arith, size, w.room, few kind) }

  in-range : good_file (file_in file) ≡ true
  unfolding good_file file_in filed_as
  in-range = rw (low kind, le-leb publisher 999 w.code) w.date
    where
      low : (k : Filable) → leb (kind_number k) 1 ≡ true
      low Default = refl
      low Correction = refl

  -- how many records of a kind it has
  own : (k : ℕ) → records_in k (file_in file) ≡ cond (eqb (kind_number kind) k) (length texts) 0
  unfolding records_in file_in filed_as
  own k = refl

  pub files-listed : files_of (files_with b.files (file_in file)) ≡ files_of b.files ++ (file_in file ∷ [])
  files-listed = files-more b.files (file_in file) roomy w.slot lengths.long-files

  counts : (k : ℕ) → records_of k (files_of (files_with b.files (file_in file))) ≡ records_of k (files_of b.files) + cond (eqb (kind_number kind) k) (length texts) 0
  counts k = records-more b.files (file_in file) roomy w.slot lengths.long-files k ∙ ap (λ (c : ℕ). records_of k (files_of b.files) + c) (own k)

  still-listed : Listed (files_with b.files (file_in file))
  still-listed =
      let old = listed b.files before.good-files in
      listed_more b.files (file_in file) roomy w.slot lengths.long-files old in-range w.new
      (rw (own 0) (reports kind old.reports (omega (arith, size, w.room))))
      (rw (own 1) (objections kind old.corrections (omega (arith, size, w.room))))
    where
      reports : (k : Filable) → records_of 0 (files_of b.files) ≤ 8192 → records_of (kind_number k) (files_of b.files) + length texts ≤ most k
          → records_of 0 (files_of b.files) + cond (eqb (kind_number k) 0) (length texts) 0 ≤ 8192
      reports Default o h = h
      reports Correction o h = omega arith

      objections : (k : Filable) → records_of 1 (files_of b.files) ≤ 2048 → records_of (kind_number k) (files_of b.files) + length texts ≤ most k
          → records_of 1 (files_of b.files) + cond (eqb (kind_number k) 1) (length texts) 0 ≤ 2048
      objections Default o h = omega arith
      objections Correction o h = h

  -- ---- the journals
  abbrev Room : Filable → Type 0
  Room k = (records_of (kind_number k) (files_of b.files) + length texts) * slot_width k ≤ length (journal_of k b.regular b.corrections)

  reports-good : all good_report (table (records_of 0 (files_of (files_with b.files (file_in file)))) (slot_at 0 45 (regular_with kind b.regular place texts))) ≡ true
  reports-good = go kind (counts 0) (records-good kind text m w.judged) (records-short kind text m w.judged) room_for
    where
      n : ℕ
      n = records_of 0 (files_of (files_with b.files (file_in file)))

      go : (k : Filable) → n ≡ records_of 0 (files_of b.files) + cond (eqb (kind_number k) 0) (length texts) 0 → all (is_record (file_kind k)) texts ≡ true → all (shorter (slot_width k)) texts ≡ true → Room k
          → all good_report (table n (slot_at 0 45 (regular_with k b.regular (records_of (kind_number k) (files_of b.files)) texts))) ≡ true
      go Default e g s r = grown good_report 45 b.regular (records_of 0 (files_of b.files)) n before.good-reports texts (is_record FileKind.Default) e report-slot g s r
      go Correction e g s r = as_before good_report 45 b.regular (records_of 0 (files_of b.files)) n before.good-reports e

  corrections-good : all good_correction (table (records_of 1 (files_of (files_with b.files (file_in file)))) (slot_at 0 98 (corrections_with kind b.corrections place texts))) ≡ true
  corrections-good = go kind (counts 1) (records-good kind text m w.judged) (records-short kind text m w.judged) room_for
    where
      n : ℕ
      n = records_of 1 (files_of (files_with b.files (file_in file)))

      go : (k : Filable) → n ≡ records_of 1 (files_of b.files) + cond (eqb (kind_number k) 1) (length texts) 0 → all (is_record (file_kind k)) texts ≡ true → all (shorter (slot_width k)) texts ≡ true → Room k
          → all good_correction (table n (slot_at 0 98 (corrections_with k b.corrections (records_of (kind_number k) (files_of b.files)) texts))) ≡ true
      go Default e g s r = as_before good_correction 98 b.corrections (records_of 1 (files_of b.files)) n before.good-corrections e
      go Correction e g s r = grown good_correction 98 b.corrections (records_of 1 (files_of b.files)) n before.good-corrections texts (is_record FileKind.Correction) e correction-slot g s r

  still-long : long_enough (with_file kind publisher day text b) ≡ true
  unfolding long_enough
  still-long =
      rw (
        length-files b.files (file_in file),
        length-regular kind b.regular place texts,
        length-corrections kind b.corrections place texts,
      )
      before.long-enough

  -- ---- the buffers still read as a store
  pub entered-readable : is_readable (entered file b) ≡ true
  entered-readable =
      ap is_readable (sym (entered-as kind publisher day text b))
      ∙ parts-read (with_file kind publisher day text b)
      (record {
        long-enough = still-long;
        good-table = before.good-table;
        good-files = listed-test (files_with b.files (file_in file)) still-listed;
        good-reports = reports-good;
        good-corrections = corrections-good;
        good-entries = before.good-entries;
      })

  -- every stored record keeps its bytes and its place
  pub entered-stays : (k i : ℕ) → i < records_of k (files_of b.files) → records_at (entered file b).regular (entered file b).corrections k i ≡ records_at b.regular b.corrections k i
  entered-stays k i h =
      ap (λ (c : Buffers). records_at c.regular c.corrections k i) (sym (entered-as kind publisher day text b))
      ∙ stays kind b.regular b.corrections (λ (n : ℕ). records_of n (files_of b.files)) texts k i h

  -- and the new ones stand behind them
  entered-behind : (i : ℕ) → i < length texts → records_at (entered file b).regular (entered file b).corrections (kind_number kind) (place + i) ≡ get_or texts i []
  entered-behind i h =
      ap (λ (c : Buffers). records_at c.regular c.corrections (kind_number kind) (place + i)) (sym (entered-as kind publisher day text b))
      ∙ behind kind b.regular b.corrections place texts (records-short kind text m w.judged) room_for i h

  -- so one file more has been filed
  pub entered-files : read_files (entered file b).files (entered file b).regular (entered file b).corrections ≡ read_files b.files b.regular b.corrections ++ (file ∷ [])
  unfolding first_files files_of entered file_in filed_as
  entered-files =
      ap (filed_in (records_at (entered file b).regular (entered file b).corrections) []) files-listed
      ∙ filed-more (records_at b.regular b.corrections) (records_at (entered file b).regular (entered file b).corrections) (files_of b.files) file entered-stays entered-behind
