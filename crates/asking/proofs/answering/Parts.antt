-- A part that is shown is the bytes of its record as the journal holds them. Assumes nothing.
--     part_bytes        the part at a place of a journal is the bytes of the record there
--     record-promise    the part that an answer shows is the bytes of the record whose verdict it shows
use Rattle.std.proofs.lemmas.Option.{none-some, same_Some}
use Rattle.std.specs.Prelude.{Option, Some, None, Result, Ok}
use mathlib.Core.Path.{◌≡◌, refl, sym, ap, ◌∙◌}
use mathlib.Core.Logic.{⊎_elim}
use mathlib.Core.Bool.{Bool, true, false}
use mathlib.Core.List.{List}
use Prim.Native.Nat.{ℕ, zero, suc, ◌+◌, ◌-◌, ◌≤◌, ◌<◌}
use native.Mathlib.Omega.{arith}
use Rattle.laws.specs.Lists.{table}
use Rattle.laws.proofs.Tests.{le-or-lt}
use Rattle.model.specs.Rules.{Event}
use Rattle.model.specs.Model.{journal_of}
use Rattle.store.specs.journals.Files.{file_at, file_count, files_of, records_in, records_of}
use Rattle.store.specs.journals.Reads.{records_at, read_files}
use Rattle.store.specs.journals.Records.{record_at, shown_in}
use Rattle.store.specs.declared.journals.files.File.{File}
use Rattle.store.specs.declared.journals.records.Journal.{Journal}
use Rattle.store.specs.declared.journals.records.Journal.TheVariants.{Regular, Correction}
use Rattle.store.proofs.journals.Places.{within}
use Rattle.store.specs.Reads.{Buffers, Held, lent, held, is_readable, reads}
use Rattle.store.proofs.Checks.{reads-some, reads_none}
use Rattle.working.specs.Working.{record_in}
use Rattle.working.proofs.SlipLaws.{records-more}
use Rattle.asking.specs.Items.{item_at}
use Rattle.asking.specs.Showable.{is_showable}
use Rattle.asking.specs.declared.answer.NoRecord.{NoRecord}
use Rattle.asking.specs.declared.record.ShownRecord.{ShownRecord}
use Rattle.asking.specs.Numbers.{asked_told}
use Rattle.asking.specs.Record.{kind_of, InFileAt, asked_as, asked_of, asked_in, part_shown}
use Rattle.asking.specs.answering.Whole.{record_asked}
use Rattle.asking.proofs.Records.{located, located-start, record-located, record-beyond}
use Rattle.asking.proofs.Showing.{Showable, showable}
use Rattle.asking.proofs.answering.Readables.{showing}

-- ---- each place of a journal is in a file
somewhere : (file : ℕ → File) (kind n place : ℕ) → place < records_of kind (table n file) → (k : ℕ) × (at : ℕ) × InFileAt file n kind place k at
somewhere file kind zero place h = absurd (omega (arith, located-start file kind place))
somewhere file kind (suc n) place h =
    ⊎_elim
    (λ (q : records_of kind (table n file) ≤ place).
    let at : ℕ = place - records_of kind (table n file) in
    (n, at, located file kind place n at (file n) (records_in kind (file n)) refl refl (omega arith) (suc n) (omega arith) (omega (arith, records-more kind n file))))
    (λ (q : place < records_of kind (table n file)).
    let w = somewhere file kind n place q in
    (w.0, w.1, record { listed = omega (arith, w.2.listed); same = w.2.same; within = w.2.within; sum = w.2.sum }))
    (le-or-lt (records_of kind (table n file)) place)

module _ (t f r c : List ℕ) (yes : is_showable t f r c ≡ true) where
  fit : Showable t f r c
  fit = showable t f r c yes

  few : (which : Journal) (place : ℕ) → place < records_of (kind_of which) (table (file_count f) (file_at f)) → shown_in which r c 8192 place ≡ records_at r c (kind_of which) place
  unfolding records_at record_at
  few Regular place h =
      let m : records_of 0 (table (file_count f) (file_at f)) ≤ 8192 = unfold files_of in fit.range.reports in
      sym (within 45 r place 8192 (omega (arith, m)) (omega (arith, m, fit.long-regular)))
  few Correction place h =
      let m : records_of 1 (table (file_count f) (file_at f)) ≤ 2048 = unfold files_of in fit.range.objections in
      sym (within 98 c place 8192 (omega (arith, m)) (omega (arith, m, fit.long-corrections)))

  bytes-in : (k at kind place : ℕ) → InFileAt (file_at f) (file_count f) kind place k at → (record_in f r c k at).bytes ≡ records_at r c kind place
  unfolding record_in
  bytes-in k at kind place w =
      ap (λ (j : ℕ). records_at r c j (records_of j (table k (file_at f)) + at)) w.same ∙ ap (records_at r c kind) w.sum

  pub part_bytes : (which : Journal) (place : ℕ) (e : Event) → item_at (journal_of (kind_of which) (read_files f r c)) place ≡ Some e → shown_in which r c 8192 place ≡ e.bytes
  part_bytes which place e q =
      ⊎_elim
      (λ (h : records_of (kind_of which) (table (file_count f) (file_at f)) ≤ place). absurd (none-some e (sym (record-beyond f r c (file_count f) (kind_of which) place h) ∙ q)))
      (λ (h : place < records_of (kind_of which) (table (file_count f) (file_at f))).
      let w = somewhere (file_at f) (kind_of which) (file_count f) place h in
      few which place h ∙ sym (bytes-in w.0 w.1 (kind_of which) place w.2)
      ∙ ap (λ (d : Event). d.bytes) (same_Some (record_in f r c w.0 w.1) e (sym (record-located f r c (file_count f) (kind_of which) place w.0 w.1 w.2) ∙ q)))
      (le-or-lt (records_of (kind_of which) (table (file_count f) (file_at f))) place)

-- ---- what an answer shows of a record: the record at that place of that journal, its verdict, its bytes
pub record RecordShown (b : Buffers) (which : Journal) (place : ℕ) (answer : Result ShownRecord NoRecord) : Type 0 where
  pub event : Event
  pub stored : item_at (journal_of (kind_of which) (held b).files) place ≡ Some event
  pub shown : answer ≡ Ok (record { journal = which; place = place; shown = asked_as (held b).lines (held b).files event })
  pub part : part_shown b.regular b.corrections answer ≡ event.bytes

module _ (t f r c e : List ℕ) (which : Journal) (place : ℕ) where
  -- the buffers, and what is answered
  abbrev b : Buffers
  b = lent t f r c e

  abbrev answer : Result ShownRecord NoRecord
  answer = record_asked (reads b) which place

  answer-by : is_readable b ≡ true → (o : Option Event) → item_at (journal_of (kind_of which) (held b).files) place ≡ o → answer ≡ asked_of (held b).lines (held b).files which place o
  unfolding asked_in
  answer-by whole o q = ap (λ (h : Option Held). record_asked h which place) (reads-some b whole) ∙ ap (asked_of (held b).lines (held b).files which place) q

  record-at : is_readable b ≡ true → (asked_told answer).number ≡ 0 → (o : Option Event) → item_at (journal_of (kind_of which) (held b).files) place ≡ o → RecordShown b which place answer
  record-at whole h None q = absurd (omega (arith, sym (ap (λ (a : Result ShownRecord NoRecord). (asked_told a).number) (answer-by whole None q)) ∙ h))
  record-at whole h (Some d) q = record {
    event = d;
    stored = q;
    shown = answer-by whole (Some d) q;
    part = ap (part_shown r c) (answer-by whole (Some d) q) ∙ (unfold held in part_bytes t f r c (showing t f r c e whole) which place d q);
  }

  -- an answer 0 shows a record, and its part is the bytes of that record
  pub record-promise : (asked_told answer).number ≡ 0 → RecordShown b which place answer
  record-promise h = go (is_readable b) refl
    where
      go : (w : Bool) → is_readable b ≡ w → RecordShown b which place answer
      go true whole = record-at whole h (item_at (journal_of (kind_of which) (held b).files) place) refl
      go false not = absurd (omega (arith, sym (ap (λ (s : Option Held). (asked_told (record_asked s which place)).number) (reads_none b not)) ∙ h))
