-- The record at a place of a journal is the one of its file. Assumes nothing.
use Rattle.std.specs.Prelude.{Option, Some, None, Ok, Err}
use mathlib.Core.Path.{◌≡◌, refl, sym, ap, ◌∙◌}
use mathlib.Core.Bool.{Bool, true, false, cond}
use mathlib.Core.List.{List, [], ◌∷◌, ◌++◌, flat_map}
use Prim.Native.Nat.{ℕ, zero, suc, ◌+◌, ◌-◌, ◌*◌, ◌≤◌, ◌<◌}
use native.Mathlib.Decide.{ℕ_discrete}
use native.Mathlib.Numerals.{add-one}
use native.Mathlib.Omega.{arith}
use borrow.Author.Tests.{eqb-true, ne_eqb}
use lib.Dec.{eqb}
use lib.ListN.{length, take, length-append, get_or-append}
use lib.Seq.{take_all}
use Rattle.laws.specs.Lists.{table, keep, total}
use Rattle.laws.proofs.Tables.{length-table, get_or-table}
use Rattle.fields.specs.declared.number.Number.{Number}
use Rattle.verdict.specs.declared.verdicts.Verdict.{Verdict}
use Rattle.model.specs.Rules.{Event, TableLine}
use Rattle.model.specs.Model.{Filed, event_at, events, journal, journal_of, line_of}
use Rattle.model.proofs.Files.{journal-own, journal-other}
use Rattle.store.specs.journals.Files.{file_at, file_count, records_in, records_of}
use Rattle.store.specs.journals.Reads.{filed_after, filed_in, first_files, read_files, records_at}
use Rattle.store.specs.declared.journals.files.File.{File}
use Rattle.store.specs.declared.journals.records.Journal.{Journal}
use Rattle.store.proofs.journals.FirstFiles.{filed-end}
use Rattle.rules.specs.Rules.{rules, record_of}
use Rattle.store.specs.numbers.Lines.{line_count, line_at}
use Rattle.store.specs.numbers.Find.{found_line}
use Rattle.store.specs.Reads.{table_line}
use Rattle.working.specs.Working.{record_in}
use Rattle.working.proofs.SlipLaws.{records-more, own-records, records-grow}
use Rattle.asking.specs.declared.looks.RecordNotSeen.{RecordNotSeen}
use Rattle.asking.specs.declared.record.ShownRecord.{ShownRecord}
use Rattle.asking.specs.declared.record.AskedRecord.{AskedRecord}
use Rattle.asking.specs.declared.record.Said.{Said}
use Rattle.asking.specs.Items.{item_at}
use Rattle.asking.specs.Showable.{is_showable}
use Rattle.asking.specs.Standing.{lines_in}
use Rattle.asking.specs.Record.{kind_of, InFileAt, said_by, point_verdict, asked_as, asked_of, asked_in}
use Rattle.asking.specs.Looks.{record_look, record_looked}
use Rattle.asking.proofs.Lines.{item-behind, item-at, item-none, item-table, found-line, no_line}
use Rattle.asking.proofs.Standings.{length-first}

-- ---- a turn of the search for the file
pub located-start : (file : ℕ → File) (kind place : ℕ) → records_of kind (table 0 file) + place ≡ place
unfolding table records_of total
located-start file kind place = omega arith

module _ (file : ℕ → File) (kind place k at : ℕ) (f : File) (count : ℕ) (e : f ≡ file k) (q : count ≡ records_in kind f) (inv : records_of kind (table k file) + at ≡ place) where
  pub located : (n : ℕ) → k < n → at < count → InFileAt file n kind place k at
  located n h b = go (eqb f.kind kind) refl
    where
      go : (t : Bool) → eqb f.kind kind ≡ t → InFileAt file n kind place k at
      go true s =
          let same : f.kind ≡ kind = eqb-true f.kind kind s in record {
            listed = h;
            same = ap (λ (g : File). g.kind) (sym e) ∙ same;
            within = omega (arith, q, own-records f kind same, ap (λ (g : File). g.count) e);
            sum = inv;
          }
      go false s =
          let None : records_in kind f ≡ 0 = unfold records_in in ap (λ (t : Bool). cond t f.count 0) s in
          absurd (omega (arith, q))

  pub located-on : count ≤ at → records_of kind (table (k + 1) file) + (at - count) ≡ place
  located-on b =
      let own : records_in kind (file k) ≡ count = ap (records_in kind) (sym e) ∙ sym q in
      omega (arith, ap (λ (n : ℕ). records_of kind (table n file)) (add-one k), records-more kind k file)

-- ---- the journal of a kind, file by file
item-left : {A : Type 0} (l m : List A) (i : ℕ) (d : A) → i < length l → item_at (l ++ m) i ≡ item_at l i
item-left l m i d h = item-at (l ++ m) i d (omega (arith, length-append l m)) ∙ ap Some (get_or-append l m d i h) ∙ sym (item-at l i d h)

module _ (r : ℕ → ℕ → List ℕ) (file : ℕ → File) (kind : ℕ) where
  -- the first n files, and the one behind them
  abbrev first : ℕ → List Filed
  first n = filed_in r [] (table n file)

  abbrev own : ℕ → Filed
  own n = filed_after r (table n file) (file n)

  next : (n : ℕ) → first (suc n) ≡ first n ++ (own n ∷ [])
  unfolding table
  next n = filed-end r [] (table n file) (file n)

  own-kind : (n : ℕ) → (own n).kind ≡ (file n).kind
  unfolding filed_after
  own-kind n = refl

  length-events : (n : ℕ) → length (events (own n)) ≡ (file n).count
  unfolding events filed_after
  length-events n =
      length-table (length (own n).records) (event_at (own n)) ∙ length-table (file n).count (λ (i : ℕ). r (file n).kind (records_of (file n).kind (table n file) + i))

  journal-yes : (n : ℕ) → (file n).kind ≡ kind → journal_of kind (first (suc n)) ≡ journal_of kind (first n) ++ events (own n)
  journal-yes n e = ap (journal_of kind) (next n) ∙ journal-own (first n) (own n) kind (own-kind n ∙ e)

  journal-no : (n : ℕ) → ((file n).kind ≡ kind → ⊥) → journal_of kind (first (suc n)) ≡ journal_of kind (first n)
  journal-no n e = ap (journal_of kind) (next n) ∙ journal-other (first n) (own n) kind (λ q. e (sym (own-kind n) ∙ q))

  none_in : (n : ℕ) → ((file n).kind ≡ kind → ⊥) → records_in kind (file n) ≡ 0
  unfolding records_in
  none_in n e = rw (ne_eqb (file n).kind kind e)

  start : length (journal_of kind (first 0)) ≡ records_of kind (table 0 file)
  unfolding table filed_in journal_of journal keep flat_map records_of total
  start = refl

  pub journal-length : (n : ℕ) → length (journal_of kind (first n)) ≡ records_of kind (table n file)
  journal-length zero = start
  journal-length (suc n) = elim (ℕ_discrete (file n).kind kind) [
    | yes e ↦ omega (arith, ap length (journal-yes n e), length-append (journal_of kind (first n)) (events (own n)), length-events n, journal-length n, records-more kind n file, own-records (file n) kind e)
    | no ne ↦ omega (arith, ap length (journal-no n ne), journal-length n, records-more kind n file, none_in n ne)
  ]

  event-in : (n i : ℕ) → i < (file n).count → item_at (events (own n)) i ≡ Some (event_at (own n) i)
  unfolding events
  event-in n i h = item-table (length (own n).records) i (event_at (own n)) (omega (arith, length-events n, length-table (length (own n).records) (event_at (own n))))

  pub journal-at : (n k i : ℕ) → k < n → (file k).kind ≡ kind → i < (file k).count → item_at (journal_of kind (first n)) (records_of kind (table k file) + i) ≡ Some (event_at (own k) i)
  journal-at zero k i h e b = absurd (omega arith)
  journal-at (suc n) k i h e b = elim (ℕ_discrete k n) [
    | yes same ↦ ap (λ (m : ℕ). item_at (journal_of kind (first (suc m))) (records_of kind (table k file) + i)) (sym same) ∙ here
    | no ne ↦ elim (ℕ_discrete (file n).kind kind) [
      | yes q ↦ ap (λ (l : List Event). item_at l (records_of kind (table k file) + i)) (journal-yes n q) ∙ item-left (journal_of kind (first n)) (events (own n)) (records_of kind (table k file) + i) (event_at (own k) i) (within n (omega arith)) ∙ journal-at n k i (omega arith) e b
      | no q ↦ ap (λ (l : List Event). item_at l (records_of kind (table k file) + i)) (journal-no n q) ∙ journal-at n k i (omega arith) e b
    ]
  ]
    where
      within : (m : ℕ) → k < m → records_of kind (table k file) + i < length (journal_of kind (first m))
      within m g = omega (arith, journal-length m, records-grow kind (suc k) m file (omega arith), records-more kind k file, own-records (file k) kind e)

      here : item_at (journal_of kind (first (suc k))) (records_of kind (table k file) + i) ≡ Some (event_at (own k) i)
      here =
          ap (λ (l : List Event). item_at l (records_of kind (table k file) + i)) (journal-yes k e)
          ∙ ap (λ (m : ℕ). item_at (journal_of kind (first k) ++ events (own k)) (m + i)) (sym (journal-length k))
          ∙ item-behind (journal_of kind (first k)) (events (own k)) i
          ∙ event-in k i b

  event-same : (k i : ℕ) → i < (file k).count → event_at (own k) i ≡ record { kind = (file k).kind; publisher = (file k).publisher; day = (file k).day; place = i; bytes = r (file k).kind (records_of (file k).kind (table k file) + i) }
  unfolding filed_after
  event-same k i h = λ j. record {
    kind = (file k).kind;
    publisher = (file k).publisher;
    day = (file k).day;
    place = i;
    bytes = get_or-table (file k).count i (λ (m : ℕ). r (file k).kind (records_of (file k).kind (table k file) + m)) [] h j;
  }

-- ---- in the buffers
module _ (f r c : List ℕ) (n kind place : ℕ) where
  pub record-located : (k at : ℕ) → InFileAt (file_at f) n kind place k at → item_at (journal_of kind (first_files n f r c)) place ≡ Some (record_in f r c k at)
  unfolding first_files record_in
  record-located k at w =
      ap (item_at (journal_of kind (first_files n f r c))) (sym w.sum)
      ∙ journal-at (records_at r c) (file_at f) kind n k at w.listed w.same w.within
      ∙ ap Some (event-same (records_at r c) (file_at f) kind k at w.within)

  pub record-beyond : records_of kind (table n (file_at f)) ≤ place → item_at (journal_of kind (first_files n f r c)) place ≡ None
  unfolding first_files
  record-beyond h = item-none (journal_of kind (first_files n f r c)) place (omega (arith, journal-length (records_at r c) (file_at f) kind n))

-- ---- what is shown
module _ (t f r c : List ℕ) (files : List Filed) (k at : ℕ) (room : 2 + line_count t * 14 ≤ length t) (s : Said) (said : s ≡ said_by (record_in f r c k at)) where
  -- what is shown of the record, with a verdict
  abbrev shown_with : Said → Verdict → AskedRecord
  shown_with u v = record { publisher = u.rec.publisher; day = u.rec.day; place = at; verdict = v }

  as-asked : (l : Option (TableLine Number)) → line_of rules (lines_in t) s.number ≡ l → shown_with (said_by (record_in f r c k at)) (point_verdict files (record_in f r c k at) (record_of (record_in f r c k at)) l) ≡ asked_as (lines_in t) files (record_in f r c k at)
  unfolding record_in
  as-asked l e =
      ap (λ (m : Option (TableLine Number)). shown_with (said_by (record_in f r c k at)) (point_verdict files (record_in f r c k at) (record_of (record_in f r c k at)) m))
      (sym e ∙ ap (λ (u : Said). line_of rules (lines_in t) u.number) said)

  pub asked_unknown : None ≡ found_line t s.number → shown_with s Verdict.UnknownNumber ≡ asked_as (lines_in t) files (record_in f r c k at)
  asked_unknown q = ap (λ (u : Said). shown_with u Verdict.UnknownNumber) said ∙ as-asked None (no_line t s.number room q)

  pub asked_here : (i : ℕ) → Some i ≡ found_line t s.number → (v : Verdict) → v ≡ point_verdict files (record_in f r c k at) s.rec (Some (table_line (line_at t i)))
      → shown_with s v ≡ asked_as (lines_in t) files (record_in f r c k at)
  asked_here i q v ev =
      ap (shown_with s) ev ∙ ap (λ (u : Said). shown_with u (point_verdict files (record_in f r c k at) u.rec (Some (table_line (line_at t i))))) said
      ∙ as-asked (Some (table_line (line_at t i))) (found-line t s.number room i q)

module _ (t f r c : List ℕ) (which : Journal) (place : ℕ) where
  pub record_unshowable : is_showable t f r c ≡ false → Err RecordNotSeen.Unshowable ≡ record_looked t f r c which place
  unfolding record_looked
  record_unshowable e = rw e

  module _ (yes : is_showable t f r c ≡ true) (n : ℕ) (en : n ≡ file_count f) where
    -- what is shown of a record at this place
    abbrev at-place : AskedRecord → ShownRecord
    at-place a = record { journal = which; place = place; shown = a }

    all-files : first_files n f r c ≡ read_files f r c
    all-files = ap (λ (k : ℕ). first_files k f r c) en

    pub asked_beyond : records_of (kind_of which) (table n (file_at f)) ≤ place → Err RecordNotSeen.Beyond ≡ record_looked t f r c which place
    unfolding record_looked asked_in
    asked_beyond h =
        rw yes
        (ap record_look
        (sym (ap (λ (fs : List Filed). asked_of (lines_in t) (read_files f r c) which place (item_at (journal_of (kind_of which) fs) place)) (sym all-files)
        ∙ ap (asked_of (lines_in t) (read_files f r c) which place) (record-beyond f r c n (kind_of which) place h))))

    pub asked_record : (k at : ℕ) (a : AskedRecord) → InFileAt (file_at f) n (kind_of which) place k at → a ≡ asked_as (lines_in t) (take n (read_files f r c)) (record_in f r c k at)
        → Ok (at-place a) ≡ record_looked t f r c which place
    unfolding record_looked asked_in
    asked_record k at a w ea =
        rw yes
        (ap record_look
        (ap (λ (b : AskedRecord). Ok (at-place b)) ea
        ∙ ap (λ (fs : List Filed). Ok (at-place (asked_as (lines_in t) fs (record_in f r c k at)))) (take_all n (read_files f r c) (omega (arith, length-first (file_count f) f r c)))
        ∙ sym (ap (λ (fs : List Filed). asked_of (lines_in t) (read_files f r c) which place (item_at (journal_of (kind_of which) fs) place)) (sym all-files)
        ∙ ap (asked_of (lines_in t) (read_files f r c) which place) (record-located f r c n (kind_of which) place k at w))))
