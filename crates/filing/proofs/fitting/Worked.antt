-- An entry that is worked out from a store that reads as one is in range. Assumes nothing.
--     worked-fine     from any files whose days are in the calendar and that have few records
--     filed-fine      of a list of files that reads, each is such a file
--     worked-fits     so over the first files, as many as are asked for, and each line of the table
--     all-fits        and over all files
use mathlib.Core.Path.{◌≡◌, refl, sym, ap, subst, ◌∙◌}
use mathlib.Core.Bool.{true, ◌&&◌}
use mathlib.Core.List.Memᴰ
use mathlib.Core.List.{List, [], ◌∷◌, ◌++◌, Memᴰ}
use Prim.Native.Nat.{ℕ, zero, suc, ◌+◌, ◌≤◌, ◌<◌}
use native.Mathlib.Omega.{arith}
use borrow.Author.Tests.{leb-true, eq-eqb}
use lib.Dec.{leb}
use lib.ListN.{length, get_or, take}
use lib.Seq.{take-length}
use Rattle.laws.specs.Lists.{table, keep}
use Rattle.laws.proofs.Lists.{mem_below, mem-keep, mem-take, all-mem, total-mem}
use Rattle.laws.proofs.Order.{mem-in_order}
use Rattle.laws.proofs.Tables.{length-table, get_or-table, all-at}
use Rattle.laws.proofs.Tests.{and_left}
use Rattle.calendar.specs.Dates.{in_calendar}
use Rattle.fields.specs.declared.number.Number.{Number}
use Rattle.entries.specs.Entry.{first_entry}
use Rattle.model.specs.Rules.{TableLine, Event}
use Rattle.model.specs.Model.{Filed, event_at, events, journal, about, not_later, history, entry_over}
use Rattle.model.proofs.Files.{journal-file}
use Rattle.rules.specs.Rules.{rules, record_of, line_by}
use Rattle.store.specs.journals.Files.{file_count, file_at, files_of, good_file, records_in, records_of}
use Rattle.store.specs.journals.Reads.{records_at, filed_after, filed_in, first_files, read_files}
use Rattle.store.specs.declared.journals.files.File.{File}
use Rattle.store.proofs.journals.Keys.{good-day}
use Rattle.store.specs.numbers.Lines.{line_count, line_at, lines_of, good_line}
use Rattle.store.proofs.numbers.Fitting.{good-owner}
use Rattle.store.proofs.entry_slots.Back.{FineEntry, first_fine}
use Rattle.store.specs.Reads.{Buffers, table_line, good_table, good_files, is_readable}
use Rattle.store.proofs.Checks.{few-reports, few-corrections}
use Rattle.store.proofs.Whole.{whole-table, whole-files, lines-good, files-good}
use Rattle.filing.proofs.fitting.Steps.{FineRecord, fine-along}
use Rattle.filing.proofs.fitting.Records.{says-fine}

-- ---- a file in range
pub record FineFiled (f : Filed) : Type 0 where
  pub day-in : f.day ≤ 18992
  pub few : length f.records ≤ 8192

event-fine : (f : Filed) (e : Event) → FineFiled f → Memᴰ e (events f) → FineRecord (record_of e)
unfolding events
event-fine f e g m =
    let w = mem_below (length f.records) (event_at f) m in
    let at : w.0 < length f.records = w.1 in
    let few = g.few in
    subst (λ (d : Event). FineRecord (record_of d)) (sym w.2)
    (record { day-in = g.day-in; at_in = omega arith; says-in = says-fine f.kind (get_or f.records w.0 []) })

pub worked-fine : (files : List Filed) (line : TableLine Number) → line.owner ≤ 999 → ((f : Filed) → Memᴰ f files → FineFiled f) → FineEntry (entry_over rules files line)
unfolding entry_over history
worked-fine files line o each =
    fine-along (line_by line) record_of (history rules files line.number) (first_entry (line_by line)) o (first_fine (line_by line) o)
    (λ e m. let w = journal-file files (mem-keep (about rules line.number) (journal files) (mem-in_order (not_later rules) (keep (about rules line.number) (journal files)) m)) in
    event-fine w.0 e (each w.0 w.1) w.2)

-- ---- the files that the buffers read as: each as its slot tells
filed-from : {f : Filed} (r : ℕ → ℕ → List ℕ) (before gs : List File) → Memᴰ f (filed_in r before gs)
    → (g : File) × Memᴰ g gs × (f.day ≡ g.day) × (length f.records ≡ g.count)
unfolding filed_in filed_after
filed-from r before [] m = absurd (Memᴰ.not-nil m)
filed-from r before (g ∷ gs) (Memᴰ.head e) = (
  g,
  Memᴰ.head refl,
  ap (λ (h : Filed). h.day) e,
  ap (λ (h : Filed). length h.records) e ∙ length-table g.count (λ (i : ℕ). r g.kind (records_of g.kind before + i)),
)
filed-from r before (g ∷ gs) (Memᴰ.tail m) = let w = filed-from r (before ++ (g ∷ [])) gs m in (w.0, Memᴰ.tail w.1, w.2, w.3)

module _ (files : List ℕ) (e : good_files files ≡ true) where
  module _ (g : File) (m : Memᴰ g (files_of files)) where
    good : good_file g ≡ true
    good = all-mem good_file (files_of files) (files-good files e) m

    kind-good : g.kind ≤ 1
    unfolding good_file
    kind-good = leb-true g.kind 1 (and_left (leb g.kind 1) (leb g.publisher 999 && in_calendar g.day) good)

    counted : (kind : ℕ) → g.kind ≡ kind → g.count ≤ records_of kind (files_of files)
    unfolding records_of records_in
    counted kind q = let h = total-mem (records_in kind) (files_of files) m in rw (eq-eqb g.kind kind q) at h

    count-few : g.count ≤ 8192
    count-few = go g.kind refl kind-good
      where
        go : (k : ℕ) → g.kind ≡ k → k ≤ 1 → g.count ≤ 8192
        go zero q h = omega (arith, counted 0 q, few-reports files e)
        go (suc zero) q h = omega (arith, counted 1 q, few-corrections files e)
        go (suc (suc k)) q h = absurd (omega arith)

  pub filed-fine : (regular corrections : List ℕ) (f : Filed) → Memᴰ f (read_files files regular corrections) → FineFiled f
  unfolding first_files files_of
  filed-fine regular corrections f m =
      let w = filed-from (records_at regular corrections) [] (table (file_count files) (file_at files)) m in
      record { day-in = omega (arith, w.2, good-day w.0 (good w.0 w.1)); few = omega (arith, w.3, count-few w.0 w.1) }

-- ---- the lines of the table
owner-in : (t : List ℕ) → good_table t ≡ true → (k : ℕ) → k < line_count t → (line_at t k).owner.0 ≤ 999
unfolding lines_of
owner-in t e k h =
    good-owner (line_at t k)
    (ap good_line (sym (get_or-table (line_count t) k (line_at t) (line_at t k) h))
    ∙ all-at good_line (lines_of t) k (line_at t k) (lines-good t e) (omega (arith, length-table (line_count t) (line_at t))))

-- ---- the store
module _ (b : Buffers) (e : is_readable b ≡ true) (k : ℕ) (h : k < line_count b.table) where
  pub worked-fits : (n : ℕ) → FineEntry (entry_over rules (take n (read_files b.files b.regular b.corrections)) (table_line (line_at b.table k)))
  worked-fits n =
      worked-fine (take n (read_files b.files b.regular b.corrections)) (table_line (line_at b.table k)) (owner-in b.table (whole-table b e) k h)
      (λ f m. filed-fine b.files (whole-files b e) b.regular b.corrections f (mem-take n (read_files b.files b.regular b.corrections) m))

  pub all-fits : FineEntry (entry_over rules (read_files b.files b.regular b.corrections) (table_line (line_at b.table k)))
  all-fits =
      subst (λ (fs : List Filed). FineEntry (entry_over rules fs (table_line (line_at b.table k)))) (take-length (read_files b.files b.regular b.corrections))
      (worked-fits (length (read_files b.files b.regular b.corrections)))
