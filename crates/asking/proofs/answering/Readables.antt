-- A store that reads can be shown from, and what a look shows of it is its answer. Assumes nothing.
use Rattle.std.specs.Prelude.{Option, Some, Result, Ok, Err}
use mathlib.Core.Path.{◌≡◌, refl, sym, ap, ◌∙◌}
use mathlib.Core.Bool.{Bool, true, cond}
use mathlib.Core.List.{List}
use Prim.Native.Nat.{ℕ, ◌+◌, ◌*◌, ◌≤◌}
use native.Mathlib.Omega.{arith}
use lib.ListN.{length}
use borrow.Author.Tests.{le-leb}
use Rattle.laws.specs.Lists.{table}
use Rattle.fields.specs.declared.number.Number.{Number}
use Rattle.store.specs.journals.Reads.{read_files}
use Rattle.store.specs.declared.journals.records.Journal.{Journal}
use Rattle.store.specs.numbers.Lines.{line_count}
use Rattle.store.specs.entry_slots.Entries.{entry_at}
use Rattle.store.specs.Reads.{Buffers, Held, lent, held, is_readable, reads}
use Rattle.store.proofs.Checks.{Long, long, few-lines, few-files, few-reports, few-corrections, reads-some}
use Rattle.store.proofs.Whole.{whole_long, whole-table, whole-files, files-good}
use Rattle.asking.specs.declared.answer.NotShown.{NotShown}
use Rattle.asking.specs.declared.answer.NoRecord.{NoRecord}
use Rattle.asking.specs.declared.looks.NotSeen.{NotSeen}
use Rattle.asking.specs.declared.looks.RecordNotSeen.{RecordNotSeen}
use Rattle.asking.specs.declared.record.ShownRecord.{ShownRecord}
use Rattle.asking.specs.Showable.{is_showable}
use Rattle.asking.specs.Standing.{lines_in, has_entries, entry_in, entry_before}
use Rattle.asking.specs.Why.{why_in}
use Rattle.asking.specs.Record.{asked_in}
use Rattle.asking.specs.Looks.{look_of, answer_of, record_look, record_answer, entry_looked, before_looked, why_looked, record_looked}
use Rattle.asking.proofs.Showing.{Showable, showable-true}
use Rattle.asking.specs.answering.Whole.{entry_asked, before_asked, why_asked, record_asked}

-- ---- a look that shows what an answer shows is turned into that answer
answer_back : {A : Type 0} (a : Result A NotShown) → answer_of (look_of a) ≡ a
answer_back (Ok x) = refl
answer_back (Err NotShown.UnknownNumber) = refl
answer_back (Err NotShown.Unreadable) = refl

record-back : (a : Result ShownRecord NoRecord) → record_answer (record_look a) ≡ a
record-back (Ok s) = refl
record-back (Err NoRecord.Beyond) = refl
record-back (Err NoRecord.Unreadable) = refl

module _ (t f r c e : List ℕ) where
  -- the buffers
  abbrev b : Buffers
  b = lent t f r c e

  module _ (whole : is_readable b ≡ true) where
    room : Long b
    room = long b (whole_long b whole)

    few : line_count t ≤ 1024
    few = few-lines t (whole-table b whole)

    pub readable_showable : Showable t f r c
    readable_showable = record {
      long-table = room.long-table;
      long-files = room.long-files;
      long-regular = room.long-regular;
      long-corrections = room.long-corrections;
      few-lines = few;
      range = record {
        few = few-files f (whole-files b whole);
        good = files-good f (whole-files b whole);
        reports = few-reports f (whole-files b whole);
        objections = few-corrections f (whole-files b whole);
      };
    }

    pub showing : is_showable t f r c ≡ true
    showing = showable-true t f r c readable_showable

    pub entries_too : has_entries t e ≡ true
    unfolding has_entries
    entries_too = rw (le-leb 14338 _ room.long-table, le-leb 102400 _ room.long-entries, le-leb (line_count t) 1024 few)

    -- there is room for all lines and their entries
    pub lines_room : (m : ℕ) → m ≡ line_count t → (2 + m * 14 ≤ length t) × (m * 100 ≤ length e) × (m ≤ 1024)
    lines_room m q = (omega (arith, room.long-table, few, q), omega (arith, room.long-entries, few, q), omega (arith, few, q))

    read : reads b ≡ Some (held b)
    read = reads-some b whole

    -- ---- the answers of a store that reads: what a look shows of it
    pub entry_answers : (x : Number) → answer_of (entry_looked t e x) ≡ entry_asked (reads b) (Some x)
    unfolding held entry_looked
    entry_answers x =
        ap (λ (u : Bool). answer_of (cond u (look_of (entry_in (lines_in t) (table (line_count t) (entry_at e)) x)) (Err NotSeen.Unshowable))) entries_too
        ∙ answer_back (entry_in (lines_in t) (table (line_count t) (entry_at e)) x) ∙ ap (λ (h : Option Held). entry_asked h (Some x)) (sym read)

    pub before_answers : (n : ℕ) (x : Number) → answer_of (before_looked t f r c n x) ≡ before_asked (reads b) n (Some x)
    unfolding held before_looked
    before_answers n x =
        ap (λ (u : Bool). answer_of (cond u (look_of (entry_before (lines_in t) (read_files f r c) n x)) (Err NotSeen.Unshowable))) showing
        ∙ answer_back (entry_before (lines_in t) (read_files f r c) n x) ∙ ap (λ (h : Option Held). before_asked h n (Some x)) (sym read)

    pub why_answers : (x : Number) → answer_of (why_looked t f r c x) ≡ why_asked (reads b) (Some x)
    unfolding held why_looked
    why_answers x =
        ap (λ (u : Bool). answer_of (cond u (look_of (why_in (lines_in t) (read_files f r c) x)) (Err NotSeen.Unshowable))) showing
        ∙ answer_back (why_in (lines_in t) (read_files f r c) x) ∙ ap (λ (h : Option Held). why_asked h (Some x)) (sym read)

    pub record_answers : (which : Journal) (place : ℕ) → record_answer (record_looked t f r c which place) ≡ record_asked (reads b) which place
    unfolding held record_looked
    record_answers which place =
        ap (λ (u : Bool). record_answer (cond u (record_look (asked_in (lines_in t) (read_files f r c) which place)) (Err RecordNotSeen.Unshowable))) showing
        ∙ record-back (asked_in (lines_in t) (read_files f r c) which place) ∙ ap (λ (h : Option Held). record_asked h which place) (sym read)
