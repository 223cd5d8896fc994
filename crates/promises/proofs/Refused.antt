-- What a refusal leaves, function by function. Assumes nothing.
use Rattle.std.specs.Prelude.{Option, Some, None}
use Rattle.std.specs.Prelude.{Result, Ok, Err}
use Rattle.std.specs.Prelude.{Err, Result, Option, Some, None, Ok}
use Rattle.records.specs.declared.names.written.NotWritten.{NotWritten}
use mathlib.Core.Path.{◌≡◌, refl, ap, ◌∙◌}
use mathlib.Core.Bool.{Bool, true, false, cond, not}
use mathlib.Core.List.{List, [], ◌∷◌}
use Prim.Native.Nat.{ℕ}
use borrow.Author.Tests.{ne_eqb}
use lib.ListN.{length}
use Rattle.laws.specs.Lists.{first_line}
use Rattle.laws.specs.Overlay.{overlay}
use Rattle.records.specs.names.Written.{after_writing}
use Rattle.store.specs.Reads.{Buffers, Held, held, long_enough}
use Rattle.store.specs.declared.numbers.lines.Line.{Line}
use Rattle.starting.specs.declared.start.NotStarted.{NotStarted}
use Rattle.starting.specs.tables.Given.{table_of}
use Rattle.starting.specs.Start.{answer_of, start_answer, Starts}
use Rattle.starting.proofs.Readable.{refused-stays}
use Rattle.filing.specs.declared.entering.kind.Filable.{Filable}
use Rattle.filing.specs.declared.checking.answer.NotFiled.{NotFiled}
use Rattle.filing.specs.checking.Filing.{Decision, Refuse, Accept, decide}
use Rattle.filing.specs.Effect.{answer_to, buffers_after, Files}
use Rattle.entries.specs.declared.entry.Entry.{Entry}
use Rattle.asking.specs.Numbers.{entry_told}
use Rattle.asking.specs.declared.answer.NotShown.{NotShown}
use Rattle.asking.specs.declared.answer.Unreadable.{Unreadable}
use Rattle.std.specs.Prelude.{Result}
use Rattle.reworking.specs.Reworking.{all_files, rework_answer, entries_after, list_after, with_room, Reworks}
use Rattle.capi.specs.Starting.{StartsAs}
use Rattle.capi.specs.Offer.{filable_by, day_for, answered, FilesAs}
use Rattle.capi.specs.Again.{rework_of, ReworksAs}
use Rattle.capi.specs.Show.{shown_number, shown_into, ShowsEntry}
use Rattle.promises.specs.Numbers.{started_number, filed_number, reworked_number, wrote_number}
use Rattle.promises.specs.Filed.{is_no_table, starting_table}
use Rattle.promises.specs.Calls.{bytes_of, Call, start, start-c, file, file-c, rework, rework-c, write, write-c, show-c}

-- ---- what other languages call is what the library does
pub starts-c : {text : List ℕ} {before after : Buffers} {answer more : ℕ} → StartsAs text before answer more after → Starts text before (start_answer text before) after
starts-c s = record { answers = refl; leaves = s.leaves }

pub files-c : {b after : Buffers} {kind : ℕ} {publisher : List ℕ} {day : ℕ} {text : List ℕ} {answer more field cause : ℕ} → FilesAs b kind publisher day text answer more field cause after
    → Files b (filable_by kind) publisher (day_for kind day) text (answered b kind publisher day text) after
files-c s = record { answers = refl; leaves = s.leaves }

pub reworks-c : {b : Buffers} {list : List ℕ} {answer more : ℕ} {entries listed : List ℕ} → ReworksAs b list answer more entries listed
    → Reworks b all_files list (rework_of (with_room list b)) entries listed
reworks-c s = record { answers = refl; leaves = s.leaves; lists = s.lists }

-- ---- starting
start-stays : {text : List ℕ} {before after : Buffers} {answer : Result ℕ NotStarted} → Starts text before answer after → (started_number answer ≡ 0 → ⊥) → after ≡ before
start-stays {text} {before} {after} {answer} s not-0 = refused-stays text before after answer s (λ n e. not-0 (ap started_number e))

pub start-by-table : {text : List ℕ} {before after : Buffers} {answer : Result ℕ NotStarted} → Starts text before answer after → started_number answer ≡ first_line (starting_table text before) 0
unfolding start_answer
start-by-table {text} {before} s = ap started_number s.answers ∙ go (long_enough before) (table_of text)
  where
    go : (t : Bool) (o : Option (List Line)) → started_number (cond t (answer_of o) (Err NotStarted.Short)) ≡ first_line ((not t, 44) ∷ (is_no_table o, 6) ∷ []) 0
    go true (Some lines) = refl
    go true None = refl
    go false (Some lines) = refl
    go false None = refl

-- ---- filing
file-stays : {b after : Buffers} {kind : Filable} {publisher : List ℕ} {day : ℕ} {text : List ℕ} {answer : Result ℕ NotFiled} → Files b kind publisher day text answer after
    → (filed_number answer ≡ 0 → ⊥) → after ≡ b
file-stays {b} {after} {kind} {publisher} {day} {text} {answer} s not-0 = go (decide b kind publisher day text) s.answers s.leaves
  where
    go : (d : Decision) → answer ≡ answer_to (held b).files d → after ≡ buffers_after b d → after ≡ b
    go (Refuse a) q l = l
    go (Accept f) q l = absurd (not-0 (ap filed_number q))

-- ---- reworking
pub rework-stays : {b : Buffers} {n : ℕ} {list : List ℕ} {answer : Result ℕ Unreadable} {entries listed : List ℕ} → Reworks b n list answer entries listed
    → (reworked_number answer ≡ 0 → ⊥) → (entries ≡ b.entries) × (listed ≡ list)
rework-stays {b} {n} {list} {answer} {entries} {listed} s not-0 = go (with_room list b) s.answers s.leaves s.lists
  where
    go : (o : Option Held) → answer ≡ rework_answer n o → entries ≡ entries_after n o b.entries → listed ≡ list_after n o list → (entries ≡ b.entries) × (listed ≡ list)
    go None q e l = (e, l)
    go (Some h) q e l = absurd (not-0 (ap reworked_number q))

-- ---- writing
written-stays : (right : Result ℕ NotWritten) (text before after : List ℕ) → after ≡ after_writing right text before → (wrote_number right ≡ 0 → ⊥) → after ≡ before
written-stays (Ok n) text before after e not-0 = absurd (not-0 refl)
written-stays (Err (NotWritten.Fault place)) text before after e not-0 = e
written-stays (Err NotWritten.Long) text before after e not-0 = e

-- ---- showing
shown-stays : {a : Result Entry NotShown} {before after : List ℕ} {answer : ℕ} → ShowsEntry a before answer after → (answer ≡ 0 → ⊥) → after ≡ before
unfolding shown_into
shown-stays {a} {before} {after} {answer} s not-0 =
    s.leaves
    ∙ ap (λ (t : Bool). cond t (overlay before 0 (entry_told a).values) before) (ne_eqb (shown_number a (length before)) 0 (λ e. not-0 (s.answers ∙ e)))

-- ---- every call
pub refused : {number : ℕ} {before after : List (List ℕ)} → Call number before after → (number ≡ 0 → ⊥) → after ≡ before
refused (start s) not-0 = ap bytes_of (start-stays s not-0)
refused (start-c s) not-0 = ap bytes_of (start-stays (starts-c s) (λ e. not-0 (s.answers ∙ e)))
refused (file s) not-0 = ap bytes_of (file-stays s not-0)
refused (file-c s) not-0 = ap bytes_of (file-stays (files-c s) (λ e. not-0 (s.answers ∙ e)))
refused (rework s) not-0 = let w = rework-stays s not-0 in λ i. w.0 i ∷ w.1 i ∷ []
refused (rework-c s) not-0 = let w = rework-stays (reworks-c s) (λ e. not-0 (s.answers ∙ e)) in λ i. w.0 i ∷ w.1 i ∷ []
refused (write {right} {answer} {text} {before} {after} s) not-0 = ap (λ (l : List ℕ). l ∷ []) (written-stays right text before after s.bytes (λ e. not-0 (ap wrote_number s.answer ∙ e)))
refused (write-c {right} {text} {before} {after} s) not-0 = ap (λ (l : List ℕ). l ∷ []) (written-stays right text before after s.bytes (λ e. not-0 (s.answers ∙ e)))
refused (show-c s) not-0 = ap (λ (l : List ℕ). l ∷ []) (shown-stays s not-0)
