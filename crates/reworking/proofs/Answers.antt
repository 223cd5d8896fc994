-- What reworking answers and leaves: for a list without room, for buffers that don't read, and for a store. Assumes nothing.
use Rattle.std.specs.Prelude.{Option, Some, None}
use mathlib.Core.Path.{◌≡◌, sym, ap, ap₂, ◌∙◌}
use mathlib.Core.Bool.{Bool, true, false, cond}
use mathlib.Core.List.{List, map, flat_map}
use Prim.Native.Nat.{ℕ, ◌≤◌, ◌<◌}
use native.Mathlib.Omega.{arith}
use borrow.Author.Tests.{le-leb, lt-leb}
use lib.Dec.{ltb}
use lib.ListN.{length, get_or, take}
use Rattle.laws.specs.Lists.{table, keep}
use Rattle.laws.specs.Overlay.{overlay}
use Rattle.laws.proofs.Lists.{keep_same, mem_below}
use Rattle.laws.proofs.Tables.{length-table, get_or-table, map-table}
use Rattle.fields.specs.declared.number.Number.{Number}
use Rattle.model.specs.Rules.{TableLine}
use Rattle.model.specs.Model.{Filed}
use Rattle.store.specs.journals.Files.{file_count}
use Rattle.store.specs.journals.Reads.{read_files}
use Rattle.store.specs.numbers.Lines.{line_count, line_at, lines_of}
use Rattle.store.specs.entry_slots.Entries.{entry_at}
use Rattle.store.specs.Reads.{Buffers, Held, table_line, held, is_readable, reads}
use Rattle.store.proofs.Checks.{reads-some, reads_none}
use Rattle.store.proofs.entry_slots.Back.{length-entry}
use Rattle.filing.proofs.fitting.Worked.{worked-fits}
use Rattle.asking.proofs.Standings.{among_files}
use Rattle.asking.specs.answering.Figure.{differs}
use Rattle.asking.proofs.answering.Figures.{zip-table}
use Rattle.std.specs.Prelude.{Ok, Err}
use Rattle.reworking.specs.Reworking.{worked_slot, reworked_entries, places, changed_lines, rework_answer, entries_after, list_after, with_room, Reworks, line_of, changes, changes_to, Fitting, LinesReworked}

-- ---- the places listed line by line are those of the lines and entries side by side
pub changes-listed : (files : List Filed) (t entries : List ℕ) (m : ℕ) → changes_to files t entries m ≡ changed_lines files (table m (line_of t)) (table m (entry_at entries))
unfolding changes_to changed_lines places
changes-listed files t entries m =
    let tests : List Bool = table m (changes files t entries) in
    keep_same (changes files t entries) (λ (i : ℕ). get_or tests i false) (table m (λ (i : ℕ). i))
    (λ k mem. let w = mem_below m (λ (i : ℕ). i) mem in
    sym (get_or-table m k (changes files t entries) false (omega (arith, w.1, w.2))))
    ∙ ap (λ (n : ℕ). keep (λ (i : ℕ). get_or tests i false) (table n (λ (i : ℕ). i))) (sym (length-table m (changes files t entries)))
    ∙ ap places (sym (zip-table (differs files) m (line_of t) (entry_at entries)))

-- ---- in a store that reads, each entry worked out fits its slot
pub store-fitting : (b : Buffers) → is_readable b ≡ true → (n m : ℕ) → m ≡ line_count b.table → Fitting (take n (read_files b.files b.regular b.corrections)) b.table m
unfolding worked_slot
store-fitting b whole n m e k below = length-entry _ (worked-fits b whole k (omega (arith, e)) n)

-- ---- the answers
module _ (b : Buffers) (n : ℕ) (list : List ℕ) where
  pub rework-short : length list < 1024 → Reworks b n list (Err (record {})) b.entries list
  unfolding with_room
  rework-short h = record { answers = rw (lt-leb _ _ h); leaves = rw (lt-leb _ _ h); lists = rw (lt-leb _ _ h) }

  module _ (room : 1024 ≤ length list) where
    pub with-room : with_room list b ≡ reads b
    unfolding with_room
    with-room = rw (le-leb 1024 (length list) room)

    pub rework-unread : is_readable b ≡ false → Reworks b n list (Err (record {})) b.entries list
    rework-unread h =
        let e : with_room list b ≡ None = with-room ∙ reads_none b h in
        record { answers = ap (rework_answer n) (sym e); leaves = ap (λ (s : Option Held). entries_after n s b.entries) (sym e); lists = ap (λ (s : Option Held). list_after n s list) (sym e) }

    pub rework-done : is_readable b ≡ true → (k m count : ℕ) (after listed : List ℕ) → k ≡ cond (ltb n (file_count b.files)) n (file_count b.files) → m ≡ line_count b.table
        → LinesReworked (take k (read_files b.files b.regular b.corrections)) b.table m b.entries after list listed count → Reworks b n list (Ok count) after listed
    unfolding held lines_of reworked_entries
    rework-done h k m count after listed ek em done =
        let e : with_room list b ≡ Some (held b) = with-room ∙ reads-some b h in
        let fs = read_files b.files b.regular b.corrections in
        let files : take k fs ≡ take n fs = among_files b.files b.regular b.corrections n k ek in
        let lines : table m (line_of b.table) ≡ map table_line (lines_of b.table) = ap (λ (j : ℕ). table j (line_of b.table)) em ∙ sym (map-table table_line (line_count b.table) (line_at b.table)) in
        let listed-lines : changes_to (take k fs) b.table b.entries m ≡ changed_lines (take n fs) (map table_line (lines_of b.table)) (table (line_count b.table) (entry_at b.entries)) =
        changes-listed (take k fs) b.table b.entries m
        ∙ (λ i. changed_lines (files i) (lines i) (table (em i) (entry_at b.entries))) in record {
          answers = ap Ok (done.counted ∙ ap length listed-lines) ∙ ap (rework_answer n) (sym e);
          leaves = done.written ∙ ap₂ (λ (f : List Filed) (l : List (TableLine Number)). overlay b.entries 0 (flat_map (worked_slot f) l)) files lines ∙ ap (λ (s : Option Held). entries_after n s b.entries) (sym e);
          lists = done.laid ∙ ap (overlay list 0) listed-lines ∙ ap (λ (s : Option Held). list_after n s list) (sym e);
        }
