-- The list after reworking, over the buffers. Assumes nothing.
--     accepted         what is not 44 was asked of a store, with room for the list
--     places-rise      the places at which a test holds rise
--     listed-once      after answer 0 the list begins with the lines whose entry reads otherwise than before, each once
use Rattle.std.specs.Prelude.{Option, Some, None}
use mathlib.Core.Path.{◌≡◌, refl, sym, ap, ◌∙◌}
use mathlib.Core.Bool.{Bool, true, false, cond, not}
use mathlib.Core.List.{List, [], ◌∷◌, ◌++◌, map, Memᴰ}
use Prim.Native.Nat.{ℕ, zero, suc, ◌≤◌, ◌<◌}
use native.Mathlib.Nat.{zero-add}
use native.Mathlib.Omega.{arith}
use borrow.Author.Tests.{leb-true}
use lib.Dec.{leb}
use lib.ListN.{length, take}
use Rattle.laws.specs.Lists.{table, keep}
use Rattle.laws.specs.Order.{rising}
use Rattle.laws.specs.Overlay.{overlay, Laid}
use Rattle.laws.proofs.Lists.{keep-end-yes, keep-end-no, keep-at-most, keep-passes, keep-mem, mem_below, mem-keep}
use Rattle.laws.proofs.Overlay.{laid-front}
use Rattle.laws.proofs.Rising.{rising-one, rising-up, rising-first}
use Rattle.laws.proofs.Tables.{length-table, map-table}
use Rattle.fields.specs.declared.number.Number.{Number}
use Rattle.entries.specs.declared.entry.Entry.{Entry}
use Rattle.entries.specs.comparing.Same.{same_entry}
use Rattle.model.specs.Rules.{TableLine}
use Rattle.model.specs.Model.{Filed}
use Rattle.store.specs.journals.Reads.{read_files}
use Rattle.store.specs.numbers.Lines.{line_count, line_at, lines_of}
use Rattle.store.specs.entry_slots.Entries.{entry_at}
use Rattle.store.specs.Reads.{Buffers, Held, table_line, held, is_readable, reads}
use Rattle.store.proofs.Checks.{few-lines}
use Rattle.store.proofs.Whole.{whole-table}
use Rattle.asking.specs.answering.Figure.{differs}
use Rattle.std.specs.Prelude.{Ok}
use Rattle.reworking.specs.Reworking.{reworked_entries, changed_lines, rework_answer, entries_after, list_after, with_room, Reworks, changes, changes_to}
use Rattle.reworking.specs.Listed.{reads_otherwise, Listed}
use Rattle.reworking.proofs.Answers.{changes-listed}
use Rattle.reworking.proofs.Promises.{below-mem, reworked-entry}

-- ---- what is not 44 was asked of a store, with room for the list
pub accepted : (b : Buffers) (n count : ℕ) (list : List ℕ) → Ok count ≡ rework_answer n (with_room list b) → (is_readable b ≡ true) × (with_room list b ≡ Some (held b)) × (1024 ≤ length list)
unfolding with_room reads
accepted b n count list q = go (leb 1024 (length list)) (is_readable b) refl q
  where
    go : (r t : Bool) → leb 1024 (length list) ≡ r → Ok count ≡ rework_answer n (cond r (cond t (Some (held b)) None) None)
        → (t ≡ true) × (cond r (cond t (Some (held b)) None) None ≡ Some (held b)) × (1024 ≤ length list)
    go true true e q = (refl, refl, leb-true 1024 (length list) e)
    go true false e q = absurd (let z : ◌≡◌ {A = ℕ} 0 1 = cc in omega arith)
    go false t e q = absurd (let z : ◌≡◌ {A = ℕ} 0 1 = cc in omega arith)

-- ---- the places rise
rising-end : (l : List ℕ) (n : ℕ) → rising l ≡ true → ((y : ℕ) → Memᴰ y l → y < n) → rising (l ++ (n ∷ [])) ≡ true
rising-end [] n e h = rising-one n
rising-end (x ∷ []) n e h = rising-up x n [] (h x (Memᴰ.head refl)) ∙ rising-one n
rising-end (x ∷ y ∷ l) n e h =
    let w = rising-first x y l e in
    rising-up x y (l ++ (n ∷ [])) w.0 ∙ rising-end (y ∷ l) n w.1 (λ z m. h z (Memᴰ.tail m))

pub places-rise : (p : ℕ → Bool) (n : ℕ) → rising (keep p (table n (λ (i : ℕ). i))) ≡ true
unfolding table keep rising
places-rise p zero = refl
places-rise p (suc n) = go (p n) refl (places-rise p n)
  where
    go : (t : Bool) → p n ≡ t → rising (keep p (table n (λ (i : ℕ). i))) ≡ true → rising (keep p (table n (λ (i : ℕ). i) ++ (n ∷ []))) ≡ true
    go true e ih =
        ap rising (keep-end-yes p (table n (λ (i : ℕ). i)) n e)
        ∙ rising-end (keep p (table n (λ (i : ℕ). i))) n ih (λ y m. let w = mem_below n (λ (i : ℕ). i) (mem-keep p (table n (λ (i : ℕ). i)) m) in omega (arith, w.1, w.2))
    go false e ih = ap rising (keep-end-no p (table n (λ (i : ℕ). i)) n e) ∙ ih

-- ---- the list
module _ {b : Buffers} {n count : ℕ} {list entries listed : List ℕ} (s : Reworks b n list (Ok count) entries listed) where
  abbrev files : List Filed
  files = take n (read_files b.files b.regular b.corrections)

  -- of how many lines, and which of them change
  abbrev m : ℕ
  m = line_count b.table

  abbrev test : ℕ → Bool
  test = changes files b.table b.entries

  abbrev lines : List ℕ
  lines = keep test (table m (λ (i : ℕ). i))

  found : (is_readable b ≡ true) × (with_room list b ≡ Some (held b)) × (1024 ≤ length list)
  found = accepted b n count list s.answers

  all_lines : changed_lines (take n (held b).files) (held b).lines (held b).entries ≡ lines
  unfolding held lines_of changes_to
  all_lines =
      ap (λ (l : List (TableLine Number)). changed_lines files l (table m (entry_at b.entries))) (map-table table_line m (line_at b.table))
      ∙ sym (changes-listed files b.table b.entries m)

  counted : count ≡ length lines
  counted =
      let e : Ok count ≡ rework_answer n (Some (held b)) = s.answers ∙ ap (rework_answer n) found.1 in
      let same : count ≡ length (changed_lines (take n (held b).files) (held b).lines (held b).entries) = cc in
      same ∙ ap length all_lines

  laid : Laid list 0 lines listed count
  laid = record {
    bytes = s.lists ∙ ap (λ (h : Option Held). list_after n h list) found.1 ∙ ap (overlay list 0) all_lines;
    ends = counted ∙ sym (zero-add (length lines));
  }

  few : length lines ≤ length list
  few = omega (arith, keep-at-most test (table m (λ (i : ℕ). i)), length-table m (λ (i : ℕ). i), few-lines b.table (whole-table b found.0), found.2)

  front : take count listed ≡ lines
  front = laid-front few laid

  -- the entry of a line afterwards is the one worked out, so that it changes where it reads otherwise
  now-reads : (i : ℕ) → i < m → test i ≡ reads_otherwise b.entries entries i
  unfolding held differs
  now-reads i h =
      let left : entries ≡ reworked_entries files (map table_line (lines_of b.table)) b.entries = s.leaves ∙ ap (λ (x : Option Held). entries_after n x b.entries) found.1 in
      ap (λ (e : Entry). not (same_entry (entry_at b.entries i) e)) (sym (reworked-entry b found.0 n i h) ∙ ap (λ (x : List ℕ). entry_at x i) (sym left))

  pub listed-once : Listed b count entries listed
  listed-once = record {
    as_many = ap length front ∙ sym counted;
    rise = ap rising front ∙ places-rise test m;
    changed = λ i k.
        let in_lines : Memᴰ i lines = rw front at k in
        let w = mem_below m (λ (j : ℕ). j) (mem-keep test (table m (λ (j : ℕ). j)) in_lines) in
        let below : i < m = omega (arith, w.1, w.2) in
        (below, sym (now-reads i below) ∙ keep-passes test (table m (λ (j : ℕ). j)) in_lines);
    all = λ i below e. rw front (keep-mem test (below-mem m i below) (now-reads i below ∙ e));
  }
