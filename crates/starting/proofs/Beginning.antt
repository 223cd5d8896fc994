-- What is written where the text is a table. Assumes nothing.
use Rattle.std.specs.Prelude.{Err, Ok, Result}
use Rattle.std.specs.Prelude.{Option, Some, None}
use mathlib.Core.Path.{◌≡◌, refl, sym, ap, ap₂, ◌∙◌}
use mathlib.Core.Bool.{true, false}
use mathlib.Core.List.{List, [], ◌∷◌, ◌++◌, flat_map, append-nil}
use Prim.Native.Nat.{ℕ, ◌+◌, ◌-◌, ◌*◌, ◌≤◌}
use native.Mathlib.Omega.{arith}
use lib.ListN.{length, take, drop}
use Rattle.laws.specs.Lists.{table}
use Rattle.laws.specs.Overlay.{overlay, part}
use Rattle.laws.specs.Words.{low_first}
use Rattle.laws.proofs.Lists.{flat_append}
use Rattle.laws.proofs.Overlay.{overlay-append, overlay-none}
use Rattle.laws.proofs.Slots.{length-flat}
use Rattle.laws.proofs.Tables.{table_more, length-table}
use Rattle.laws.proofs.Words.{length-low_first}
use Rattle.store.specs.entry_slots.Entries.{entry_slot}
use Rattle.store.specs.entry_slots.Places.{place_slot}
use Rattle.store.specs.Reads.{Buffers, lent, long_enough}
use Rattle.entries.specs.declared.entry.Entry.{Entry}
use Rattle.store.specs.numbers.Lines.{line_slot, line_at}
use Rattle.store.specs.declared.numbers.lines.Line.{Line}
use Rattle.starting.specs.tables.Given.{table_of, Spread}
use Rattle.starting.specs.Start.{first_of, first_slot, answer_of, start_answer, start_buffers, Starts, table_after, files_after, entries_after, table_with, entries_with, Entered, Begun}
use Rattle.starting.specs.declared.start.NotStarted.{NotStarted}
use Rattle.starting.specs.declared.start.NotStarted.TheVariants.{Short, BadTable}
use Rattle.starting.proofs.tables.Spreading.{spread-part, lines-laid}

-- ---- the table
pub table_written : (room : List ℕ) (n : ℕ) (t t₁ : List ℕ) → t₁ ≡ overlay t 0 (low_first 2 n) → overlay t₁ 2 (take (2 + n * 14 - 2) (drop 2 room)) ≡ table_with room n t
unfolding table_with part
table_written room n t t₁ e =
    let size : 2 + n * 14 - 2 ≡ n * 14 = omega arith in
    ap₂ (λ (b : List ℕ) (k : ℕ). overlay b 2 (take k (drop 2 room))) e size

-- ---- the entries, one by one
pub length-first : (l : Line) → length (first_slot l) ≡ 100
unfolding first_slot entry_slot place_slot low_first flat_map
length-first l = refl

pub entries_none : (room e : List ℕ) → e ≡ entries_with room 0 e
unfolding entries_with table flat_map
entries_none room e = overlay-none e 0

pub entries_next : (room e e₁ : List ℕ) (i : ℕ) (l : Line) (x : Entry) → e₁ ≡ entries_with room i e → l ≡ line_at room i → x ≡ first_of l
    → overlay e₁ (i * 100) (entry_slot x) ≡ entries_with room (i + 1) e
unfolding entries_with first_slot flat_map
entries_next room e e₁ i l x q p r =
    let place : i * 100 ≡ 0 + length (flat_map first_slot (table i (line_at room))) =
    omega (arith, length-flat 100 first_slot length-first (table i (line_at room)), length-table i (line_at room)) in
    let slot : entry_slot x ≡ first_slot (line_at room i) = ap entry_slot (r ∙ ap first_of p) in
    ap₂ (λ (b : List ℕ) (k : ℕ). overlay b k (entry_slot x)) q place
    ∙ ap (overlay (overlay e 0 (flat_map first_slot (table i (line_at room)))) (0 + length (flat_map first_slot (table i (line_at room))))) slot
    ∙ sym (overlay-append e 0 (flat_map first_slot (table i (line_at room))) (first_slot (line_at room i)))
    ∙ ap (overlay e 0)
    (ap (λ (b : List ℕ). flat_map first_slot (table i (line_at room)) ++ b) (sym (append-nil (first_slot (line_at room i))))
    ∙ sym (flat_append first_slot (table i (line_at room)) (line_at room i ∷ []))
    ∙ ap (flat_map first_slot) (sym (table_more i (line_at room))))

-- ---- all of it
module _ (text t f e : List ℕ) where
  pub begun_not : table_of text ≡ None → Begun text t f e (Err BadTable) t f e
  begun_not g = record { answers = rw g; table_is = rw g; files-is = rw g; entries-is = rw g }

  module _ (t' f' e' before room : List ℕ) (n : ℕ) (ls : List Line) (g : table_of text ≡ Some ls) (s : Spread ls before n room) (long : 14338 ≤ length before)
      (w : Entered room n t f e t' f' e') where
    table-end : table_with room n t ≡ overlay t 0 (low_first 2 (length ls) ++ flat_map line_slot ls)
    unfolding table_with
    table-end =
        ap (overlay (overlay t 0 (low_first 2 n)) 2) (spread-part ls before n room s long)
        ∙ ap (λ (k : ℕ). overlay (overlay t 0 (low_first 2 n)) k (flat_map line_slot ls)) (sym (ap (λ (k : ℕ). 0 + k) (length-low_first 2 n)))
        ∙ sym (overlay-append t 0 (low_first 2 n) (flat_map line_slot ls))
        ∙ ap (λ (k : ℕ). overlay t 0 (low_first 2 k ++ flat_map line_slot ls)) s.size

    entries-end : entries_with room n e ≡ overlay e 0 (flat_map first_slot ls)
    unfolding entries_with
    entries-end = ap (λ (l : List Line). overlay e 0 (flat_map first_slot l)) (lines-laid ls before n room s long)

    pub begun_done : Begun text t f e (Ok n) t' f' e'
    begun_done = record {
      answers = ap Ok s.size ∙ sym (ap answer_of g);
      table_is = w.table_is ∙ table-end ∙ sym (ap (λ (o : Option (List Line)). table_after o t) g);
      files-is = w.files-is ∙ sym (ap (λ (o : Option (List Line)). files_after o f) g);
      entries-is = w.entries-is ∙ entries-end ∙ sym (ap (λ (o : Option (List Line)). entries_after o e) g);
    }

-- ---- with the test of the buffers' lengths
pub starts_short : (text : List ℕ) (b : Buffers) → long_enough b ≡ false → Starts text b (Err Short) b
unfolding start_answer start_buffers
starts_short text b e = record { answers = rw e; leaves = rw e }

pub starts_long : (text t f r c e t' f' e' : List ℕ) (answer : Result ℕ NotStarted) → long_enough (lent t f r c e) ≡ true → Begun text t f e answer t' f' e'
    → Starts text (lent t f r c e) answer (lent t' f' r c e')
unfolding start_answer start_buffers
starts_long text t f r c e t' f' e' answer q w = record {
  answers = rw q w.answers;
  leaves = rw q (λ i. lent (w.table_is i) (w.files-is i) r c (w.entries-is i));
}
