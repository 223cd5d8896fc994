-- Entries written one after the other: what is worked out afresh, and that every other byte stays. Assumes nothing.
use mathlib.Core.Path.{◌≡◌, refl, sym, ap, ◌∙◌}
use mathlib.Core.Bool.{Bool, true, false, cond, ◌||◌}
use mathlib.Core.List.{List, map}
use Prim.Native.Nat.{ℕ, ◌+◌, ◌*◌, ◌≤◌, ◌<◌}
use native.Mathlib.Decide.{ℕ_discrete}
use native.Mathlib.Nat.{zero-add}
use native.Mathlib.Omega.{arith}
use lib.ListN.{length, drop}
use Rattle.laws.specs.Lists.{table, first_at, none_twice}
use Rattle.laws.specs.Overlay.{overlay}
use Rattle.laws.specs.Slots.{slot_at}
use Rattle.laws.proofs.Folds.{fold-map}
use Rattle.laws.proofs.Overlay.{drop-overlay}
use Rattle.laws.proofs.Slots.{slots_apart, slot_same, slot-other}
use Rattle.fields.specs.declared.number.Number.{Number}
use Rattle.fields.specs.Number.{same_number}
use Rattle.fields.proofs.NumberLaws.{same-itself}
use Rattle.entries.specs.Entry.{first_entry}
use Rattle.verdict.specs.Step.{entry_after}
use Rattle.verdict.proofs.Laws.{tidy}
use Rattle.model.specs.Rules.{TableLine}
use Rattle.model.specs.Model.{Filed, history, entry_over}
use Rattle.store.specs.numbers.Lines.{line_count, line_at, number_at}
use Rattle.store.proofs.numbers.Finding.{found_none, found_here, found-other}
use Rattle.store.specs.entry_slots.Entries.{entry_slot}
use Rattle.store.proofs.entry_slots.Back.{slot-length}
use Rattle.rules.specs.Rules.{rules, record_of, line_by}
use Rattle.store.specs.Reads.{table_line}
use Rattle.filing.specs.renewing.Turns.{slot_afresh, Redone, LineRenewed, NumberRenewed}

-- ---- an entry that is worked out takes 100 bytes
worked-eight : (files : List Filed) (line : TableLine Number) → length (entry_over rules files line).places ≡ 8
unfolding entry_over
worked-eight files line =
    ap (λ e. length e.places) (sym (fold-map (entry_after (line_by line)) record_of (first_entry (line_by line)) (history rules files line.number)))
    ∙ (tidy (line_by line) (map record_of (history rules files line.number))).eight

pub worked-length : (files : List Filed) (line : TableLine Number) → length (entry_slot (entry_over rules files line)) ≡ 100
worked-length files line = slot-length (entry_over rules files line) (worked-eight files line)

-- ---- nothing done, one thing for another, one after the other
module _ (all : List Filed) (lines : List ℕ) where
  pub redone-none : (p : Number → Bool) (entries : List ℕ) → ((k : ℕ) → k < line_count lines → p (number_at lines k) ≡ false) → Redone p all lines entries entries
  redone-none p entries none = record { slots = λ k h. rw (none k h); rest = refl }

  pub redone-same : {before after : List ℕ} (p q : Number → Bool) → ((n : Number) → p n ≡ q n) → Redone p all lines before after → Redone q all lines before after
  redone-same {before} p q e d = record {
    slots = λ k h. d.slots k h ∙ ap (λ (b : Bool). cond b (slot_afresh all lines k) (slot_at 0 100 before k)) (e (number_at lines k));
    rest = d.rest;
  }

  pub redone-then : {before mid after : List ℕ} (p q : Number → Bool) → Redone p all lines before mid → Redone q all lines mid after → Redone (λ (n : Number). p n || q n) all lines before after
  redone-then {before} {mid} p q d e = record {
    slots = λ k h. e.slots k h ∙ ap (cond (q (number_at lines k)) (slot_afresh all lines k)) (d.slots k h) ∙ either (p (number_at lines k)) (q (number_at lines k)) (slot_afresh all lines k) (slot_at 0 100 before k);
    rest = e.rest ∙ d.rest;
  }
    where
      either : (s t : Bool) (x y : List ℕ) → cond t x (cond s x y) ≡ cond (s || t) x y
      either true true x y = refl
      either true false x y = refl
      either false true x y = refl
      either false false x y = refl

-- ---- the entry of one line written
module _ (all : List Filed) (lines : List ℕ) (number : Number) (before after : List ℕ) (room : line_count lines * 100 ≤ length before)
    (once : none_twice same_number (table (line_count lines) (number_at lines)) ≡ true) (k : ℕ) (e : k ≡ first_at (same_number number) (table (line_count lines) (number_at lines)))
    (h : k < line_count lines) where
  fits : k * 100 + 100 ≤ line_count lines * 100
  fits = slots_apart 100 h

  here : number ≡ number_at lines k
  here = found_here lines (line_count lines) number (rw (← e) h) ∙ ap (number_at lines) (sym e)

  slot-here : after ≡ overlay before (k * 100) (slot_afresh all lines k) → slot_at 0 100 after k ≡ slot_afresh all lines k
  slot-here w =
      ap (λ (l : List ℕ). slot_at 0 100 l k) (w ∙ ap (λ (at : ℕ). overlay before at (slot_afresh all lines k)) (sym (zero-add (k * 100))))
      ∙ slot_same 0 100 before k (slot_afresh all lines k) (omega (arith, fits)) (worked-length all (table_line (line_at lines k)))

  slot-elsewhere : after ≡ overlay before (k * 100) (slot_afresh all lines k) → (i : ℕ) → (i ≡ k → ⊥) → slot_at 0 100 after i ≡ slot_at 0 100 before i
  slot-elsewhere w i ne =
      ap (λ (l : List ℕ). slot_at 0 100 l i) (w ∙ ap (λ (at : ℕ). overlay before at (slot_afresh all lines k)) (sym (zero-add (k * 100))))
      ∙ slot-other 0 100 before i k (slot_afresh all lines k) ne (worked-length all (table_line (line_at lines k)))

  slots : after ≡ overlay before (k * 100) (slot_afresh all lines k) → (i : ℕ) → i < line_count lines → slot_at 0 100 after i ≡ cond (same_number number (number_at lines i)) (slot_afresh all lines i) (slot_at 0 100 before i)
  slots w i b = elim (ℕ_discrete i k) [
    | yes q ↦ rw (q, ← here, same-itself number) (slot-here w)
    | no ne ↦ rw (found-other lines (line_count lines) number (rw (← e) h) once i b (λ q. ne (q ∙ sym e))) (slot-elsewhere w i ne)
  ]

  pub line-renewed : (r : ℕ) → LineRenewed all lines before after k r → NumberRenewed all number lines before after r
  line-renewed r w = record {
    redone = record {
      slots = slots w.written;
      rest = ap (drop (line_count lines * 100)) w.written ∙ drop-overlay (line_count lines * 100) before (k * 100) (slot_afresh all lines k) (omega (arith, fits, worked-length all (table_line (line_at lines k))));
    };
    counted = w.counted ∙ ap (λ (n : Number). length (history rules all n)) (sym here);
  }

-- ---- a number without a line
pub number-counted : (all : List Filed) (lines : List ℕ) (number : Number) (entries : List ℕ) (k r : ℕ) → k ≡ first_at (same_number number) (table (line_count lines) (number_at lines)) → line_count lines ≤ k
    → r ≡ length (history rules all number) → NumberRenewed all number lines entries entries r
number-counted all lines number entries k r e h c = record {
  redone = redone-none all lines (same_number number) entries (found_none lines (line_count lines) number (rw (← e) h));
  counted = c;
}
