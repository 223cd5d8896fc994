-- The lines reworked one after the other. Assumes nothing.
--     worked-here       what is worked out and written is the line's slot, and the stored entry is compared with it
--     noted-yes, -no    a place is laid behind the others, or the list stays
--     none_yet          before the first line
--     line-more         a line more: its slot behind those of the lines before it, and its place in the list where its entry changes
use mathlib.Core.Path.{◌≡◌, refl, sym, ap, ap₂, ◌∙◌}
use mathlib.Core.Bool.{Bool, true, false, cond, not}
use mathlib.Core.List.{List, [], ◌∷◌, ◌++◌, append-nil, flat_map}
use Prim.Native.Nat.{ℕ, zero, suc, ◌+◌, ◌*◌, ◌≤◌, ◌<◌}
use native.Mathlib.Nat.{zero-add, zero-mul, suc-mul}
use native.Mathlib.Numerals.{add-one}
use native.Mathlib.Omega.{arith}
use lib.ListN.{length, set, length-append}
use Rattle.laws.specs.Lists.{table, keep}
use Rattle.laws.specs.Overlay.{overlay}
use Rattle.laws.specs.Slots.{slot_at}
use Rattle.laws.proofs.Lists.{keep-end-yes, keep-end-no, keep-at-most, flat_append}
use Rattle.laws.proofs.Overlay.{length-overlay, overlay-append, overlay-none, part-after}
use Rattle.laws.proofs.Tables.{table_more, length-table}
use Rattle.entries.specs.declared.entry.Entry.{Entry}
use Rattle.entries.specs.comparing.Same.{same_entry}
use Rattle.verdict.specs.declared.step.Standing.{Standing}
use Rattle.model.specs.Model.{Filed, entry_over}
use Rattle.rules.specs.Rules.{standings}
use Rattle.rules.proofs.Promises.{standing-entry}
use Rattle.store.specs.entry_slots.Entries.{entry_slot, entry_of, entry_at}
use Rattle.asking.specs.answering.Figure.{differs}
use Rattle.asking.proofs.answering.Figures.{differs-found}
use Rattle.reworking.specs.Reworking.{worked_slot, line_of, changes, changes_to, Fitting, LineReworked, Noted, LinesReworked}

-- ---- one line
pub worked-here : (files : List Filed) (t before after : List ℕ) (k : ℕ) (s : Standing) (stored : Entry) (same : Bool) → s ≡ entry_over standings files (line_of t k) → stored ≡ entry_at before k
    → after ≡ overlay before (k * 100) (entry_slot s.entry) → same ≡ same_entry stored s.entry → LineReworked files t k before after (not same)
unfolding worked_slot
worked-here files t before after k s stored same es est ea esame = record {
  written = ea ∙ ap (λ (e : Entry). overlay before (k * 100) (entry_slot e)) (ap (λ (u : Standing). u.entry) es ∙ standing-entry files (line_of t k));
  told = differs-found files (line_of t k) (entry_at before k) s stored same es est esame;
}

-- ---- one place of the list
pub noted-yes : (before : List ℕ) (count i : ℕ) (changed : Bool) → changed ≡ true → Noted before count i changed (set before count i) (count + 1)
unfolding overlay
noted-yes before count i changed h = record { laid = rw h; counted = rw h }

pub noted-no : (before : List ℕ) (count i : ℕ) (changed : Bool) → changed ≡ false → Noted before count i changed before count
noted-no before count i changed h = record { laid = rw h (overlay-none before count); counted = rw h (omega arith) }

-- ---- line after line
module _ (files : List Filed) (t before list : List ℕ) where
  abbrev slots : ℕ → List ℕ
  slots i = flat_map (worked_slot files) (table i (line_of t))

  slots-more : (i : ℕ) → slots (i + 1) ≡ slots i ++ worked_slot files (line_of t i)
  unfolding flat_map
  slots-more i =
      ap (flat_map (worked_slot files)) (table_more i (line_of t)) ∙ flat_append (worked_slot files) (table i (line_of t)) (line_of t i ∷ [])
      ∙ ap (λ (l : List ℕ). slots i ++ l) (append-nil (worked_slot files (line_of t i)))

  slots-long : (m : ℕ) → Fitting files t m → (i : ℕ) → i ≤ m → length (slots i) ≡ i * 100
  unfolding flat_map table
  slots-long m fit zero h = sym (zero-mul 100)
  slots-long m fit (suc i) h =
      ap (λ (k : ℕ). length (slots k)) (sym (add-one i)) ∙ ap length (slots-more i) ∙ length-append (slots i) (worked_slot files (line_of t i))
      ∙ omega (arith, slots-long m fit i (omega arith), fit i (omega arith), suc-mul i 100)

  pub none_yet : LinesReworked files t 0 before before list list 0
  unfolding table keep flat_map changes_to
  none_yet = record { written = overlay-none before 0; laid = overlay-none list 0; counted = refl }

  module _ (m i : ℕ) (fit : Fitting files t m) (below : i < m) where
    -- the line's own slot has not been written yet
    still : entry_at (overlay before 0 (slots i)) i ≡ entry_at before i
    unfolding entry_at slot_at
    still = ap entry_of (part-after before 0 (slots i) (0 + i * 100) 100 (omega (arith, slots-long m fit i (omega arith))))

    changes-more : (changed : Bool) → changed ≡ changes files t before i → changes_to files t before (i + 1) ≡ changes_to files t before i ++ cond changed (i ∷ []) []
    unfolding changes_to
    changes-more true e =
        ap (keep (changes files t before)) (table_more i (λ (k : ℕ). k)) ∙ keep-end-yes (changes files t before) (table i (λ (k : ℕ). k)) i (sym e)
    changes-more false e =
        ap (keep (changes files t before)) (table_more i (λ (k : ℕ). k)) ∙ keep-end-no (changes files t before) (table i (λ (k : ℕ). k)) i (sym e)
        ∙ sym (append-nil (keep (changes files t before) (table i (λ (k : ℕ). k))))

    one_more : (changed : Bool) → length (cond changed (i ∷ []) []) ≡ cond changed 1 0
    one_more true = refl
    one_more false = refl

    pub line-more : (after after' listed listed' : List ℕ) (count count' : ℕ) (changed : Bool) → LinesReworked files t i before after list listed count → LineReworked files t i after after' changed → Noted listed count i changed listed' count'
        → LinesReworked files t (i + 1) before after' list listed' count'
    line-more after after' listed listed' count count' changed inv line noted =
        let same : changed ≡ changes files t before i = line.told ∙ ap (differs files (line_of t i)) (ap (λ (l : List ℕ). entry_at l i) inv.written ∙ still) in
        let more = changes-more changed same in record {
          written =
              line.written
              ∙ ap₂ (λ (l : List ℕ) (k : ℕ). overlay l k (worked_slot files (line_of t i))) inv.written (sym (slots-long m fit i (omega arith)) ∙ sym (zero-add (length (slots i))))
              ∙ sym (overlay-append before 0 (slots i) (worked_slot files (line_of t i)))
              ∙ ap (overlay before 0) (sym (slots-more i));
          laid =
              noted.laid
              ∙ ap₂ (λ (l : List ℕ) (k : ℕ). overlay l k (cond changed (i ∷ []) [])) inv.laid (inv.counted ∙ sym (zero-add (length (changes_to files t before i))))
              ∙ sym (overlay-append list 0 (changes_to files t before i) (cond changed (i ∷ []) []))
              ∙ ap (overlay list 0) (sym more);
          counted =
              noted.counted
              ∙ ap₂ (λ (a b : ℕ). a + b) inv.counted (sym (one_more changed))
              ∙ sym (length-append (changes_to files t before i) (cond changed (i ∷ []) []))
              ∙ ap length (sym more);
        }

-- ---- what is written and listed has its room, and no more lines are listed than were looked at
module _ {files : List Filed} {t before after list listed : List ℕ} {m r : ℕ} (done : LinesReworked files t m before after list listed r) where
  pub reworked-long : length after ≡ length before
  reworked-long = ap length done.written ∙ length-overlay before 0 (flat_map (worked_slot files) (table m (line_of t)))

  pub listed-long : length listed ≡ length list
  listed-long = ap length done.laid ∙ length-overlay list 0 (changes_to files t before m)

  pub reworked-few : r ≤ m
  unfolding changes_to
  reworked-few = omega (arith, done.counted, keep-at-most (changes files t before) (table m (λ (k : ℕ). k)), length-table m (λ (k : ℕ). k))
