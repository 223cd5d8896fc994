-- When the entries of all numbers that a file names are worked out afresh, the buffer is what the definition says. Assumes nothing.
use mathlib.Core.Path.{◌≡◌, refl, sym, ap, ◌∙◌}
use mathlib.Core.Bool.{Bool, true, false, cond}
use mathlib.Core.List.{List, [], map, flat_map, zip_with}
use Prim.Native.Nat.{ℕ, ◌*◌, ◌≤◌, ◌<◌}
use native.Mathlib.Omega.{arith}
use lib.ListN.{length, get_or, drop, length-map}
use Rattle.laws.specs.Lists.{table}
use Rattle.laws.specs.Slots.{slot_at}
use Rattle.laws.proofs.Lists.{zip-at, length-zip}
use Rattle.laws.proofs.Overlay.{drop-overlay}
use Rattle.laws.proofs.Slots.{slots_apart, slot_whole, length-joined, slot-laid, same-slots}
use Rattle.laws.proofs.Tables.{length-table, get_or-table, map-table}
use Rattle.fields.specs.declared.number.Number.{Number}
use Rattle.model.specs.Rules.{TableLine}
use Rattle.model.specs.Model.{Filed, named, entry_over}
use Rattle.store.specs.numbers.Lines.{line_count, line_at, lines_of, number_at}
use Rattle.store.specs.entry_slots.Entries.{entry_slot}
use Rattle.rules.specs.Rules.{rules}
use Rattle.store.specs.Reads.{table_line}
use Rattle.filing.specs.fitting.Renewing.{renewed_slot, renewed_entries}
use Rattle.filing.specs.renewing.Turns.{slot_afresh, Redone}
use Rattle.filing.proofs.renewing.Writing.{worked-length}

module _ (all : List Filed) (f : Filed) (lines entries : List ℕ) (room : line_count lines * 100 ≤ length entries) where
  abbrev lined : List (TableLine Number)
  lined = map table_line (lines_of lines)

  abbrev n : ℕ
  n = line_count lines

  abbrev renewed : List (List ℕ)
  renewed = zip_with (renewed_slot all f) lined (table (length lined) (slot_at 0 100 entries))

  lines-length : length lined ≡ n
  unfolding lines_of
  lines-length = length-map (lines_of lines) table_line ∙ length-table n (line_at lines)

  line-at : (k : ℕ) (d : TableLine Number) → k < n → get_or lined k d ≡ table_line (line_at lines k)
  unfolding lines_of
  line-at k d h = ap (λ (l : List (TableLine Number)). get_or l k d) (map-table table_line n (line_at lines)) ∙ get_or-table n k (λ (i : ℕ). table_line (line_at lines i)) d h

  renewed-length : length renewed ≡ n
  renewed-length = length-zip (renewed_slot all f) lined (table (length lined) (slot_at 0 100 entries)) (sym (length-table (length lined) (slot_at 0 100 entries))) ∙ lines-length

  renewed-at : (k : ℕ) → k < n → get_or renewed k [] ≡ renewed_slot all f (table_line (line_at lines k)) (slot_at 0 100 entries k)
  renewed-at k h =
      zip-at (renewed_slot all f) lined (table (length lined) (slot_at 0 100 entries)) k (table_line (line_at lines k)) [] [] (omega (arith, lines-length))
      (omega (arith, lines-length, length-table (length lined) (slot_at 0 100 entries)))
      ∙ (λ i. renewed_slot all f (line-at k (table_line (line_at lines k)) h i) (get_or-table (length lined) k (slot_at 0 100 entries) [] (omega (arith, lines-length)) i))

  slot-100 : (line : TableLine Number) (slot : List ℕ) → length slot ≡ 100 → length (renewed_slot all f line slot) ≡ 100
  unfolding renewed_slot
  slot-100 line slot e = go (named rules f line.number)
    where
      go : (b : Bool) → length (cond b (entry_slot (entry_over rules all line)) slot) ≡ 100
      go true = worked-length all line
      go false = e

  each : (k : ℕ) → k < length renewed → length (get_or renewed k []) ≡ 100
  each k h =
      let b : k < n = omega (arith, renewed-length) in
      ap length (renewed-at k b) ∙ slot-100 (table_line (line_at lines k)) (slot_at 0 100 entries k) (slot_whole 0 100 entries k (omega (arith, slots_apart 100 b)))

  size : length renewed * 100 ≡ n * 100
  size = ap (λ (k : ℕ). k * 100) renewed-length

  -- the slot of a line, and what stands behind all of them
  pub renewed-slot : (k : ℕ) → k < line_count lines → slot_at 0 100 (renewed_entries all f (map table_line (lines_of lines)) entries) k ≡ renewed_slot all f (table_line (line_at lines k)) (slot_at 0 100 entries k)
  unfolding renewed_entries
  renewed-slot k h = slot-laid 100 entries renewed each (omega (arith, size)) k (omega (arith, renewed-length)) ∙ renewed-at k h

  pub renewed-rest : drop (line_count lines * 100) (renewed_entries all f (map table_line (lines_of lines)) entries) ≡ drop (line_count lines * 100) entries
  unfolding renewed_entries
  renewed-rest = drop-overlay (n * 100) entries 0 (flat_map (λ (s : List ℕ). s) renewed) (omega (arith, length-joined 100 renewed each, size))

  as-defined : (k : ℕ) → cond (named rules f (number_at lines k)) (slot_afresh all lines k) (slot_at 0 100 entries k) ≡ renewed_slot all f (table_line (line_at lines k)) (slot_at 0 100 entries k)
  unfolding renewed_slot number_at
  as-defined k = refl

  pub redone-all : (after : List ℕ) → Redone (named rules f) all lines entries after → after ≡ renewed_entries all f (map table_line (lines_of lines)) entries
  redone-all after d =
      same-slots 100 after (renewed_entries all f lined entries) n
      (λ k h. d.slots k h ∙ as-defined k ∙ sym (renewed-slot k h))
      (d.rest ∙ sym renewed-rest)
