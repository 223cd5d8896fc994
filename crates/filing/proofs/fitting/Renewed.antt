-- The entries after one more file: in range, and read as the model has them. Assumes nothing.
--     renewed-good        each slot is in range
--     renewed-read        and holds what the model's store has beside its line
--     renewed-readable    so the buffers still read as a store;
--     renewed-reads       as which one
--     last-filed          the file that came last
use Rattle.std.specs.Prelude.{Some}
use mathlib.Core.Path.{◌≡◌, refl, sym, ap, ap₂, ◌∙◌}
use mathlib.Core.Bool.{Bool, true, false, cond}
use mathlib.Core.List.{List, [], ◌∷◌, ◌++◌, map, flat_map, zip_with}
use Prim.Native.Nat.{ℕ, ◌+◌, ◌-◌, ◌*◌, ◌≤◌, ◌<◌}
use native.Mathlib.Omega.{arith}
use lib.ListN.{length, get_or, length-append, length-map, get_or-map}
use lib.Seq.{get_or_at}
use Rattle.laws.specs.Lists.{table, all}
use Rattle.laws.specs.Slots.{slot_at}
use Rattle.laws.proofs.Lists.{zip-at, length-zip}
use Rattle.laws.proofs.Overlay.{length-overlay, length_part}
use Rattle.laws.proofs.Slots.{slot-laid}
use Rattle.laws.proofs.Tables.{length-table, get_or-table, table-cong, table-self, all-at, all-each}
use Rattle.fields.specs.declared.number.Number.{Number}
use Rattle.entries.specs.declared.entry.Entry.{Entry}
use Rattle.model.specs.Rules.{TableLine}
use Rattle.model.specs.Model.{Filed, named, entry_over, renewed}
use Rattle.rules.specs.Rules.{rules}
use Rattle.store.specs.journals.Reads.{read_files}
use Rattle.store.specs.numbers.Lines.{line_count, line_at, lines_of}
use Rattle.store.specs.entry_slots.Entries.{entry_slot, entry_of, entry_at, good_entry}
use Rattle.store.proofs.entry_slots.Back.{FineEntry, length-entry, entry-back, entry-fine}
use Rattle.store.specs.Reads.{Buffers, lent, table_line, held, long_enough, is_readable, reads}
use Rattle.store.proofs.Checks.{long, few-lines, read-entries, reads-some}
use Rattle.store.proofs.Whole.{whole_long, whole-table, whole-files, whole-records, whole-entries}
use Rattle.filing.specs.fitting.Renewing.{renewed_slot, renewed_entries, no_file, last_filed}
use Rattle.filing.proofs.fitting.Worked.{all-fits}

-- ---- the file that came last
pub last-filed : (files : List Filed) (f : Filed) → last_filed (files ++ (f ∷ [])) ≡ f
unfolding last_filed
last-filed files f = get_or_at files f [] no_file (length (files ++ (f ∷ [])) - 1) (omega (arith, length-append files (f ∷ [])))

-- ---- one slot
module _ (files : List Filed) (f : Filed) (line : TableLine Number) (slot : List ℕ) (fine : FineEntry (entry_over rules files line)) where
  slot-long : length slot ≡ 100 → length (renewed_slot files f line slot) ≡ 100
  unfolding renewed_slot
  slot-long h = go (named rules f line.number)
    where
      go : (t : Bool) → length (cond t (entry_slot (entry_over rules files line)) slot) ≡ 100
      go true = length-entry (entry_over rules files line) fine
      go false = h

  slot-good : good_entry slot ≡ true → good_entry (renewed_slot files f line slot) ≡ true
  unfolding renewed_slot
  slot-good h = go (named rules f line.number)
    where
      go : (t : Bool) → good_entry (cond t (entry_slot (entry_over rules files line)) slot) ≡ true
      go true = entry-fine (entry_over rules files line) fine
      go false = h

  slot_read : entry_of (renewed_slot files f line slot) ≡ cond (named rules f line.number) (entry_over rules files line) (entry_of slot)
  unfolding renewed_slot
  slot_read = go (named rules f line.number)
    where
      go : (t : Bool) → entry_of (cond t (entry_slot (entry_over rules files line)) slot) ≡ cond t (entry_over rules files line) (entry_of slot)
      go true = entry-back (entry_over rules files line) fine
      go false = refl

-- ---- all slots
module _ (b : Buffers) (e : is_readable b ≡ true) (f : Filed) where
  abbrev files : List Filed
  files = read_files b.files b.regular b.corrections

  abbrev lines : List (TableLine Number)
  lines = map table_line (lines_of b.table)

  abbrev line : ℕ → TableLine Number
  line k = table_line (line_at b.table k)

  abbrev slots : List (List ℕ)
  slots = zip_with (renewed_slot files f) lines (table (length lines) (slot_at 0 100 b.entries))

  abbrev after : List ℕ
  after = renewed_entries files f lines b.entries

  lines-count : length lines ≡ line_count b.table
  unfolding lines_of
  lines-count = length-map (lines_of b.table) table_line ∙ length-table (line_count b.table) (line_at b.table)

  slots-count : length slots ≡ line_count b.table
  slots-count =
      length-zip (renewed_slot files f) lines (table (length lines) (slot_at 0 100 b.entries)) (sym (length-table (length lines) (slot_at 0 100 b.entries)))
      ∙ lines-count

  line-at : (k : ℕ) → k < line_count b.table → get_or lines k (line k) ≡ line k
  unfolding lines_of
  line-at k h = get_or-map table_line (lines_of b.table) k (line_at b.table k) ∙ ap table_line (get_or-table (line_count b.table) k (line_at b.table) (line_at b.table k) h)

  slot-at : (k : ℕ) → k < line_count b.table → get_or slots k [] ≡ renewed_slot files f (line k) (slot_at 0 100 b.entries k)
  slot-at k h =
      zip-at (renewed_slot files f) lines (table (length lines) (slot_at 0 100 b.entries)) k (line k) [] [] (omega (arith, lines-count))
      (omega (arith, lines-count, length-table (length lines) (slot_at 0 100 b.entries)))
      ∙ ap₂ (renewed_slot files f) (line-at k h) (get_or-table (length lines) k (slot_at 0 100 b.entries) [] (omega (arith, lines-count)))

  room : line_count b.table * 100 ≤ length b.entries
  room = omega (arith, few-lines b.table (whole-table b e), (long b (whole_long b e)).long-entries)

  whole : (k : ℕ) → k * 100 + 100 ≤ length b.entries → length (slot_at 0 100 b.entries k) ≡ 100
  unfolding slot_at
  whole k h = length_part b.entries (0 + k * 100) 100 (omega arith)

  slot-width : (k : ℕ) → k < length slots → length (get_or slots k []) ≡ 100
  slot-width k h =
      let n = slots-count in
      let below : k < line_count b.table = omega arith in
      ap length (slot-at k below)
      ∙ slot-long files f (line k) (slot_at 0 100 b.entries k) (all-fits b e k below) (whole k (omega (arith, room)))

  -- the slot of a line, read in the buffer
  slot_of : (k : ℕ) → k < line_count b.table → slot_at 0 100 after k ≡ renewed_slot files f (line k) (slot_at 0 100 b.entries k)
  unfolding renewed_entries
  slot_of k h =
      slot-laid 100 b.entries slots slot-width (omega (arith, room, slots-count)) k (omega (arith, slots-count))
      ∙ slot-at k h

  pub renewed-good : all good_entry (table (line_count b.table) (slot_at 0 100 after)) ≡ true
  renewed-good =
      all-each good_entry (line_count b.table) (slot_at 0 100 after)
      (λ k h. ap good_entry (slot_of k h) ∙ slot-good files f (line k) (slot_at 0 100 b.entries k) (all-fits b e k h)
      (ap good_entry (sym (get_or-table (line_count b.table) k (slot_at 0 100 b.entries) [] h))
      ∙ all-at good_entry (table (line_count b.table) (slot_at 0 100 b.entries)) k [] (whole-entries b e) (omega (arith, length-table (line_count b.table) (slot_at 0 100 b.entries)))))

  module _ (before : List Filed) (q : files ≡ before ++ (f ∷ [])) where
    abbrev entries : List Entry
    entries = table (line_count b.table) (entry_at b.entries)

    abbrev next : List Entry
    next = zip_with (renewed rules before f) lines entries

    next-count : length next ≡ line_count b.table
    next-count = length-zip (renewed rules before f) lines entries (lines-count ∙ sym (length-table (line_count b.table) (entry_at b.entries))) ∙ lines-count

    next-at : (k : ℕ) (d : Entry) → k < line_count b.table → get_or next k d ≡ cond (named rules f (line k).number) (entry_over rules files (line k)) (entry_at b.entries k)
    next-at k d h =
        zip-at (renewed rules before f) lines entries k (line k) d d (omega (arith, lines-count)) (omega (arith, length-table (line_count b.table) (entry_at b.entries)))
        ∙ ap₂ (renewed rules before f) (line-at k h) (get_or-table (line_count b.table) k (entry_at b.entries) d h)
        ∙ ap (λ (fs : List Filed). cond (named rules f (line k).number) (entry_over rules fs (line k)) (entry_at b.entries k)) (sym q)

    entry-after : (k : ℕ) → k < line_count b.table → entry_at after k ≡ cond (named rules f (line k).number) (entry_over rules files (line k)) (entry_at b.entries k)
    unfolding entry_at
    entry-after k h = ap entry_of (slot_of k h) ∙ slot_read files f (line k) (slot_at 0 100 b.entries k) (all-fits b e k h)

    pub renewed-read : table (line_count b.table) (entry_at after) ≡ next
    renewed-read =
        let d : Entry = entry_at b.entries 0 in
        table-cong (line_count b.table) (entry_at after) (λ (k : ℕ). get_or next k d) (λ k h. entry-after k h ∙ sym (next-at k d h))
        ∙ table-self next d (line_count b.table) next-count

  -- ---- the store with them
  abbrev with : Buffers
  with = lent b.table b.files b.regular b.corrections after

  still-long : long_enough with ≡ true
  unfolding long_enough renewed_entries
  still-long = rw (length-overlay b.entries 0 (flat_map (λ (s : List ℕ). s) slots)) (whole_long b e)

  pub renewed-readable : is_readable with ≡ true
  renewed-readable = sym (read-entries with still-long (whole-table b e) (whole-files b e) (whole-records b e) (line_count b.table) refl) ∙ renewed-good

  pub renewed-reads : (before : List Filed) → files ≡ before ++ (f ∷ [])
      → reads with ≡ Some (record { lines = lines; files = before ++ (f ∷ []); entries = zip_with (renewed rules before f) lines (held b).entries })
  unfolding held
  renewed-reads before q = reads-some with renewed-readable ∙ (λ i. Some (record { lines = lines; files = q i; entries = renewed-read before q i }))
