-- The entry in 100 bytes of a buffer, as the code reads, tests and writes it. Assumes nothing.
use Rattle.calendar.specs.declared.dates.CalendarDays.{CalendarDays}
use Rattle.std.specs.Prelude.{Option}
use mathlib.Core.Path.{◌≡◌, sym, ap, ◌∙◌}
use mathlib.Core.Bool.{false}
use mathlib.Core.List.{List, [], ◌∷◌, flat_map}
use Prim.Native.Nat.{ℕ, ◌+◌, ◌*◌, ◌/◌, ◌%◌, ◌≤◌, ◌<◌}
use native.Mathlib.Nat.{add-zero, zero-add}
use native.Mathlib.Omega.{arith}
use lib.Dec.{lit≤}
use borrow.Author.Tests.{le-leb, lt-leb}
use Rattle.std.specs.List.{list_all, range_with_len}
use Rattle.laws.proofs.Tables.{table-cong}
use Rattle.store.proofs.Ranges.{all_of_table}
use Rattle.laws.specs.Lists.{table, all}
use Rattle.laws.specs.Overlay.{overlay, part}
use Rattle.laws.specs.Slots.{slot_at}
use Rattle.laws.specs.Words.{low_first, word_at}
use Rattle.laws.proofs.Overlay.{overlay-append, part-part}
use Rattle.laws.proofs.Words.{word-part}
use Rattle.entries.specs.declared.entry.Entry.{Entry}
use Rattle.entries.specs.declared.entry.Place.{Place}
use Rattle.store.specs.entry_slots.Places.{place_slot, good_place}
use Rattle.store.specs.entry_slots.Entries.{last_no, last_of, places_of, entry_slot, entry_of, entry_at, good_entry}

-- a place among eight, cut from the buffer
pub place-cut : (s : List ℕ) (at i : ℕ) → i < 8 → part s (at + i * 12) 12 ≡ slot_at 0 12 (part s at 96) i
unfolding slot_at
place-cut s at i h = sym (part-part s at 96 (0 + i * 12) 12 (omega arith) ∙ ap (λ (j : ℕ). part s (at + j) 12) (zero-add (i * 12)))

good_eight : (s : List ℕ) (at : ℕ) → list_all (λ i. good_place (part s (at + i * 12) 12)) (range_with_len 0 8) ≡ all good_place (table 8 (slot_at 0 12 (part s at 96)))
good_eight s at =
    all_of_table (λ i. part s (at + i * 12) 12) good_place 8
    ∙ ap (all good_place) (table-cong 8 (λ i. part s (at + i * 12) 12) (slot_at 0 12 (part s at 96)) (λ i h. place-cut s at i h))

module _ (s : List ℕ) (k : ℕ) where
  cut : slot_at 0 100 s k ≡ part s (k * 100) 100
  unfolding slot_at
  cut = ap (λ (at : ℕ). part s at 100) (zero-add (k * 100))

  head-word : (i : ℕ) → i + 2 ≤ 100 → word_at 2 (slot_at 0 100 s k) i ≡ word_at 2 s (k * 100 + i)
  head-word i h = ap (λ (l : List ℕ). word_at 2 l i) cut ∙ word-part 2 s (k * 100) 100 i h

  eight : part (slot_at 0 100 s k) 4 96 ≡ part s (k * 100 + 4) 96
  eight = ap (λ (l : List ℕ). part l 4 96) cut ∙ part-part s (k * 100) 100 4 96 (lit≤ tt)

  holder-word : word_at 2 (slot_at 0 100 s k) 0 ≡ word_at 2 s (k * 100)
  holder-word = head-word 0 (lit≤ tt) ∙ ap (word_at 2 s) (add-zero (k * 100))

  pub entry_read : (holder w : ℕ) (last : Option CalendarDays) (places : List Place) → holder ≡ word_at 2 s (k * 100) → w ≡ word_at 2 s (k * 100 + 2) → last ≡ last_of w
      → places ≡ places_of (part s (k * 100 + 4) 96)
      → ◌≡◌ {A = Entry} (record { holder = record { 0 = holder }; last = last; places = places }) (entry_at s k)
  unfolding entry_at entry_of
  entry_read holder w last places eh ew el ep =
      let h' : holder ≡ word_at 2 (slot_at 0 100 s k) 0 = eh ∙ sym holder-word in
      let l' : last ≡ last_of (word_at 2 (slot_at 0 100 s k) 2) = el ∙ ap last_of (ew ∙ sym (head-word 2 (lit≤ tt))) in
      let p' : places ≡ places_of (part (slot_at 0 100 s k) 4 96) = ep ∙ ap places_of (sym eight) in
      λ i. record { holder = record { 0 = h' i }; last = l' i; places = p' i }

  module _ (h w : ℕ) (eh : h ≡ word_at 2 s (k * 100)) (ew : w ≡ word_at 2 s (k * 100 + 2)) where
    pub holder_beyond : 999 < h → false ≡ good_entry (slot_at 0 100 s k)
    unfolding good_entry
    holder_beyond b = rw (holder-word, ← eh, lt-leb h 999 b)

    pub date_beyond : h ≤ 999 → 18993 < w → false ≡ good_entry (slot_at 0 100 s k)
    unfolding good_entry
    date_beyond a b = rw (holder-word, ← eh, le-leb h 999 a, head-word 2 (lit≤ tt), ← ew, lt-leb w 18993 b)

    pub entry_good : h ≤ 999 → w ≤ 18993 → list_all (λ i. good_place (part s (k * 100 + 4 + i * 12) 12)) (range_with_len 0 8) ≡ good_entry (slot_at 0 100 s k)
    unfolding good_entry
    entry_good a b = good_eight s (k * 100 + 4) ∙ rw (holder-word, ← eh, le-leb h 999 a, head-word 2 (lit≤ tt), ← ew, le-leb w 18993 b, eight)

-- four bytes and the places behind them, written one after the other, are the entry
pub entry_written : (s d : List ℕ) (at : ℕ) (e : Entry) (l : ℕ) → l ≡ last_no e.last
    → d ≡ overlay s at (e.holder.0 % 256 ∷ e.holder.0 / 256 % 256 ∷ l % 256 ∷ l / 256 % 256 ∷ [])
    → overlay d (at + 4) (flat_map place_slot e.places) ≡ overlay s at (entry_slot e)
unfolding entry_slot low_first
entry_written s d at e l el ed =
    ap (λ (b : List ℕ). overlay b (at + 4) (flat_map place_slot e.places)) ed
    ∙ sym (overlay-append s at (e.holder.0 % 256 ∷ e.holder.0 / 256 % 256 ∷ l % 256 ∷ l / 256 % 256 ∷ []) (flat_map place_slot e.places))
    ∙ ap (λ (n : ℕ). overlay s at (e.holder.0 % 256 ∷ e.holder.0 / 256 % 256 ∷ n % 256 ∷ n / 256 % 256 ∷ flat_map place_slot e.places)) el
