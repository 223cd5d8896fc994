-- What the list says once all lines were worked out afresh. Assumes nothing: these are definitions.
use Rattle.std.specs.Prelude.{◌≡◌, Bool, true, not, ℕ, ◌<◌, length, take}
use mathlib.Core.List.{List, Memᴰ}
use Rattle.laws.specs.Order.{rising}
use Rattle.entries.specs.comparing.Same.{same_entry}
use Rattle.store.specs.numbers.Lines.{line_count}
use Rattle.store.specs.entry_slots.Entries.{entry_at}
use Rattle.store.specs.Reads.{Buffers}

-- the entry of the line i reads otherwise in these entries than in those, by the comparison that `differs` makes
abbrev pub reads_otherwise : List ℕ → List ℕ → ℕ → Bool
reads_otherwise these those i = not (same_entry (entry_at these i) (entry_at those i))

-- the list begins with `count` lines, each listed once and in the order of the table: those, and no others, whose entry read otherwise before
pub record Listed (b : Buffers) (count : ℕ) (entries listed : List ℕ) : Type 0 where
  pub as_many : length (take count listed) ≡ count
  pub rise : rising (take count listed) ≡ true
  pub changed : (i : ℕ) → Memᴰ i (take count listed) → (i < line_count b.table) × (reads_otherwise b.entries entries i ≡ true)
  pub all : (i : ℕ) → i < line_count b.table → reads_otherwise b.entries entries i ≡ true → Memᴰ i (take count listed)
