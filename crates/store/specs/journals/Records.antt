-- The records of the two journals, as the buffers `regular` and `corrections` hold them. Assumes nothing: these are definitions.
use Rattle.std.specs.Prelude.{cond, ◌&&◌, List, [], ℕ, ◌/◌, ltb, length}
use Rattle.laws.specs.Slots.{slot_at, held_in}
use Rattle.store.specs.declared.journals.records.Journal.{Journal}
use Rattle.store.specs.declared.journals.records.Journal.TheVariants.{Regular, Correction}

-- the bytes of the record at the place k
unfoldable pub record_at : ℕ → List ℕ → ℕ → List ℕ
record_at width journal k = held_in (slot_at 0 width journal k)

-- where a journal holds `count` records: the bytes of the one at the place k, and none for a place beyond them or beyond the buffer
unfoldable pub record_in : ℕ → ℕ → List ℕ → ℕ → List ℕ
record_in width count journal k = cond (ltb k count && ltb k (length journal / width)) (record_at width journal k) []

-- a report's slot has 1 + 44 bytes, a correction's 1 + 97
abbrev pub shown_in : Journal → List ℕ → List ℕ → ℕ → ℕ → List ℕ
shown_in Regular regular corrections count place = record_in 45 count regular place
shown_in Correction regular corrections count place = record_in 98 count corrections place
