-- An entry in 100 bytes. Assumes nothing: these are definitions.
use Rattle.calendar.specs.declared.dates.CalendarDays.{CalendarDays}
use Rattle.std.specs.Prelude.{Option, Some, None}
use Rattle.std.specs.Prelude.{Bool, cond, ◌&&◌, ℕ, ◌+◌, ◌-◌, eqb, leb}
use mathlib.Core.List.{List, ◌++◌, flat_map}
use Rattle.laws.specs.Lists.{table, all}
use Rattle.laws.specs.Overlay.{part}
use Rattle.laws.specs.Slots.{slot_at}
use Rattle.laws.specs.Words.{low_first, word_at}
use Rattle.calendar.specs.Dates.{last_day}
use Rattle.entries.specs.declared.entry.Entry.{Entry}
use Rattle.entries.specs.declared.entry.Place.{Place}
use Rattle.entries.specs.Entry.{place_count}
use Rattle.store.specs.entry_slots.Places.{place_slot, place_of, good_place}

-- no confirmed date is 0, and the day d is d + 1
unfoldable pub last_no : Option CalendarDays → ℕ
last_no None = 0
last_no (Some d) = d.0 + 1

unfoldable pub last_of : ℕ → Option CalendarDays
last_of n = cond (eqb n 0) None (Some (record { 0 = n - 1 }))

-- the holder and the last confirmed date in two bytes each, then the places
unfoldable pub entry_slot : Entry → List ℕ
entry_slot e = low_first 2 e.holder.0 ++ (low_first 2 (last_no e.last) ++ flat_map place_slot e.places)

-- the places that stand one behind the other
unfoldable pub places_of : List ℕ → List Place
places_of s = table place_count (λ (i : ℕ). place_of (slot_at 0 12 s i))

-- the entry that 100 bytes hold
unfoldable pub entry_of : List ℕ → Entry
entry_of s = record { holder = record { 0 = word_at 2 s 0 }; last = last_of (word_at 2 s 2); places = places_of (part s 4 96) }

-- the entry in the slot k
unfoldable pub entry_at : List ℕ → ℕ → Entry
entry_at entries k = entry_of (slot_at 0 100 entries k)

-- 100 bytes in range: the holder a network code, the last confirmed date in the calendar, each place in range
unfoldable pub good_entry : List ℕ → Bool
good_entry s = leb (word_at 2 s 0) 999 && (leb (word_at 2 s 2) (last_day + 1) && all good_place (table place_count (slot_at 0 12 (part s 4 96))))
