-- What reworking tells other languages. Assumes nothing: these are definitions.
use Rattle.std.specs.Prelude.{Option, Result}
use Rattle.std.specs.Prelude.{◌≡◌, List, ℕ}
use Rattle.laws.specs.Told.{value_at}
use Rattle.store.specs.Reads.{Buffers, Held}
use Rattle.asking.specs.declared.answer.Unreadable.{Unreadable}
use Rattle.reworking.specs.Reworking.{all_files, reworked_told, rework_answer, entries_after, list_after, with_room}

-- what reworking answers over all files of a store, where the list has room
abbrev pub rework_of : Option Held → Result ℕ Unreadable
rework_of store = rework_answer all_files store

pub record ReworksAs (b : Buffers) (list : List ℕ) (answer more : ℕ) (entries listed : List ℕ) : Type 0 where
  pub answers : answer ≡ (reworked_told (rework_of (with_room list b))).number
  pub tells : more ≡ value_at 0 (reworked_told (rework_of (with_room list b)))
  pub leaves : entries ≡ entries_after all_files (with_room list b) b.entries
  pub lists : listed ≡ list_after all_files (with_room list b) list
