-- The list of the filed files, as the buffer `files` holds it. Assumes nothing: these are definitions.
use Rattle.std.specs.Prelude.{Bool, cond, ◌&&◌, List, [], ◌∷◌, ◌++◌, ℕ, eqb, leb}
use Rattle.calendar.specs.Dates.{in_calendar}
use Rattle.laws.specs.Lists.{table, total}
use Rattle.laws.specs.Slots.{slot_at}
use Rattle.laws.specs.Words.{low_first, word_at}
use Rattle.store.specs.declared.journals.files.File.{File}

-- a file as its slot: kind in a byte, publisher in two, day in two, count of records in three
unfoldable pub file_slot : File → List ℕ
file_slot f = f.kind ∷ (low_first 2 f.publisher ++ (low_first 2 f.day ++ (low_first 3 f.count ++ [])))

-- and a slot as a file
unfoldable pub file_of : List ℕ → File
file_of s = record { kind = word_at 1 s 0; publisher = word_at 2 s 1; day = word_at 2 s 3; count = word_at 3 s 5 }

-- the file in the slot k, behind the count
unfoldable pub file_at : List ℕ → ℕ → File
file_at files k = file_of (slot_at 2 8 files k)

unfoldable pub file_count : List ℕ → ℕ
file_count files = word_at 2 files 0

-- the files, in order of arrival
unfoldable pub files_of : List ℕ → List File
files_of files = table (file_count files) (file_at files)

-- a file in range: default (0) or correction (1), a publisher that is a network code, a day of the calendar
unfoldable pub good_file : File → Bool
good_file f = leb f.kind 1 && (leb f.publisher 999 && in_calendar f.day)

-- the same kind, publisher and day
unfoldable pub same_file : File → File → Bool
same_file f g = eqb f.kind g.kind && (eqb f.publisher g.publisher && eqb f.day g.day)

-- how many records the files of a kind have, all together
unfoldable pub records_in : ℕ → File → ℕ
records_in kind f = cond (eqb f.kind kind) f.count 0

unfoldable pub records_of : ℕ → List File → ℕ
records_of kind fs = total (records_in kind) fs
