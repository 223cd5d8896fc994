-- What working out one number answers. Assumes nothing: these are definitions.
use Rattle.std.specs.Prelude.{◌≡◌, Bool, true, cond, not, ◌&&◌, ℕ, ◌+◌, ◌*◌, ◌/◌, ◌≤◌, ◌<◌, ltb, eqb, length, take}
use mathlib.Core.List.{List, ◌++◌, foldl}
use Rattle.laws.specs.Lists.{table, all}
use Rattle.fields.specs.declared.number.Number.{Number}
use Rattle.entries.specs.declared.entry.Line.{Line}
use Rattle.verdict.specs.declared.step.Standing.{Standing}
use Rattle.verdict.specs.Step.{first_standing, stand_on}
use Rattle.model.specs.Rules.{TableLine, Event}
use Rattle.model.specs.Model.{entry_over, history}
use Rattle.store.specs.journals.Files.{file_at, file_count, good_file, records_of}
use Rattle.store.specs.declared.journals.files.File.{File}
use Rattle.rules.specs.Rules.{rules, standings, record_of}
use Rattle.store.specs.journals.Reads.{records_at, read_files}
use Rattle.working.specs.declared.work.Worked.{Worked}
use Rattle.working.specs.Slips.{keys_of, event_behind}

-- a line of the number table in the model's words
abbrev pub table_line : Number → Line → TableLine Number
table_line n line = record { number = n; owner = line.owner.0; set_up = line.setup.0 }

-- a record with this first field cannot name the number: both have one, and it is another
unfoldable pub apart : ℕ → Number → Bool
apart first n = not (eqb first n.first.0) && (not (eqb first 1) && not (eqb n.first.0 1))

-- what is asked of the first n files: each is in range, and the journals hold their records. A store that reads as one gives this
pub record Sound (n : ℕ) (files regular corrections : List ℕ) : Type 0 where
  pub listed : 2 + n * 8 ≤ length files
  pub few : n ≤ 1024
  pub filed : n ≤ file_count files
  pub good : all good_file (table n (file_at files)) ≡ true
  pub reports : records_of 0 (table n (file_at files)) ≤ 8192
  pub objections : records_of 1 (table n (file_at files)) ≤ 2048
  pub regular_room : 368640 ≤ length regular
  pub correction_room : 200704 ≤ length corrections

-- a place of the journal of a kind, below its limit: 8,192 reports, 2,048 corrections
pub record Stored (regular corrections : List ℕ) (kind place : ℕ) : Type 0 where
  pub kinds : kind ≤ 1
  pub within : place + 6144 * kind < 8192
  pub regular_room : 368640 ≤ length regular
  pub correction_room : 200704 ≤ length corrections

-- the same of the first n records of a file that begin at `start`
pub record InFile (regular corrections : List ℕ) (f : File) (start n : ℕ) : Type 0 where
  pub kinds : f.kind ≤ 1
  pub publishers : f.publisher < 1024
  pub within : start + n + 6144 * f.kind ≤ 8192
  pub regular_room : 368640 ≤ length regular
  pub correction_room : 200704 ≤ length corrections

-- the keys that are laid behind the first `at`
pub record Behind (before : List ℕ) (at : ℕ) (keys after : List ℕ) (r : ℕ) : Type 0 where
  pub counted : r ≡ at + length keys
  pub laid : take r after ≡ take at before ++ keys

-- what `gather` leaves in `keys`, and answers: the keys of the records of the first n files that name the number
pub record Gathered (n : ℕ) (files regular corrections : List ℕ) (number : Number) (keys : List ℕ) (r : ℕ) : Type 0 where
  pub laid : take r keys ≡ keys_of (records_at regular corrections) number (file_at files) n
  pub counted : r ≡ length (keys_of (records_at regular corrections) number (file_at files) n)

-- the standing after the record behind a key
unfoldable pub stand_behind : Line → List ℕ → List ℕ → Standing → ℕ → Standing
stand_behind line regular corrections s key = stand_on line s (record_of (event_behind regular corrections key))

-- the fold over the records behind these keys: where it leads, and how many records were folded
abbrev pub folded_behind : Line → List ℕ → List ℕ → List ℕ → Worked
folded_behind line regular corrections keys = record { standing = foldl (stand_behind line regular corrections) (first_standing line) keys; count = length keys }

-- what `work_out` answers: where the number stands over the first n files, worked out afresh, and how many records that took
pub record WorkedAfresh (n : ℕ) (files regular corrections : List ℕ) (number : Number) (line : Line) (standing : Standing) (count : ℕ) : Type 0 where
  pub stands : standing ≡ entry_over standings (take n (read_files files regular corrections)) (table_line number line)
  pub entry : standing.entry ≡ entry_over rules (take n (read_files files regular corrections)) (table_line number line)
  pub counted : count ≡ length (history rules (take n (read_files files regular corrections)) number)

-- the record at a place of the file k
unfoldable pub record_in : List ℕ → List ℕ → List ℕ → ℕ → ℕ → Event
record_in files regular corrections k place = record {
  kind = (file_at files k).kind;
  publisher = (file_at files k).publisher;
  day = (file_at files k).day;
  place = place;
  bytes = records_at regular corrections (file_at files k).kind (records_of (file_at files k).kind (table k (file_at files)) + place);
}

-- the standing after the record behind a key, if it is processed before the one with the key `mark`: the place in the journal has no part in that
unfoldable pub stand_before : Line → List ℕ → List ℕ → ℕ → Standing → ℕ → Standing
stand_before line regular corrections mark s key = cond (ltb (key / 8192) (mark / 8192)) (stand_behind line regular corrections s key) s
