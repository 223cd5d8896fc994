-- The records of the first files that may name one of many wanted numbers, listed once and grouped by the first field of the number that each
-- names. Assumes nothing: these are definitions.
use Rattle.std.specs.Prelude.{◌≡◌, Bool, true, false, ◌||◌, List, map, ℕ, suc, ◌/◌, ◌%◌, ◌≤◌, ◌<◌, eqb, ltb, length, take, get_or}
use Rattle.laws.specs.Lists.{keep}
use Rattle.laws.specs.Order.{sorted}
use Rattle.order.specs.groups.Groups.{below, tag, tags}
use Rattle.fields.specs.declared.number.Number.{Number}
use Rattle.fields.specs.Number.{same_number}
use Rattle.store.specs.journals.Files.{file_at}
use Rattle.store.specs.journals.Reads.{records_at}
use Rattle.store.specs.journals.Records.{shown_in}
use Rattle.store.specs.declared.journals.files.File.{File}
use Rattle.rules.specs.Records.{number_in, first_in}
use Rattle.working.specs.Slips.{Slip, slips_of, slips, key_of, kind_behind, journal_behind}

-- what stands in front of a place: the digits of a number's first field, of which 48 bits are all
abbrev pub front : ℕ → ℕ
front digits = digits % 281474976710656

-- ---- which first fields are wanted: those that a tag has in front
unfoldable pub is_wanted : List ℕ → ℕ → Bool
is_wanted wanted digits = ltb (below (tag (front digits) 0) wanted) (below (tag (suc (front digits)) 0) wanted)

-- the first w tags, which are in order
pub record Wanted (wanted : List ℕ) (w : ℕ) : Type 0 where
  pub few : w ≤ 10240
  pub ordered : sorted (take w wanted) ≡ take w wanted

-- a mark for each tag, by the last bits of what it has in front
pub record Marked (wanted : List ℕ) (marks : List Bool) : Type 0 where
  pub each : (i : ℕ) → i < length wanted → get_or marks (get_or wanted i 0 / 16384 % 1024) false ≡ true

-- ---- a record may name a number with a wanted first field: the field that comes first in its bytes is empty, or is wanted
unfoldable pub may_name : List ℕ → ℕ → List ℕ → Bool
may_name wanted kind bytes = eqb (first_in kind bytes) 1 || is_wanted wanted (first_in kind bytes)

unfoldable pub candidate : (ℕ → ℕ → List ℕ) → List ℕ → Slip → Bool
candidate r wanted s = may_name wanted s.kind (r s.kind s.index)

-- the keys of those slips of a file, and of the first k files, that pass a test
unfoldable pub listed_in : (Slip → Bool) → (ℕ → ℕ → List ℕ) → File → ℕ → ℕ → List ℕ
listed_in p r f start count = map key_of (keep p (slips_of r f start count))

unfoldable pub listed : (Slip → Bool) → (ℕ → ℕ → List ℕ) → (ℕ → File) → ℕ → List ℕ
listed p r file k = map key_of (keep p (slips r file k))

-- ---- the number that the record behind a key names
unfoldable pub number_behind : List ℕ → List ℕ → ℕ → Number
number_behind regular corrections key = number_in (kind_behind key) (shown_in (journal_behind key) regular corrections 8192 (key % 8192))

unfoldable pub front_behind : List ℕ → List ℕ → ℕ → ℕ
front_behind regular corrections key = front (number_behind regular corrections key).first.0

unfoldable pub about_key : List ℕ → List ℕ → Number → ℕ → Bool
about_key regular corrections number key = same_number (number_behind regular corrections key) number

-- what `list_all` leaves in `keys`, and answers: the keys of the candidates of the first n files
pub record Listed (n : ℕ) (files regular corrections wanted keys : List ℕ) (c : ℕ) : Type 0 where
  pub laid : take c keys ≡ listed (candidate (records_at regular corrections) wanted) (records_at regular corrections) (file_at files) n
  pub counted : c ≡ length (listed (candidate (records_at regular corrections) wanted) (records_at regular corrections) (file_at files) n)

-- what `index` leaves and answers: these keys, and in order the place of each with the first field of its record's number in front
pub record Indexed (n : ℕ) (files regular corrections wanted keys places : List ℕ) (c : ℕ) : Type 0 where
  pub candidates : Listed n files regular corrections wanted keys c
  pub few : c ≤ 10240
  pub grouped : take c places ≡ tags (front_behind regular corrections) (take c keys)

-- the keys that some tags stand for
abbrev pub keys_behind : List ℕ → List ℕ → List ℕ
keys_behind keys places = map (λ (g : ℕ). get_or keys (g % 16384) 0) places
