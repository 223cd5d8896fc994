-- The records of the first files as slips: what the processing order asks of each, and where it stands in its journal. A slip packed into one
-- number is a key: sorted keys are the records in processing order. Assumes nothing: these are definitions.
use Rattle.std.specs.Prelude.{Bool, cond, List, [], ◌++◌, map, ℕ, zero, suc, ◌+◌, ◌*◌, ◌/◌, ◌%◌, eqb}
use Rattle.laws.specs.Lists.{table, keep}
use Rattle.fields.specs.declared.number.Number.{Number}
use Rattle.fields.specs.Number.{same_number}
use Rattle.model.specs.Rules.{Event}
use Rattle.store.specs.journals.Files.{records_of}
use Rattle.store.specs.journals.Records.{shown_in}
use Rattle.store.specs.declared.journals.files.File.{File}
use Rattle.store.specs.declared.journals.records.Journal.{Journal}
use Rattle.store.specs.declared.journals.records.Journal.TheVariants.{Regular, Correction}
use Rattle.rules.specs.Records.{number_in, class_in}

pub record Slip : Type 0 where
  pub kind : ℕ
  pub day : ℕ
  pub class : ℕ
  pub publisher : ℕ
  pub place : ℕ
  pub index : ℕ

-- the slip of the record at a place of a file whose records begin at `start` in its journal
abbrev pub slip_at : (ℕ → ℕ → List ℕ) → File → ℕ → ℕ → Slip
slip_at r f start i = record {
  kind = f.kind;
  day = f.day;
  class = class_in f.kind (r f.kind (start + i));
  publisher = f.publisher;
  place = i;
  index = start + i;
}

-- those of a file, and those of the first n files, file by file
abbrev pub slips_of : (ℕ → ℕ → List ℕ) → File → ℕ → ℕ → List Slip
slips_of r f start count = table count (slip_at r f start)

unfoldable pub slips : (ℕ → ℕ → List ℕ) → (ℕ → File) → ℕ → List Slip
slips r file zero = []
slips r file (suc k) = slips r file k ++ slips_of r (file k) (records_of (file k).kind (table k file)) (file k).count

-- the record of a slip names the number
unfoldable pub about_slip : (ℕ → ℕ → List ℕ) → Number → Slip → Bool
about_slip r n s = same_number (number_in s.kind (r s.kind s.index)) n

-- ---- keys: day, class, publisher, place in the file, place in the journal
unfoldable pub key_by : ℕ → ℕ → ℕ → ℕ → ℕ → ℕ
key_by day class publisher place index = (((day * 16 + class) * 1024 + publisher) * 8192 + place) * 8192 + index

abbrev pub key_of : Slip → ℕ
key_of s = key_by s.day s.class s.publisher s.place s.index

-- the keys of the records of a file, and of the first n files, that name the number
unfoldable pub keys_in : (ℕ → ℕ → List ℕ) → Number → File → ℕ → ℕ → List ℕ
keys_in r n f start count = map key_of (keep (about_slip r n) (slips_of r f start count))

unfoldable pub keys_of : (ℕ → ℕ → List ℕ) → Number → (ℕ → File) → ℕ → List ℕ
keys_of r n file k = map key_of (keep (about_slip r n) (slips r file k))

-- ---- the record behind a key: corrections are of class 2
unfoldable pub class_behind : ℕ → ℕ
class_behind key = key / 8192 / 8192 / 1024 % 16

abbrev pub kind_behind : ℕ → ℕ
kind_behind key = cond (eqb (class_behind key) 2) 1 0

abbrev pub journal_behind : ℕ → Journal
journal_behind key = cond (eqb (class_behind key) 2) Correction Regular

unfoldable pub event_behind : List ℕ → List ℕ → ℕ → Event
event_behind regular corrections key = record {
  kind = kind_behind key;
  publisher = key / 8192 / 8192 % 1024;
  day = key / 8192 / 8192 / 1024 / 16 % 32768;
  place = key / 8192 % 8192;
  bytes = shown_in (journal_behind key) regular corrections 8192 (key % 8192);
}
