-- What one pass over the first files for the records that pass a test answers. Assumes nothing: these are definitions.
use Rattle.std.specs.Prelude.{◌≡◌, Bool, List, ℕ, length, take}
use Rattle.store.specs.journals.Files.{file_at}
use Rattle.store.specs.journals.Reads.{records_at}
use Rattle.working.specs.Slips.{Slip}
use Rattle.working.specs.indexing.Index.{listed}

-- a test by the kind of the file and the record's bytes, as one of slips
abbrev pub passes_at : (ℕ → List ℕ → Bool) → (ℕ → ℕ → List ℕ) → Slip → Bool
passes_at p r s = p s.kind (r s.kind s.index)

-- what `gather` leaves in `keys`, and answers: the keys of the records of the first n files that pass
pub record Passing (n : ℕ) (files regular corrections : List ℕ) (p : ℕ → List ℕ → Bool) (keys : List ℕ) (r : ℕ) : Type 0 where
  pub laid : take r keys ≡ listed (passes_at p (records_at regular corrections)) (records_at regular corrections) (file_at files) n
  pub counted : r ≡ length (listed (passes_at p (records_at regular corrections)) (records_at regular corrections) (file_at files) n)
