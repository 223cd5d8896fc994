-- The records of a file that was judged. Assumes nothing.
use Rattle.std.specs.Prelude.{Result, Ok, Err}
use Rattle.std.specs.Result.{result_unwrap_or}
use Rattle.files.specs.declared.judge.Fault.{Fault}
use Prim.Native.Nat.{ℕ, ◌≤◌, ◌<◌}
use native.Mathlib.Nat.{min-le_left}
use native.Mathlib.Omega.{arith}
use mathlib.Core.Path.{◌≡◌, refl, sym}
use mathlib.Core.List.{List, []}
use lib.ListN.{length, get_or, take, length-take, get_or-eq_default}
use lib.Seq.{get_or-take}
use Rattle.laws.specs.Split.{split, piece_of}
use Rattle.records.specs.declared.names.kind.FileKind.{FileKind}
use Rattle.files.specs.Judged.{judged_file, records_of}
use Rattle.files.specs.Reading.{record_at}

-- no element stands behind those that were taken
take_past : {A : Type 0} (n k : ℕ) (l : List A) (d : A) → n ≤ k → get_or (take n l) k d ≡ d
take_past n k l d h = get_or-eq_default (take n l) d (omega (arith, length-take n l, min-le_left n (length l)))

-- the text of a record is its line, and where there is none, there is no text
module _ (kind : FileKind) (file : List ℕ) (k : ℕ) where
  pub record-line : (n : ℕ) → judged_file kind file ≡ Ok n → k < n → record_at kind file k ≡ piece_of 13 file k
  unfolding record_at records_of
  record-line n e h = rw e (get_or-take n (split 13 file) k [] h)

  pub record-beyond : (n : ℕ) → judged_file kind file ≡ Ok n → n ≤ k → [] ≡ record_at kind file k
  unfolding record_at records_of
  record-beyond n e h = rw e (sym (take_past n k (split 13 file) [] h))

  -- a file with a fault has no records
  pub record_line : k < result_unwrap_or (judged_file kind file) 0 → record_at kind file k ≡ piece_of 13 file k
  record_line h = go (judged_file kind file) refl h
    where
      go : (j : Result ℕ Fault) → judged_file kind file ≡ j → k < result_unwrap_or j 0 → record_at kind file k ≡ piece_of 13 file k
      go (Ok n) q h = record-line n q h
      go (Err fault) q h = absurd (omega arith)

  pub record_beyond : result_unwrap_or (judged_file kind file) 0 ≤ k → record_at kind file k ≡ []
  record_beyond h = go (judged_file kind file) refl h
    where
      go : (j : Result ℕ Fault) → judged_file kind file ≡ j → result_unwrap_or j 0 ≤ k → record_at kind file k ≡ []
      go (Ok n) q h = sym (record-beyond n q h)
      go (Err fault) q h = unfold record_at records_of in rw q
