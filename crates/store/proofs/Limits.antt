-- The byte limits follow from the record limits: a slot has room for 44 or 97 bytes, so 8,192 reports have at most 1,048,576 bytes and 2,048
-- corrections at most 262,144. Assumes nothing.
use mathlib.Core.Path.{◌≡◌}
use mathlib.Core.Bool.{true}
use mathlib.Core.List.{List, [], ◌∷◌}
use Prim.Native.Nat.{ℕ, zero, suc, ◌+◌, ◌*◌, ◌≤◌}
use native.Mathlib.Nat.{suc-mul}
use native.Mathlib.Omega.{arith}
use lib.ListN.{length, length-take}
use Rattle.laws.specs.Lists.{table, total}
use Rattle.laws.specs.Overlay.{part}
use Rattle.laws.specs.Slots.{slot_at, held_in}
use Rattle.laws.proofs.Lists.{total-end}
use Rattle.store.specs.journals.Files.{files_of, records_of}
use Rattle.store.specs.journals.Records.{record_at}
use Rattle.store.specs.Reads.{good_files}
use Rattle.store.proofs.Checks.{few-reports, few-corrections}

-- what a slot holds is shorter than the slot
held_below : (w : ℕ) (s : List ℕ) → length s ≤ suc w → length (held_in s) ≤ w
unfolding held_in
held_below w [] h = omega arith
held_below w (n ∷ rest) h = rw length-take (omega arith)

record-below : (w : ℕ) (journal : List ℕ) (k : ℕ) → length (record_at (suc w) journal k) ≤ w
unfolding record_at slot_at part
record-below w journal k = held_below w (part journal (0 + k * suc w) (suc w)) (rw length-take (omega arith))

pub bytes_below : (w n : ℕ) (journal : List ℕ) → total length (table n (record_at (suc w) journal)) ≤ n * w
unfolding table total
bytes_below w zero journal = omega arith
bytes_below w (suc n) journal =
    omega (
      arith,
      total-end length (table n (record_at (suc w) journal)) (record_at (suc w) journal n),
      bytes_below w n journal,
      record-below w journal n,
      suc-mul n w,
    )

module _ (files : List ℕ) (e : good_files files ≡ true) (journal : List ℕ) where
  pub regular-bytes : total length (table (records_of 0 (files_of files)) (record_at 45 journal)) ≤ 1048576
  regular-bytes = omega (arith, bytes_below 44 (records_of 0 (files_of files)) journal, few-reports files e)

  pub correction-bytes : total length (table (records_of 1 (files_of files)) (record_at 98 journal)) ≤ 262144
  correction-bytes = omega (arith, bytes_below 97 (records_of 1 (files_of files)) journal, few-corrections files e)
