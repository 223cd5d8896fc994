-- `store::journals::sums::records_of` meets its contract. Assumes nothing.
use Prim.Native.Nat.{◌≤◌, ◌*◌}
use mathlib.Core.Path.{◌≡◌}
use Rattle.laws.specs.Lists.{table}
use Rattle.store.specs.journals.Files.{file_at, records_of}
use Rattle.store.proofs.journals.sums.records_of.Given as goal

abbrev pub invariant-loop-k : goal.invariant-loop-k
invariant-loop-k l = (l.sum ≤ l.k * 16777216) × (l.sum ≡ records_of l.kind (table l.k (file_at l.files)))
