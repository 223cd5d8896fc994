-- `asking::record::locate` meets its contract: the records of the files passed and the place that is left make the whole (`Records`). Assumes nothing.
use mathlib.Core.Path.{◌≡◌}
use Prim.Native.Nat.{◌+◌}
use Rattle.laws.specs.Lists.{table}
use Rattle.store.specs.journals.Files.{file_at, records_of}
use Rattle.asking.proofs.record.locate.Given as goal

abbrev pub invariant-loop-k : goal.invariant-loop-k
invariant-loop-k l = records_of l.kind (table l.k (file_at l.files)) + l.at ≡ l.place
