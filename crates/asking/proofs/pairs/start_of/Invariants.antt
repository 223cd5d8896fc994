-- `asking::pairs::start_of` meets its contract: what was passed and what is left make the whole (`Starts`). Assumes nothing.
use mathlib.Core.Path.{◌≡◌}
use Prim.Native.Nat.{◌+◌, ◌*◌, ◌≤◌}
use lib.ListN.{drop}
use Rattle.laws.specs.Lists.{table}
use Rattle.store.specs.journals.Files.{file_at}
use Rattle.asking.specs.pairs.Pairs.{start_by}
use Rattle.asking.proofs.pairs.start_of.Given as goal

abbrev pub invariant-loop-k : goal.invariant-loop-k
invariant-loop-k l = (l.start ≤ 16777216 * l.k) × (l.start + start_by l.publisher.0 l.day.0 (drop l.k (table l.n (file_at l.files))) ≡ start_by l.publisher.0 l.day.0 (table l.n (file_at l.files)))
