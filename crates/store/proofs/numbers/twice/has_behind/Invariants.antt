-- `store::numbers::twice::has_behind` meets its contract. Assumes nothing.
use mathlib.Core.Path.{◌≡◌}
use lib.ListN.{drop}
use Rattle.laws.specs.Lists.{table, any}
use Rattle.fields.specs.Number.{same_number}
use Rattle.store.specs.numbers.Lines.{number_at}
use Rattle.store.proofs.numbers.twice.has_behind.Given as goal

abbrev pub invariant-loop-i : goal.invariant-loop-i
invariant-loop-i l = any (same_number l.x) (drop l.i (table l.n (number_at l.lines))) ≡ any (same_number l.x) (drop l.from (table l.n (number_at l.lines)))
