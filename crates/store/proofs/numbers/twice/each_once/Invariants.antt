-- `store::numbers::twice::each_once` meets its contract. Assumes nothing.
use mathlib.Core.Path.{◌≡◌}
use lib.ListN.{drop}
use Rattle.laws.specs.Lists.{table, none_twice}
use Rattle.fields.specs.Number.{same_number}
use Rattle.store.specs.numbers.Lines.{number_at}
use Rattle.store.proofs.numbers.twice.each_once.Given as goal

abbrev pub invariant-loop-i : goal.invariant-loop-i
invariant-loop-i l = none_twice same_number (drop l.i (table l.n (number_at l.lines))) ≡ none_twice same_number (table l.n (number_at l.lines))
