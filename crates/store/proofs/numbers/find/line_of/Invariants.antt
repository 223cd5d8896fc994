-- `store::numbers::find::line_of` meets its contract: a search from the first line on. Assumes nothing.
use Rattle.laws.specs.Lists.{table}
use Rattle.laws.proofs.Loops.{Searched}
use Rattle.fields.specs.Number.{same_number}
use Rattle.store.specs.numbers.Lines.{number_at}
use Rattle.store.proofs.numbers.find.line_of.Given as goal

abbrev pub invariant-loop-i : goal.invariant-loop-i
invariant-loop-i l = Searched (same_number l.number) (table l.n (number_at l.lines)) l.i
