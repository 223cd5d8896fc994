-- `fields::number::decades` meets its contract: n digits have been taken from both, all zeros there and nines here, and no number of them up to n makes the rest nearly equal. Assumes nothing.
use Rattle.fields.proofs.BlockLaws.{Turn}
use Rattle.fields.proofs.number.decades.Given as goal

abbrev pub invariant-loop-n : goal.invariant-loop-n
invariant-loop-n l = Turn l.k l.a l.b l.x l.y l._n
