-- `store::numbers::twice::gather` meets its contract. Assumes nothing.
use borrow.Author.Rules.{rules}
use lib.ListN.{length-set}
use Rattle.store.proofs.numbers.Keys.{keys_next}
use Rattle.store.proofs.numbers.twice.gather.Goals as goal

pub loop-i-preserved : goal.loop-i-preserved
loop-i-preserved c = let a = c.args in (
  simp length-set c.loop-i.invariant.0,
  keys_next a.lines.now c.loop-i.numbers c.loop-i.i c.key_of.result c.line_at.result (search rules) c.line_at.ensures c.key_of.ensures c.loop-i.invariant.1,
)
