-- `store::journals::twice::gather` meets its contract. Assumes nothing.
use borrow.Author.Rules.{rules}
use lib.ListN.{length-set}
use Rattle.store.proofs.journals.Keys.{keys_next}
use Rattle.store.proofs.journals.twice.gather.Goals as goal

pub loop-k-preserved : goal.loop-k-preserved
loop-k-preserved c = let a = c.args in (
  simp length-set c.loop-k.invariant.0,
  keys_next a.files.now c.loop-k.keys c.loop-k.k c.key_of.result c.file_at.result (search rules) c.file_at.ensures.0 c.key_of.ensures c.loop-k.invariant.1,
)
