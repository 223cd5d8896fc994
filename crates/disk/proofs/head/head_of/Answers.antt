-- `disk::head::head_of` meets its contract: sums over one list behind the other are the sums over all. Assumes nothing.
use Rattle.disk.proofs.Heads.{head-sums}
use Rattle.disk.proofs.head.head_of.Goals as goal

pub returns : goal.returns
returns c =
    head-sums c.args.line.now c.args.table.now c.args.files.now c.args.regular.now c.args.corrections.now _ _ _ _ _ _ _ c.summed-sum.ensures c.summed-sum-2.ensures c.summed-sum-3.ensures c.summed-sum-4.ensures c.summed-sum-5.ensures c.version.ensures c.spelled.ensures
