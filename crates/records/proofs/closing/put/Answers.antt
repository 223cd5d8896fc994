-- `records::closing::put` meets its contract. The word, the number and the comma are laid one behind the other. Assumes nothing.
use Rattle.records.proofs.closing.ClosingLaws.{laid-closing}
use Rattle.records.proofs.closing.put.Goals as goal

pub returns : goal.returns
returns c = laid-closing c.args.n _ c.size-k.ensures c.put_all-number.ensures c.put_digits-comma.ensures c.put_byte.ensures
