-- `records::names::name::put` meets its contract. Assumes nothing.
use Rattle.records.proofs.names.NameLaws.{laid-name}
use Rattle.records.proofs.names.name.put.Goals as goal

pub returns : goal.returns
returns c =
    (laid-name c.args.letter c.args.n c.put_byte-kind.ensures c.put_byte-day.ensures c.put_digits-ending.ensures c.put_all.ensures).bytes
