-- `disk::head::is_first` meets its contract: the library compares as its definition does. Assumes nothing.
use Rattle.disk.proofs.Heads.{first-name}
use Rattle.disk.proofs.head.is_first.Goals as goal

pub returns : goal.returns
returns c = first-name _ _ c.starts_with.ensures.value
