-- `layout::putting::put` meets its contract: the field, then the comma. Assumes nothing.
use Rattle.laws.proofs.Overlay.{laid_then}
use Rattle.layout.proofs.putting.put.Goals as goal

pub returns : goal.returns
returns g c = laid_then c.write-comma.ensures c.put_byte.ensures
