-- `layout::putting::put_networks` meets its contract: its calls lay one text behind another. Assumes nothing.
use Rattle.laws.proofs.Overlay.{laid_then}
use Rattle.layout.proofs.putting.put_networks.Goals as goal

pub returns : goal.returns
returns c = laid_then c.put-behind.ensures c.put.ensures
