-- `layout::putting::put_head` meets its contract: its calls lay one text behind another. Assumes nothing.
use Rattle.laws.proofs.Overlay.{laid_then}
use Rattle.layout.proofs.putting.put_head.Goals as goal

pub returns : goal.returns
returns c = laid_then c.write-behind.ensures (laid_then c.put_byte-colon.ensures c.put_byte.ensures)
