-- `layout::putting::put_between` meets its contract: its calls lay one text behind another. Assumes nothing.
use Rattle.laws.proofs.Overlay.{laid_then}
use Rattle.layout.proofs.putting.put_between.Goals as goal

pub returns : goal.returns
returns c = laid_then c.put_byte-letter.ensures (laid_then c.put_byte-colon.ensures c.put_byte.ensures)
