-- `disk::head::put_hex` meets its contract: a word has sixteen hexadecimal digits. Assumes nothing.
use Rattle.disk.proofs.Heads.{hex-laid}
use Rattle.disk.proofs.head.put_hex.Goals as goal

pub returns : goal.returns
returns c = hex-laid _ _ _ _ _ _ c.ranges.n.fits c.hex-k.ensures.len c.hex-k.ensures.digits c.copy_in.ensures.copied.bytes
