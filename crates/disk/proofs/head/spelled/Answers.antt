-- `disk::head::spelled` meets its contract: the bytes written one after the other are the head. Assumes nothing.
use Rattle.std.proofs.Common.{ap, replicate}
use borrow.Rule.Slice.PartMut.{put_mid}
use Rattle.laws.specs.Overlay.{overlay}
use Rattle.disk.proofs.Heads.{spelled_is}
use Rattle.disk.proofs.head.spelled.Goals as goal

pub returns : goal.returns
unfolding overlay
returns c = spelled_is _ _ _ _ _ (ap (put_mid 0 16 (replicate 51 10)) c.copy_from_slice.ensures.after) c.put_hex.ensures c.put_hex-2.ensures
