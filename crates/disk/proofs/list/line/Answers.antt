-- `disk::list::line` meets its contract: the bytes written one after the other are the line. Assumes nothing.
use Rattle.std.proofs.Common.{ap, replicate}
use borrow.Rule.Slice.PartMut.{put_mid}
use Rattle.laws.specs.Overlay.{overlay}
use Rattle.calendar.specs.Holidays.{holidays}
use Rattle.calendar.proofs.HolidayLaws.{holidays-length}
use Rattle.disk.proofs.Heads.{line-is}
use Rattle.disk.proofs.list.line.Goals as goal

pub returns : goal.returns
unfolding overlay
returns c = line-is _ _ _ _ holidays (ap (put_mid 0 14 (replicate 31 10)) c.copy_from_slice.ensures.after) c.put_digits.ensures.bytes c.put_hex.ensures holidays-length c.sum_of_list.ensures
