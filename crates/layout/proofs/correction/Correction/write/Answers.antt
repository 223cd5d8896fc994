-- `layout::correction::Correction::write` meets its contract: its calls lay one text behind another. Assumes nothing.
use Rattle.laws.proofs.Overlay.{room-first, room_next, laid_then}
use Rattle.layout.specs.Part.{part_text}
use Rattle.layout.proofs.PutLaws.{correction-parts}
use Rattle.layout.proofs.CorrectionLaws.{whole, room-correction, between_on, parts_on}
use Rattle.layout.proofs.correction.Correction.write.Goals as goal

pub write-b-requires : goal.write-b-requires
write-b-requires c =
    let v = c.args.self in
    (room-first (part_text v.u) (between_on v) (room_next (parts_on v) (room-correction v c.args.out.now c.args.at c.requires.0) c.put_head-a.ensures), (correction-parts v c.requires.1).1)

pub write-requires : goal.write-requires
write-requires c =
    let v = c.args.self in
    let r1 = room_next (parts_on v) (room-correction v c.args.out.now c.args.at c.requires.0) c.put_head-a.ensures in
    ((room_next (part_text v.k) (room_next (between_on v) r1 c.write-b.ensures) c.put_between-c.ensures).fits, (correction-parts v c.requires.1).2)

pub returns : goal.returns
returns c = rw (whole c.args.self) (laid_then c.put_head-a.ensures (laid_then c.write-b.ensures (laid_then c.put_between-c.ensures c.write.ensures)))
