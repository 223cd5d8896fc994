-- `layout::part::Part::write` meets its contract: its calls lay one text behind another. Assumes nothing.
use Rattle.laws.proofs.Overlay.{room-first, room_next, laid_then}
use Rattle.fields.specs.Date.{maybe_date_text}
use Rattle.fields.specs.Kind.{maybe_kind_text}
use Rattle.layout.specs.Putting.{followed, networks_followed}
use Rattle.layout.proofs.PutLaws.{part-fields}
use Rattle.layout.proofs.PartLaws.{whole, room-part, networks_on, date_on}
use Rattle.layout.proofs.part.Part.write.Goals as goal

pub put-b-requires : goal.put-b-requires
put-b-requires c =
    let p = c.args.self in
    let r1 = room_next (date_on p) (room-part p c.args.out.now c.args.at c.requires.0) c.put_number-a.ensures in
    (room-first (followed (maybe_date_text p.date)) (networks_on p) r1, (part-fields p c.requires.1).1)

pub put_networks-c-requires : goal.put_networks-c-requires
put_networks-c-requires c =
    let p = c.args.self in
    let r1 = room_next (date_on p) (room-part p c.args.out.now c.args.at c.requires.0) c.put_number-a.ensures in
    (room-first (networks_followed p.gaining p.losing) (maybe_kind_text p.kind) (room_next (networks_on p) r1 c.put-b.ensures), (part-fields p c.requires.1).2, (part-fields p c.requires.1).3)

pub returns : goal.returns
returns c = rw (whole c.args.self) (laid_then c.put_number-a.ensures (laid_then c.put-b.ensures (laid_then c.put_networks-c.ensures c.write.ensures)))
