-- `layout::request::Request::write` meets its contract: its calls lay one text behind another. Assumes nothing.
use Rattle.laws.proofs.Overlay.{room_next, laid_then}
use Rattle.fields.specs.Date.{maybe_date_text}
use Rattle.layout.specs.Putting.{followed}
use Rattle.layout.proofs.PutLaws.{request-fields}
use Rattle.layout.proofs.RequestLaws.{whole, room-request}
use Rattle.layout.proofs.request.Request.write.Goals as goal

pub put-requires : goal.put-requires
put-requires c =
    let v = c.args.self in
    ((room_next (followed (maybe_date_text v.from)) (room-request v c.args.out.now c.args.at c.requires.0) c.put-behind.ensures).fits, (request-fields v c.requires.1).1)

pub returns : goal.returns
returns c = rw (whole c.args.self) (laid_then c.put-behind.ensures c.put.ensures)
