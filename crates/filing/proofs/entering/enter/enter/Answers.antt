-- `filing::entering::enter::enter` meets its contract. Assumes nothing.
use native.Mathlib.Omega.{arith}
use Rattle.filing.proofs.entering.Joining.{few, stored, joined}
use Rattle.filing.proofs.entering.enter.enter.Goals as goal

pub put_records-requires : goal.put_records-requires
put_records-requires c =
    let from = stored c.args.kind c.args.files.now _ _ _ c.file_count-n.ensures.0 c.number.ensures c.records_of-from.ensures in
    (c.requires.judged, (omega (arith, from, c.requires.room), (c.requires.long-regular, c.requires.long-corrections)))

pub overflow_cast-file : goal.overflow_cast-file
overflow_cast-file c =
    omega (arith, c.requires.room, few c.args.kind)

pub returns : goal.returns
returns c =
    let from = stored c.args.kind c.args.files.now _ _ _ c.file_count-n.ensures.0 c.number.ensures c.records_of-from.ensures in
    joined c.args.kind c.args.publisher.0 c.args.day.0 c.args.m c.args.text.now c.requires.judged c.args.files.now c.args.regular.now c.args.corrections.now _ _ _ c.number-2.result c.records_of-from.result c.number-2.ensures from c.add_file.ensures c.put_records.ensures.0 c.put_records.ensures.1
