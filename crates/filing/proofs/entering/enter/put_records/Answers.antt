-- `filing::entering::enter::put_records` meets its contract. Assumes nothing.
use lib.ListN.{length}
use Rattle.filing.specs.declared.entering.kind.Filable.TheVariants.{Default, Correction}
use Rattle.filing.proofs.entering.Joining.{asked, put-regular, put-correction}
use Rattle.filing.proofs.entering.enter.put_records.Goals as goal

pub put_lines-requires : goal.put_lines-requires
put_lines-requires c =
    asked c.args.kind Default c.args.text.now c.args.from c.args.m (length c.args.regular.now) c.in-Default.is c.requires.0 c.requires.1.0 c.requires.1.1.0

pub put_lines-requires-in-Correction : goal.put_lines-requires-in-Correction
put_lines-requires-in-Correction c =
    asked c.args.kind Correction c.args.text.now c.args.from c.args.m (length c.args.corrections.now) c.in-Correction.is c.requires.0 c.requires.1.0 c.requires.1.1.1

pub returns-in-Default : goal.returns-in-Default
returns-in-Default c =
    put-regular c.args.kind c.args.text.now c.args.regular.now _ c.args.corrections.now c.args.from c.args.m c.requires.0 c.in-Default.is c.put_lines.ensures

pub returns-in-Correction : goal.returns-in-Correction
returns-in-Correction c =
    put-correction c.args.kind c.args.text.now c.args.corrections.now _ c.args.regular.now c.args.from c.args.m c.requires.0 c.in-Correction.is c.put_lines-in-Correction.ensures
