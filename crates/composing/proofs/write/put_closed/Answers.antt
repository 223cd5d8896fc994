-- `composing::write::put_closed` meets its contract. Assumes nothing.
use Rattle.composing.proofs.WroteLaws.{laid-closed}
use Rattle.composing.proofs.LayLaws.{length-closed}
use Rattle.files.specs.Writing.{values_in}
use Rattle.records.specs.closing.Closing.{closing_text}
use Rattle.laws.proofs.Overlay.{laid-length}
use lib.ListN.{length}
use mathlib.Core.Path.{ap}
use native.Mathlib.Omega.{arith}
use Rattle.composing.proofs.write.put_closed.Goals as goal

pub put_records-at-requires : goal.put_records-at-requires
put_records-at-requires c =
    (c.requires.0, omega (arith, length-closed c.args.kind (values_in c.args.kind c.args.words.now), c.requires.1.1))

pub put-end-requires : goal.put-end-requires
put-end-requires c =
    omega (arith, length-closed c.args.kind (values_in c.args.kind c.args.words.now), c.requires.1.1, laid-length c.put_records-at.ensures, c.put_records-at.ensures.ends, ap (λ n. length (closing_text n)) c.requires.1.0)

pub put_byte-requires : goal.put_byte-requires
put_byte-requires c =
    omega (arith, length-closed c.args.kind (values_in c.args.kind c.args.words.now), c.requires.1.1, laid-length c.put_records-at.ensures, c.put_records-at.ensures.ends, laid-length c.put-end.ensures, c.put-end.ensures.ends, ap (λ n. length (closing_text n)) c.requires.1.0)

pub returns : goal.returns
returns c =
    laid-closed c.args.kind (values_in c.args.kind c.args.words.now) c.args.lines c.requires.1.0 c.put_records-at.ensures c.put-end.ensures c.put_byte.ensures
