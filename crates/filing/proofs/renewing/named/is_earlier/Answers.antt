-- `filing::renewing::named::is_earlier` meets its contract: the place is among the first, or not (`earlier-yes`, `earlier-no`). Assumes nothing.
use mathlib.Core.Path.{◌∙◌}
use Prim.Native.Nat.{◌%◌}
use borrow.Author.Tests.{le-ltb}
use Rattle.store.specs.journals.Reads.{records_at}
use Rattle.filing.specs.renewing.Turns.{filed_from}
use Rattle.filing.proofs.renewing.Repeats.{earlier-yes, earlier-no}
use Rattle.filing.proofs.renewing.named.is_earlier.Goals as goal

pub returns-then-place-j : goal.returns-then-place-j
returns-then-place-j c =
    let r = c.args.records.now in
    earlier-yes (filed_from (records_at r.journals.regular.now r.journals.corrections.now) r.file r.start) c.args.j c.args.number (c.args.tag % 16384) c.if-place-j.true c.number_at.result c.number_at.ensures c.same.result c.same.ensures

pub returns-else-place-j : goal.returns-else-place-j
returns-else-place-j c =
    let r = c.args.records.now in
    le-ltb _ _ c.if-place-j.false
    ∙ earlier-no (filed_from (records_at r.journals.regular.now r.journals.corrections.now) r.file r.start) c.args.j c.args.number (c.args.tag % 16384) c.if-place-j.false
