-- `filing::renewing::named::number_at` meets its contract: the callees' contracts, one put into the other. Assumes nothing.
use Rattle.store.specs.journals.Reads.{records_at}
use Rattle.filing.proofs.renewing.Stages.{number_read}
use Rattle.filing.proofs.renewing.named.number_at.Goals as goal

pub returns : goal.returns
returns c =
    let r = c.args.records.now in
    rw (c.number_in.ensures, c.bytes.ensures)
    (number_read (records_at r.journals.regular.now r.journals.corrections.now) r.file r.start c.args.place c.requires)
