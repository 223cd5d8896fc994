-- `filing::renewing::named::tag_file` meets its contract: the tags laid are put in order (`tagged`, `tagged-wanted`). Assumes nothing.
use mathlib.Core.Path.{sym}
use native.Mathlib.Omega.{arith}
use Rattle.store.specs.journals.Reads.{records_at}
use Rattle.filing.specs.renewing.Turns.{filed_from}
use Rattle.filing.proofs.renewing.Repeats.{tagged, tagged-wanted}
use Rattle.filing.proofs.renewing.Stages.{all_read}
use Rattle.filing.proofs.renewing.named.tag_file.Goals as goal

pub invariant_of-result : goal.invariant_of-result
invariant_of-result c =
    let r = c.args.records.now in
    let f = filed_from (records_at r.journals.regular.now r.journals.corrections.now) r.file r.start in
    record { ordered = tagged-wanted f _ r.file.count (tagged f _ _ r.file.count (sym (all_read (records_at r.journals.regular.now r.journals.corrections.now) r.file r.start)) (omega (arith, r.in_file.within)) c.lay_tags.ensures c.sort.ensures) }

pub invariant_of-result-2 : goal.invariant_of-result-2
invariant_of-result-2 c =
    let r = c.args.records.now in
    let f = filed_from (records_at r.journals.regular.now r.journals.corrections.now) r.file r.start in
    record { tagged = tagged f _ _ r.file.count (sym (all_read (records_at r.journals.regular.now r.journals.corrections.now) r.file r.start)) (omega (arith, r.in_file.within)) c.lay_tags.ensures c.sort.ensures }
