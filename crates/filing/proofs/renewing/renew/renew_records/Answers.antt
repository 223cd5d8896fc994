-- `filing::renewing::renew::renew_records` meets its contract: a turn of the loop is `staged-turn`. Assumes nothing.
use native.Mathlib.Omega.{arith}
use Rattle.store.specs.journals.Reads.{records_at, read_files}
use Rattle.filing.specs.renewing.Turns.{filed_from}
use Rattle.filing.proofs.renewing.Loop.{staged-none, staged-turn, still-workable}
use Rattle.filing.proofs.renewing.renew.renew_records.Goals as goal

pub loop-j-init : goal.loop-j-init
loop-j-init c =
    let f = c.args.index.now.filed in
    let r = c.args.file.now.records in
    staged-none (read_files f.files.now f.journals.regular.now f.journals.corrections.now) (filed_from (records_at r.journals.regular.now r.journals.corrections.now) r.file r.start) c.args.lines.now c.args.entries.now

pub renew_record-sum-requires-clause-workable : goal.renew_record-sum-requires-clause-workable
renew_record-sum-requires-clause-workable c = still-workable c.requires c.loop-j.entries c.loop-j.auto.entries

pub overflow_add-sum : goal.overflow_add-sum
overflow_add-sum c =
    omega (arith, c.loop-j.invariant.few, c.renew_record-sum.ensures.few, c.loop-j-test.true, c.args.file.now.records.in_file.within)

pub loop-j-preserved : goal.loop-j-preserved
loop-j-preserved c =
    let f = c.args.index.now.filed in
    let r = c.args.file.now.records in
    staged-turn (read_files f.files.now f.journals.regular.now f.journals.corrections.now) (filed_from (records_at r.journals.regular.now r.journals.corrections.now) r.file r.start) c.args.lines.now c.args.entries.now c.loop-j.entries _ c.loop-j.j c.loop-j.sum c.renew_record-sum.result c.loop-j.invariant c.renew_record-sum.ensures
