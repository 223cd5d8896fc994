-- `filing::renewing::renew::renew_records` meets its contract: the loop's invariant is the contract over the first j records. Assumes nothing.
use Rattle.store.specs.journals.Reads.{records_at, read_files}
use Rattle.filing.specs.renewing.Turns.{filed_from, Staged}
use Rattle.filing.proofs.renewing.renew.renew_records.Given as goal

abbrev pub invariant-loop-j : goal.invariant-loop-j
invariant-loop-j l =
    let f = l.index.filed in
    let r = l.file.records in
    Staged (read_files f.files.now f.journals.regular.now f.journals.corrections.now) (filed_from (records_at r.journals.regular.now r.journals.corrections.now) r.file r.start) l.j l.lines l.initial.entries l.entries l.sum
