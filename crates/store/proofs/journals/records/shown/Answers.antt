-- `store::journals::records::shown` meets its contract. Assumes nothing.
use Rattle.store.proofs.journals.Places.{beyond_records, beyond_buffer}
use Rattle.store.proofs.journals.records.shown.Goals.{else-k-count-via-then-k-count+else-k-journal, else-k-count-via-else-k-count}
use Rattle.store.proofs.journals.records.shown.Goals as goal

pub returns : goal.returns
returns c = let a = c.args in elim c.else-k-count.branch [
  | else-k-count-via-then-k-count+else-k-journal w ↦ beyond_buffer a.width a.journal.now a.k a.count w.if-k-journal.false
  | else-k-count-via-else-k-count w ↦ beyond_records a.width a.journal.now a.k a.count w.if-k-count.false
]
