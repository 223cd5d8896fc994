-- `asking::record::said_at` meets its contract: the record stands in its journal; the callees' contracts. Assumes nothing.

use Rattle.working.specs.Working.{record_in}
use Rattle.asking.proofs.record.said_at.Goals as goal

pub returns : goal.returns
unfolding record_in
returns c = rw (c.says_in.ensures, c.number_in.ensures, c.bytes-bytes.ensures, c.records-records.ensures.start, c.records-records.ensures.file, c.records-records.ensures.journals)
