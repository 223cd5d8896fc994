-- `working::filed::Filed::records_from` meets its contract: the records of one of the first files are in their journal (`in-file`). Assumes nothing.
use Rattle.working.proofs.GatherLaws.{in-file}
use Rattle.working.proofs.filed.Filed.records_from.Goals as goal

pub invariant_of-result : goal.invariant_of-result
invariant_of-result c =
    let filed = c.args.self.now in
    record { in_file = rw (c.requires.start_value, c.file_at.ensures.0) (in-file filed.n filed.files.now filed.journals.regular.now filed.journals.corrections.now filed.sound c.args.k c.requires.k_lt_n) }
