-- `working::gather::gather_all` meets its contract: the records that pass are those that name the number (`passing-gathered`). Assumes nothing.
use Rattle.working.proofs.PassLaws.{passing-gathered}
use Rattle.working.proofs.gather.gather_all.Goals as goal

pub returns : goal.returns
returns c =
    let filed = c.args.filed.now in
    passing-gathered filed.n filed.files.now filed.journals.regular.now filed.journals.corrections.now c.args.number _ c.gather.result c.gather.ensures
