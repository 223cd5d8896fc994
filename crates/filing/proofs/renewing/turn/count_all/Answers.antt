-- `filing::renewing::turn::count_all` meets its contract: what is gathered is as long as the history (`gathered-count`). Assumes nothing.
use Rattle.working.proofs.WorkLaws.{gathered-count}
use Rattle.filing.proofs.renewing.turn.count_all.Goals as goal

pub returns : goal.returns
returns c =
    let f = c.args.index.now.filed in
    gathered-count f.n f.files.now f.journals.regular.now f.journals.corrections.now c.args.number f.sound _ c.gather_indexed.result c.gather_indexed.ensures
