-- `reworking::rework::note` meets its contract. Assumes nothing.
use Rattle.reworking.proofs.Lines.{noted-yes, noted-no}
use Rattle.reworking.proofs.rework.note.Goals as goal

pub returns-then-changed : goal.returns-then-changed
returns-then-changed c = noted-yes _ _ _ _ c.if-changed.true

pub returns : goal.returns
returns c = noted-no _ _ _ _ c.if-changed.false
