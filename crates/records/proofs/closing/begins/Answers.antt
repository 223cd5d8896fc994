-- `records::closing::begins` meets its contract. Assumes nothing.
use mathlib.Core.Path.{◌∙◌}
use Rattle.records.proofs.Bytes.{pointwise_same, same_turned}
use Rattle.records.specs.closing.Closing.{begins}
use Rattle.records.proofs.closing.begins.Goals as goal

pub returns : goal.returns
unfolding begins
returns c = c.starts_with.ensures.value ∙ pointwise_same _ _ ∙ same_turned _ _
