-- `verdict::step::stand` meets its contract: the callees' contracts, one put into the other. Assumes nothing.
use Rattle.verdict.specs.Step.{stand_on}
use Rattle.verdict.proofs.step.stand.Goals as goal

pub returns : goal.returns
unfolding stand_on
returns c = cc
