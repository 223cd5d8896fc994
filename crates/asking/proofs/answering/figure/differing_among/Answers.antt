-- `asking::answering::figure::differing_among` meets its contract: the lines' tags are in order, so that they may be wanted. Assumes nothing.
use native.Mathlib.Omega.{arith}
use Rattle.working.proofs.overview.Wanting.{wanted-sorted}
use Rattle.asking.proofs.answering.figure.differing_among.Goals as goal

pub invariant_of-tags : goal.invariant_of-tags
invariant_of-tags c =
    record { ordered = wanted-sorted c.args.m _ _ (omega (arith, c.requires.2)) c.want_lines.ensures }
