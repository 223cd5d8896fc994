-- `reworking::rework::rework_all` meets its contract: the lines' tags are in order, so that they may be wanted. Assumes nothing.
use native.Mathlib.Omega.{arith}
use Rattle.working.proofs.overview.Wanting.{wanted-sorted}
use Rattle.reworking.proofs.rework.rework_all.Goals as goal

pub invariant_of-tags : goal.invariant_of-tags
invariant_of-tags c =
    record { ordered = wanted-sorted c.args.m _ _ (omega (arith, c.requires.m_in_bounds.3)) c.want_lines.ensures }
