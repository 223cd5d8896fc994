-- `calendar::working_days::kind_of` meets its contract: each return rewrites with the tests that led there.
-- Assumes nothing.
use mathlib.Core.Path.{sym, ◌∙◌}
use borrow.Author.Tests.{le-leb, lt-leb}
use Rattle.calendar.specs.Answers.{day_kind}
use Rattle.calendar.proofs.working_days.kind_of.Goals as goal

pub returns-then-d-gt-LAST_DAY : goal.returns-then-d-gt-LAST_DAY
unfolding day_kind
returns-then-d-gt-LAST_DAY c = simp (lt-leb _ _ c.if-d-gt-LAST_DAY.true)

pub returns-then-works : goal.returns-then-works
unfolding day_kind
returns-then-works c = simp (le-leb _ _ c.if-d-gt-LAST_DAY.false, sym c.works.ensures ∙ c.if-works.true)

pub returns : goal.returns
unfolding day_kind
returns c = simp (le-leb _ _ c.if-d-gt-LAST_DAY.false, sym c.works.ensures ∙ c.if-works.false)
