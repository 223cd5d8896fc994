-- `entries::places::holds` meets its contract: each operand of `&&` is the definition's. Assumes nothing.
use mathlib.Core.Path.{sym, ◌∙◌}
use Rattle.entries.specs.places.Places.{holds_open}
use Rattle.entries.proofs.PlaceChains.{kind_as_std}
use Rattle.entries.proofs.places.holds.Goals as goal
use Rattle.entries.proofs.places.holds.Goals.{then-p, else-p}

pub returns-then-eq : goal.returns-then-eq
unfolding holds_open
returns-then-eq c = elim c.if-p.branch [
  | then-p w ↦ rw (w.if-p.true, sym (kind_as_std c.args.p.report.kind c.args.k), sym w.eq.ensures ∙ sym w.value-is ∙ c.if-eq.true) c.matching.ensures
  | else-p w ↦ cc
]

pub returns-else-eq : goal.returns-else-eq
unfolding holds_open
returns-else-eq c = elim c.if-p.branch [
  | then-p w ↦ rw (w.if-p.true, sym (kind_as_std c.args.p.report.kind c.args.k), sym w.eq.ensures ∙ sym w.value-is ∙ c.if-eq.false) c.if-eq.false
  | else-p w ↦ rw w.if-p.false (w.value-is ∙ w.if-p.false)
]
