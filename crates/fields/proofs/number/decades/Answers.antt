-- `fields::number::decades` meets its contract. Assumes nothing.
use mathlib.Core.Path.{sym, ◌∙◌}
use native.Mathlib.Omega.{arith}
use Rattle.fields.proofs.BlockLaws.{turn-first, turn-no-zero, turn-no-nine, turn_on}
use Rattle.fields.proofs.number.decades.Goals.{then-x-ne0-via-then-x-ne0, then-x-ne0-via-else-x-ne0+then-y-ne9}
use Rattle.fields.proofs.number.decades.Goals as goal

pub loop-n-init : goal.loop-n-init
loop-n-init c = turn-first c.args.k c.args.a c.args.b

pub returns-then-x-ne0 : goal.returns-then-x-ne0
returns-then-x-ne0 c = elim c.then-x-ne0.branch [
  | then-x-ne0-via-then-x-ne0 w ↦ turn-no-zero c.loop-n.invariant (omega arith) w.if-x-ne0.true
  | then-x-ne0-via-else-x-ne0+then-y-ne9 w ↦ turn-no-nine c.loop-n.invariant (omega arith) w.if-y-ne9.true
]

pub loop-n-preserved : goal.loop-n-preserved
loop-n-preserved c =
    turn_on c.loop-n.invariant c.requires (omega arith) c.if-x-ne0.false c.if-y-ne9.false (sym c.nearly.ensures ∙ c.if-nearly.false)
