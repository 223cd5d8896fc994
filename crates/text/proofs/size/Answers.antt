-- `text::size` meets its contract.
-- Assumes nothing.
use Prim.Native.Nat.{◌-◌}
use mathlib.Core.Path.{◌∙◌}
use native.Mathlib.Omega.{arith}
use Rattle.laws.proofs.Digits.{size_none, size-turn, size-end}
use Rattle.text.proofs.size.Goals as goal

pub returns-then-m-lt10 : goal.returns-then-m-lt10
returns-then-m-lt10 c =
    omega (arith, size_none (c.args.most - c.loop-k.k) c.loop-k.m (omega arith))

pub loop-k-preserved : goal.loop-k-preserved
loop-k-preserved c =
    c.loop-k.invariant ∙ size-turn c.args.most c.loop-k.k c.loop-k.m (omega arith) (omega arith)

pub returns : goal.returns
returns c =
    omega (arith, size-end c.args.most c.loop-k.k c.loop-k.m (omega arith))
