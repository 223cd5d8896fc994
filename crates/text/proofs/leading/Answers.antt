-- `text::leading` meets its contract. Assumes nothing.
use Prim.Native.Nat.{ℕ, ◌-◌, ◌+◌, ◌/◌}
use mathlib.Core.Path.{◌≡◌, sym, ap, ◌∙◌}
use native.Mathlib.Omega.{arith}
use Rattle.laws.specs.Digits.{down}
use Rattle.laws.proofs.Digits.{down_turn, down-none}
use Rattle.text.proofs.leading.Goals as goal

pub loop-preserved : goal.loop-preserved
loop-preserved c =
    let left : c.args.k - c.loop.counter - 1 ≡ c.args.k - (c.loop.counter + 1) = omega arith in
    c.loop.invariant ∙ down_turn (c.args.k - c.loop.counter) c.loop.front (omega arith) ∙ ap (λ (i : ℕ). down i (c.loop.front / 10)) left

pub returns : goal.returns
returns c =
    sym (c.loop.invariant ∙ down-none (c.args.k - c.loop.counter) c.loop.front (omega arith))
