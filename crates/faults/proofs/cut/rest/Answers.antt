-- `faults::cut::rest` meets its contract. Assumes nothing.
use Prim.Native.Nat.{ℕ, ◌+◌, ◌-◌}
use lib.ListN.{length-drop, length, drop}
use lib.Seq.{take_all}
use mathlib.Core.Path.{◌≡◌, ap, sym, ◌∙◌}
use native.Mathlib.Omega.{arith}
use Rattle.laws.specs.Split.{end_of}
use Rattle.faults.specs.Cut.{rest_at}
use Rattle.laws.proofs.Split.{rest-on, rest_ended}
use Rattle.faults.proofs.CutLaws.{rest-here}
use Rattle.faults.proofs.cut.rest.Goals as goal

pub loop-init : goal.loop-init
loop-init c =
    let e : c.args.k - 0 ≡ c.args.k = omega arith in
    (omega arith, ap (rest_at c.args.s.now) (sym e))

pub returns-then-s-e : goal.returns-then-s-e
unfolding rest_at
returns-then-s-e c =
    let a = c.args in
    sym (c.loop.invariant.1 ∙ rest_ended 44 a.s.now c.loop.at (c.args.k - c.loop.counter) c.loop.invariant.0 (omega arith) (omega (arith, c.field_end-e.ensures)))

pub loop-preserved : goal.loop-preserved
unfolding rest_at
loop-preserved c =
    let a = c.args in
    let less : c.args.k - c.loop.counter - 1 ≡ c.args.k - (c.loop.counter + 1) = omega arith in
    (omega arith, c.loop.invariant.1 ∙ rest-on 44 a.s.now c.loop.at (c.args.k - c.loop.counter) c.loop.invariant.0 (omega arith) (omega (arith, c.field_end-e.ensures)) ∙ rw c.field_end-e.ensures (ap (λ (n : ℕ). rest_at (drop (end_of 44 a.s.now c.loop.at + 1) a.s.now) n) less))

pub returns : goal.returns
returns c =
    let s = c.args.s.now in
    take_all (length s - c.loop.at) (drop c.loop.at s) (omega (arith, length-drop c.loop.at s))
    ∙ sym (c.loop.invariant.1 ∙ rest-here (drop c.loop.at s) (c.args.k - c.loop.counter) (omega arith))
