-- `text::piece` meets its contract: what is asked for is a piece of what starts at `at`. Assumes nothing.
use Prim.Native.Nat.{◌-◌, ◌+◌}
use mathlib.Core.Path.{◌≡◌, refl, sym, ◌∙◌}
use native.Mathlib.Omega.{arith}
use Rattle.laws.proofs.Split.{ends_at, piece-on, piece-none, piece-here}
use Rattle.text.proofs.piece.Goals as goal

pub returns-then-s-e : goal.returns-then-s-e
returns-then-s-e c =
    let a = c.args in
    sym (c.loop-passed.invariant.1 ∙ piece-none a.sep a.s.now c.loop-passed.at (a.k - c.loop-passed._passed) c.loop-passed.invariant.0 (omega arith) (omega (arith, c.field_end-e.ensures)))

pub loop-passed-preserved : goal.loop-passed-preserved
loop-passed-preserved c =
    let a = c.args in
    let left : a.k - c.loop-passed._passed - 1 ≡ a.k - (c.loop-passed._passed + 1) = omega arith in
    (omega arith, c.loop-passed.invariant.1 ∙ piece-on a.sep a.s.now c.loop-passed.at (a.k - c.loop-passed._passed) c.loop-passed.invariant.0 (omega arith) (omega (arith, c.field_end-e.ensures)) ∙ rw (← c.field_end-e.ensures, left) refl)

pub slice_bounds-result-count : goal.slice_bounds-result-count
slice_bounds-result-count c =
    let a = c.args in
    let e = ends_at a.sep a.s.now c.loop-passed.at c.loop-passed.invariant.0 in
    omega (arith, c.field_end-e-2.ensures, e.from, e.to)

pub slice_bounds-result-start : goal.slice_bounds-result-start
slice_bounds-result-start c =
    let a = c.args in
    let e = ends_at a.sep a.s.now c.loop-passed.at c.loop-passed.invariant.0 in
    omega (arith, c.field_end-e-2.ensures, e.from, e.to)

pub slice_bounds-result-end-2 : goal.slice_bounds-result-end-2
slice_bounds-result-end-2 c =
    let a = c.args in
    let e = ends_at a.sep a.s.now c.loop-passed.at c.loop-passed.invariant.0 in
    omega (arith, c.field_end-e-2.ensures, e.from, e.to)

pub returns : goal.returns
returns c =
    let a = c.args in
    sym (c.loop-passed.invariant.1 ∙ piece-here a.sep a.s.now c.loop-passed.at (a.k - c.loop-passed._passed) c.loop-passed.invariant.0 (omega arith) ∙ rw c.field_end-e-2.ensures refl)
