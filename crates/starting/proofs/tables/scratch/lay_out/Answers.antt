-- `starting::tables::scratch::lay_out` meets its contract. Assumes nothing.
use Prim.Native.Nat.{◌≤◌}
use Rattle.starting.proofs.tables.Spreading.{turn-from, turn-start, turn-open, turn_many, turn-fault, turn-next, turn_end}
use native.Mathlib.Omega.{arith}
use borrow.Author.Rules.{rules}
use mathlib.Core.Path.{refl, sym, ◌∙◌}
use Rattle.starting.proofs.tables.scratch.lay_out.Goals as goal

pub loop-at-init : goal.loop-at-init
loop-at-init c = (refl, turn-start _ _)

pub returns-then-text-end : goal.returns-then-text-end
returns-then-text-end c = let a = c.args in
    let t = c.loop-at.invariant.1 in
    turn-open a.text.now a.room.now c.loop-at.at c.loop-at.n c.loop-at.room t c.loop-at-test.true (rw c.field_end-end.ensures at c.if-text-end.true)

pub returns-then-n-ge-NUMBERS : goal.returns-then-n-ge-NUMBERS
returns-then-n-ge-NUMBERS c = let a = c.args in
    let t = c.loop-at.invariant.1 in
    turn_many a.text.now a.room.now c.loop-at.at c.loop-at.n c.loop-at.room t (rw c.field_end-end.ensures at c.if-text-end.false) c.if-n-ge-NUMBERS.true

pub slice_bounds-read_line-count : goal.slice_bounds-read_line-count
slice_bounds-read_line-count c = let a = c.args in
    let t = c.loop-at.invariant.1 in
    omega (arith, turn-from a.text.now a.room.now c.loop-at.at c.loop-at.n c.loop-at.room t, c.field_end-end.ensures)

pub slice_bounds-read_line-start : goal.slice_bounds-read_line-start
slice_bounds-read_line-start c = let a = c.args in
    let t = c.loop-at.invariant.1 in
    let h : c.loop-at.at ≤ c.field_end-end.result = omega (arith, turn-from a.text.now a.room.now c.loop-at.at c.loop-at.n c.loop-at.room t, c.field_end-end.ensures) in
    search rules

pub slice_bounds-read_line-end : goal.slice_bounds-read_line-end
slice_bounds-read_line-end c = let a = c.args in
    let t = c.loop-at.invariant.1 in
    let h : c.loop-at.at ≤ c.field_end-end.result = omega (arith, turn-from a.text.now a.room.now c.loop-at.at c.loop-at.n c.loop-at.room t, c.field_end-end.ensures) in
    search rules

pub returns-in_err-l : goal.returns-in_err-l
returns-in_err-l c = let a = c.args in
    let t = c.loop-at.invariant.1 in
    rw c.from_residual.ensures (turn-fault a.text.now a.room.now c.loop-at.at c.loop-at.n c.loop-at.room t (rw c.field_end-end.ensures at c.if-text-end.false) (rw c.field_end-end.ensures at (sym c.read_line.ensures ∙ c.in_err-l.was)))

pub put_line-requires : goal.put_line-requires
put_line-requires c = let a = c.args in
    let t = c.loop-at.invariant.1 in
    omega (arith, c.loop-at.invariant.0)

pub loop-at-smaller : goal.loop-at-smaller
loop-at-smaller c = let a = c.args in
    let t = c.loop-at.invariant.1 in
    let h : c.loop-at.at ≤ c.field_end-end.result = omega (arith, turn-from a.text.now a.room.now c.loop-at.at c.loop-at.n c.loop-at.room t, c.field_end-end.ensures) in
    search rules

pub loop-at-preserved : goal.loop-at-preserved
loop-at-preserved c = let a = c.args in
    let t = c.loop-at.invariant.1 in (
      c.put_line.auto.lines ∙ c.loop-at.invariant.0,
      rw c.field_end-end.ensures (turn-next a.text.now a.room.now c.loop-at.at c.loop-at.n c.loop-at.room t (rw c.field_end-end.ensures at c.if-text-end.false) c.in_ok-l.l _ c.if-n-ge-NUMBERS.false (rw c.field_end-end.ensures at (sym c.read_line.ensures ∙ c.in_ok-l.was)) c.put_line.ensures),
    )

pub returns : goal.returns
returns c = let a = c.args in
    let t = c.loop-at.invariant.1 in
    turn_end a.text.now a.room.now c.loop-at.at c.loop-at.n c.loop-at.room t c.loop-at-test.false
