-- `filing::entering::enter::put_lines` meets its contract. What is left to write, written from here on, gives what is to be written in all. Assumes nothing.
use native.Mathlib.Omega.{arith}
use borrow.Author.Rules.{rules}
use mathlib.Core.Path.{◌≡◌, refl, ◌∙◌}
use Prim.Native.Nat.{◌+◌, ◌<◌}
use lib.ListN.{length}
use Rattle.filing.proofs.entering.Writing.{line-here, room-here, places-fit, start, lines_none, lines_next, lines-done}
use Rattle.filing.proofs.entering.enter.put_lines.Goals as goal

pub loop-i-init : goal.loop-i-init
loop-i-init c = (search rules, (start _, (refl, lines_none _ _ _ c.args.m c.args.text.now)))

pub overflow_add-from : goal.overflow_add-from
overflow_add-from c =
    let l = line-here c.args.width c.args.text.now c.args.m c.requires.0 c.loop-i.i c.loop-i.at c.line_end-end.result (omega arith) c.loop-i.invariant.1.0 c.line_end-end.ensures in
    let some : 0 < c.args.width = omega (arith, l.narrow) in
    omega (arith, places-fit c.args.width (c.args.from + c.args.m) (length c.args.journal.now) some c.requires.1.0)

pub slice_bounds-put-count : goal.slice_bounds-put-count
slice_bounds-put-count c =
    let l = line-here c.args.width c.args.text.now c.args.m c.requires.0 c.loop-i.i c.loop-i.at c.line_end-end.result (omega arith) c.loop-i.invariant.1.0 c.line_end-end.ensures in
    l.from

pub slice_bounds-put-start : goal.slice_bounds-put-start
slice_bounds-put-start c =
    let l = line-here c.args.width c.args.text.now c.args.m c.requires.0 c.loop-i.i c.loop-i.at c.line_end-end.result (omega arith) c.loop-i.invariant.1.0 c.line_end-end.ensures in
    omega (arith, l.from)

pub slice_bounds-put-end : goal.slice_bounds-put-end
slice_bounds-put-end c =
    let l = line-here c.args.width c.args.text.now c.args.m c.requires.0 c.loop-i.i c.loop-i.at c.line_end-end.result (omega arith) c.loop-i.invariant.1.0 c.line_end-end.ensures in
    omega (arith, l.to)

pub put-requires : goal.put-requires
put-requires c =
    let l = line-here c.args.width c.args.text.now c.args.m c.requires.0 c.loop-i.i c.loop-i.at c.line_end-end.result (omega arith) c.loop-i.invariant.1.0 c.line_end-end.ensures in
    record { width_in_bounds = room-here c.args.width c.args.from c.args.m c.loop-i.i _ (omega arith) (rw (← c.loop-i.invariant.1.1.0) at c.requires.1.0); bytes_len_bound = (l.narrow, c.requires.1.1) }

pub overflow_add-at : goal.overflow_add-at
overflow_add-at c =
    let l = line-here c.args.width c.args.text.now c.args.m c.requires.0 c.loop-i.i c.loop-i.at c.line_end-end.result (omega arith) c.loop-i.invariant.1.0 c.line_end-end.ensures in
    omega (arith, l.to)

pub loop-i-preserved : goal.loop-i-preserved
loop-i-preserved c =
    let l = line-here c.args.width c.args.text.now c.args.m c.requires.0 c.loop-i.i c.loop-i.at c.line_end-end.result (omega arith) c.loop-i.invariant.1.0 c.line_end-end.ensures in
    let put = c.put in
    (omega arith, (l.next, (put.auto.journal ∙ c.loop-i.invariant.1.1.0, lines_next _ _ _ _ _ _ _ _ _ _ l put.ensures c.loop-i.invariant.1.1.1)))

pub shape_of-journal : goal.shape_of-journal
shape_of-journal c = c.loop-i.invariant.1.1.0

pub returns : goal.returns
returns c =
    let e : c.loop-i.i ≡ c.args.m = omega arith in
    lines-done _ _ _ _ _ _ c.requires.0 (rw e at c.loop-i.invariant.1.1.1)
