-- `files::judge::judge_closed` meets its contract. Assumes nothing.
use Prim.Native.Nat.{ℕ, ◌+◌}
use Rattle.laws.specs.Split.{between}
use Rattle.files.specs.Judged.{last_line}
use mathlib.Core.Path.{◌≡◌, refl, sym, ap, ◌∙◌}
use Rattle.files.proofs.JudgeLaws.{ended_at, turn-closing, turn-record, turn-fault, turn_end}
use lib.ListN.{length}
use native.Mathlib.Omega.{arith}
use borrow.Author.Rules.{rules}
use Rattle.files.proofs.judge.judge_closed.Goals as goal

pub loop-end-init : goal.loop-end-init
loop-end-init c = (search rules, (search rules, (ended_at _ 0 _ (omega arith) c.field_end-end.ensures, refl)))

pub slice_bounds-begins-count : goal.slice_bounds-begins-count
slice_bounds-begins-count c = omega (arith, c.loop-end.invariant.1.1.0.from)

pub slice_bounds-begins-start : goal.slice_bounds-begins-start
slice_bounds-begins-start c = omega (arith, c.loop-end.invariant.1.1.0.from)

pub judge_closing-requires : goal.judge_closing-requires
judge_closing-requires c =
    (c.loop-end.invariant.1.1.0.from, (omega arith, c.loop-end.invariant.1.0))

pub returns-then-begins : goal.returns-then-begins
returns-then-begins c =
    c.judge_closing.ensures ∙ sym (turn-closing c.args.kind c.loop-end.i c.loop-end.invariant.1.1.0 (omega arith) (sym c.begins.ensures ∙ c.if-begins.true)) ∙ c.loop-end.invariant.1.1.1

pub slice_bounds-check-count : goal.slice_bounds-check-count
slice_bounds-check-count c = omega (arith, c.loop-end.invariant.1.1.0.from)

pub slice_bounds-check-start : goal.slice_bounds-check-start
slice_bounds-check-start c = omega (arith, c.loop-end.invariant.1.1.0.from)

pub returns-in_err-check : goal.returns-in_err-check
returns-in_err-check c =
    let e = turn-fault c.args.kind c.loop-end.i c.loop-end.invariant.1.1.0 _ (omega arith) (sym c.begins.ensures ∙ c.if-begins.false) (sym c.check.ensures ∙ c.in_err-check.was) in
    rw (sym c.loop-end.invariant.1.1.1 ∙ e) (search rules)

pub loop-end-smaller : goal.loop-end-smaller
loop-end-smaller c =
    let n = ended_at c.args.file.now (c.loop-end.end + 1) c.field_end-end-in-loop-end.result (omega arith) c.field_end-end-in-loop-end.ensures in
    omega (arith, n.from)

pub loop-end-preserved : goal.loop-end-preserved
loop-end-preserved c =
    let n = turn-record c.args.kind c.loop-end.i c.loop-end.invariant.1.1.0 (omega arith) (sym c.begins.ensures ∙ c.if-begins.false) (sym c.check.ensures ∙ c.in_ok-check.was) in
    (omega arith, (omega (arith, c.loop-end.invariant.1.1.0.from), (ended_at _ _ _ (omega arith) c.field_end-end-in-loop-end.ensures, sym n ∙ c.loop-end.invariant.1.1.1)))

pub returns : goal.returns
returns c =
    let a = c.args in
    let e : c.loop-end.end ≡ length a.file.now = omega (arith, c.loop-end.invariant.1.1.0.to) in
    c.judge_last.ensures
    ∙ sym (turn_end a.kind c.loop-end.i c.loop-end.invariant.1.1.0 (omega arith) ∙ ap (λ (n : ℕ). last_line a.kind c.loop-end.i (between a.file.now c.loop-end.at n)) e)
    ∙ c.loop-end.invariant.1.1.1
