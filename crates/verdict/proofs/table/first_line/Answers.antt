-- `verdict::table::first_line` meets its contract: the lines that are left say what all say. Assumes nothing.
use mathlib.Core.Bool.{false}
use native.Mathlib.Omega.{arith}
use Rattle.laws.proofs.FirstLine.{line-applies, line-on, line-none}
use Rattle.verdict.specs.declared.verdicts.Verdict.TheVariants.{Kept}
use Rattle.verdict.proofs.table.first_line.Goals as goal

pub returns-then-applies : goal.returns-then-applies
returns-then-applies c =
    line-applies (false, Kept) c.args.lines.now c.args.otherwise c.loop-applies.applies-index c.loop-applies.invariant (omega arith) c.if-applies.true

pub loop-applies-preserved : goal.loop-applies-preserved
loop-applies-preserved c =
    line-on (false, Kept) c.args.lines.now c.args.otherwise c.loop-applies.applies-index c.loop-applies.invariant (omega arith) c.if-applies.false

pub returns : goal.returns
returns c =
    line-none (false, Kept) c.args.lines.now c.args.otherwise c.loop-applies.applies-index c.loop-applies.invariant (omega arith)
