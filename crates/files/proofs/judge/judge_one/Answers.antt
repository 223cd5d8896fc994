-- `files::judge::judge_one` meets its contract. Assumes nothing.
use Rattle.std.proofs.Common.{rules}
use mathlib.Core.Path.{sym, ◌∙◌}
use native.Mathlib.Omega.{arith}
use Rattle.files.proofs.JudgeLaws.{ended_at, one-short, one-fault, one_more, one-record}
use Rattle.files.proofs.judge.judge_one.Goals as goal

pub returns-then-file-end : goal.returns-then-file-end
returns-then-file-end c = c.judge_unended.ensures ∙ sym (one-short c.args.kind (ended_at _ 0 _ (omega arith) c.field_end-end.ensures) c.if-file-end.true)

pub returns-in_err-check : goal.returns-in_err-check
returns-in_err-check c =
    rw (one-fault c.args.kind (ended_at _ 0 _ (omega arith) c.field_end-end.ensures) _ (omega arith) (sym c.check.ensures ∙ c.in_err-check.was)) (search rules)

pub returns-then-end-file : goal.returns-then-end-file
returns-then-end-file c =
    rw (sym (one_more c.args.kind (ended_at _ 0 _ (omega arith) c.field_end-end.ensures) (omega arith) (sym c.check.ensures ∙ c.in_ok-check.was) (omega arith))) (search rules)

pub returns : goal.returns
returns c =
    one-record c.args.kind (ended_at _ 0 _ (omega arith) c.field_end-end.ensures) (omega arith) (sym c.check.ensures ∙ c.in_ok-check.was) (omega arith)
