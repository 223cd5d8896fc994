-- `files::judge::judge_closing` meets its contract. Assumes nothing.
use Rattle.std.proofs.Common.{rules}
use mathlib.Core.Path.{sym, ◌∙◌}
use Rattle.files.proofs.JudgeLaws.{end_more, end-here}
use Rattle.files.proofs.judge.judge_closing.Goals as goal

pub returns-then-end-file : goal.returns-then-end-file
returns-then-end-file c = rw (sym c.is_closing.ensures ∙ c.if-not-is_closing.false, end_more _ _ c.if-end-file.true) (search rules)

pub returns : goal.returns
returns c = rw (sym c.is_closing.ensures ∙ c.if-not-is_closing.false, end-here _ _ c.if-end-file.false)
