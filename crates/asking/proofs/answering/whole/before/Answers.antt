-- `asking::answering::whole::before` meets its contract: what a look at a store that reads shows is its answer (`Readables`). Assumes nothing.
use mathlib.Core.Path.{sym, ap, ◌∙◌}
use Rattle.std.proofs.lemmas.Result.{err_from_is_err_and}
use Rattle.store.proofs.Checks.{reads-some, reads_none}
use Rattle.asking.specs.Looks.{answer_of}
use Rattle.asking.proofs.answering.Readables.{before_answers}
use Rattle.asking.proofs.answering.whole.before.Goals as goal

pub returns-then-not-readable : goal.returns-then-not-readable
returns-then-not-readable c = rw (reads_none _ (sym c.readable.ensures ∙ c.if-not-readable.true))

pub returns-in_default : goal.returns-in_default
returns-in_default c = rw (c.in_default.is, reads-some _ (sym c.readable.ensures ∙ c.if-not-readable.false))

pub returns-in_err-look_before : goal.returns-in_err-look_before
returns-in_err-look_before c =
    let a = c.args in
    let p = err_from_is_err_and c.from_residual.result c.from_residual.ensures.1 in
    rw (c.in-Some.is, p.1, p.2)
    (ap answer_of (sym c.in_err-look_before.was ∙ c.look_before.ensures)
    ∙ before_answers a.table.now a.files.now a.regular.now a.corrections.now a.entries.now (sym c.readable.ensures ∙ c.if-not-readable.false) a.n c.in-Some.x)

pub returns : goal.returns
returns c =
    let a = c.args in
    rw c.in-Some.is
    (ap answer_of (sym c.in_ok-look_before.was ∙ c.look_before.ensures)
    ∙ before_answers a.table.now a.files.now a.regular.now a.corrections.now a.entries.now (sym c.readable.ensures ∙ c.if-not-readable.false) a.n c.in-Some.x)
