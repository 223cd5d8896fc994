-- `asking::answering::whole::record` meets its contract: what a look at a store that reads shows is its answer (`Readables`). Assumes nothing.
use mathlib.Core.Path.{sym, ap, ◌∙◌}
use Rattle.std.proofs.lemmas.Result.{err_from_is_err_and}
use Rattle.store.proofs.Checks.{reads_none}
use Rattle.asking.specs.Looks.{record_answer}
use Rattle.asking.proofs.answering.Readables.{record_answers}
use Rattle.asking.proofs.answering.whole.record.Goals as goal

pub returns-then-not-readable : goal.returns-then-not-readable
returns-then-not-readable c = rw (reads_none _ (sym c.readable.ensures ∙ c.if-not-readable.true))

pub returns-in_err-look : goal.returns-in_err-look
returns-in_err-look c =
    let a = c.args in
    let p = err_from_is_err_and c.from_residual.result c.from_residual.ensures.1 in
    rw (p.1, p.2)
    (ap record_answer (sym c.in_err-look.was ∙ c.look.ensures)
    ∙ record_answers a.table.now a.files.now a.regular.now a.corrections.now a.entries.now (sym c.readable.ensures ∙ c.if-not-readable.false) a.which a.place)

pub returns : goal.returns
returns c =
    let a = c.args in
    ap record_answer (sym c.in_ok-look.was ∙ c.look.ensures)
    ∙ record_answers a.table.now a.files.now a.regular.now a.corrections.now a.entries.now (sym c.readable.ensures ∙ c.if-not-readable.false) a.which a.place
