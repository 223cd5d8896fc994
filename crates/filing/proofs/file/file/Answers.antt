-- `filing::file::file` meets its contract. Assumes nothing.
use mathlib.Core.Path.{sym, ◌∙◌}
use Rattle.store.specs.Reads.{lent}
use Rattle.store.proofs.Checks.{long}
use Rattle.store.proofs.Whole.{whole_long, whole-files}
use Rattle.filing.proofs.checking.Deciding.{passed-enterable}
use Rattle.filing.proofs.Accepting.{files-unreadable, files-refused, files-accepted}
use Rattle.filing.proofs.file.file.Goals as goal
use Rattle.std.proofs.lemmas.Result.{err_from_is_err_and}

pub returns-then-not-readable : goal.returns-then-not-readable
returns-then-not-readable c =
    let a = c.args in
    let b = lent a.table.now a.files.now a.regular.now a.corrections.now a.entries.now in
    files-unreadable b a.kind a.publisher.now a.day.0 a.text.now (sym c.readable.ensures ∙ c.if-not-readable.true)

pub check-requires : goal.check-requires
check-requires c =
    let a = c.args in
    let b = lent a.table.now a.files.now a.regular.now a.corrections.now a.entries.now in
    let h = sym c.readable.ensures ∙ c.if-not-readable.false in
    ((long b (whole_long b h)).long-files, whole-files b h)

pub accept-requires : goal.accept-requires
accept-requires c =
    let a = c.args in
    let b = lent a.table.now a.files.now a.regular.now a.corrections.now a.entries.now in
    let h = sym c.readable.ensures ∙ c.if-not-readable.false in
    passed-enterable b h a.kind a.day.0 a.text.now _ _ a.publisher.now (sym c.check.ensures ∙ c.in_ok-code.was)

pub returns-in_err-code : goal.returns-in_err-code
returns-in_err-code c =
    let a = c.args in
    let b = lent a.table.now a.files.now a.regular.now a.corrections.now a.entries.now in
    let h = sym c.readable.ensures ∙ c.if-not-readable.false in
    let p = err_from_is_err_and c.from_residual.result c.from_residual.ensures.1 in
    rw (p.1, p.2) (files-refused b a.kind a.publisher.now a.day.0 a.text.now h _ (sym c.check.ensures ∙ c.in_err-code.was))

pub returns : goal.returns
returns c =
    let a = c.args in
    let b = lent a.table.now a.files.now a.regular.now a.corrections.now a.entries.now in
    let h = sym c.readable.ensures ∙ c.if-not-readable.false in
    files-accepted b a.kind a.publisher.now a.day.0 a.text.now h _ _ _ _ (sym c.check.ensures ∙ c.in_ok-code.was) c.accept.ensures
