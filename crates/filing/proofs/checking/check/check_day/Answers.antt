-- `filing::checking::check::check_day` meets its contract. Assumes nothing.
use mathlib.Core.Path.{sym, ◌∙◌}
use Rattle.files.specs.Judged.{judged_file}
use Rattle.filing.specs.entering.Entering.{file_kind}
use Rattle.filing.proofs.checking.CheckLaws.{any_in_files, day-outside, day-alike, day-new}
use Rattle.filing.proofs.checking.check.check_day.Goals as goal
use native.Mathlib.Omega.{arith}
use Rattle.store.proofs.Checks.{few-files}

pub filed_already-requires : goal.filed_already-requires
filed_already-requires c = omega (arith, few-files c.args.files.now c.requires.1)

pub returns-then-not-in_calendar : goal.returns-then-not-in_calendar
returns-then-not-in_calendar c = let a = c.args in
    day-outside a.files.now a.kind a.code a.day.0 (judged_file (file_kind a.kind) a.text.now)
    (sym c.in_calendar.ensures ∙ c.if-not-in_calendar.true)

pub returns-then-filed_already : goal.returns-then-filed_already
returns-then-filed_already c = let a = c.args in
    day-alike a.files.now a.kind a.code a.day.0 (judged_file (file_kind a.kind) a.text.now)
    (sym c.in_calendar.ensures ∙ c.if-not-in_calendar.false)
    c.number.result c.number.ensures c.filed_already.result (c.filed_already.ensures ∙ any_in_files _ a.files.now) c.if-filed_already.true

pub returns : goal.returns
returns c = let a = c.args in
    day-new a.files.now a.kind a.code a.day.0 (judged_file (file_kind a.kind) a.text.now)
    (sym c.in_calendar.ensures ∙ c.if-not-in_calendar.false)
    c.number.result c.number.ensures c.filed_already.result (c.filed_already.ensures ∙ any_in_files _ a.files.now) c.if-filed_already.false
    c.check_text.result c.check_text.ensures
