-- `composing::write::write` meets its contract. Assumes nothing.
use Rattle.composing.proofs.WroteLaws.{closed-held, closed-text, open-held, open-text}
use Rattle.files.specs.Writing.{file_answer}
use mathlib.Core.Path.{sym, ◌∙◌}
use Rattle.composing.proofs.write.write.Goals as goal

pub returns-then-has_closing : goal.returns-then-has_closing
unfolding file_answer
returns-then-has_closing c =
    let e = sym c.has_closing.ensures ∙ c.if-has_closing.true in
    rw (closed-held c.args.kind c.args.words.now e, closed-text c.args.kind c.args.words.now e) c.write_closed.ensures

pub returns : goal.returns
unfolding file_answer
returns c =
    let e = sym c.has_closing.ensures ∙ c.if-has_closing.false in
    rw (open-held c.args.kind c.args.words.now e, open-text c.args.kind c.args.words.now e) c.write_one.ensures
