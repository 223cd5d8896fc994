-- `asking::why::look` meets its contract: the line that was found, and where it stands (`Whys`). Assumes nothing.
use mathlib.Core.Path.{sym, ◌∙◌}
use Rattle.asking.proofs.Whys.{why_pair}
use Rattle.asking.proofs.why.look.Goals as goal

pub returns : goal.returns
returns c =
    let a = c.args in
    let n = c.file_count-n in
    let s = c.standing_at-s in
    why_pair a.table.now a.files.now a.regular.now a.corrections.now a.number (sym c.showable.ensures ∙ c.if-not-showable.false) c.in-Some.i n.result s.result c.pair_in.result (sym c.in-Some.is ∙ c.find_line.ensures) n.ensures.0 s.ensures c.pair_in.ensures
