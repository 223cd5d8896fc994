-- `records::closing::is_closing` meets its contract. Assumes nothing.
use lib.Dec.{eqb}
use Rattle.laws.proofs.Overlay.{laid-length, laid-front}
use Rattle.laws.specs.Lists.{same_lists}
use lib.Seq.{length-take-le}
use Rattle.records.proofs.closing.ClosingLaws.{length-closing, short-closing}
use mathlib.Core.Path.{sym, ap, ◌∙◌}
use native.Mathlib.Omega.{arith}
use Rattle.records.proofs.closing.is_closing.Goals as goal

pub slice_bounds-same-end : goal.slice_bounds-same-end
slice_bounds-same-end c =
    sym (length-take-le c.put-end.result c.put-end.new.out (omega (arith, laid-length c.put-end.ensures, c.put-end.ensures.ends, length-closing c.args.n, short-closing c.args.n (omega arith))))

pub returns : goal.returns
returns c =
    c.same.ensures ∙ ap (same_lists eqb c.args.line.now) (laid-front (omega (arith, length-closing c.args.n, short-closing c.args.n (omega arith))) c.put-end.ensures)
