-- `layout::correction::Correction::read` meets its contract: the second piece ends behind the first. Assumes nothing.
use mathlib.Core.Path.{sym, ◌∙◌}
use Rattle.text.proofs.Passing.{next-from}
use Rattle.layout.proofs.CorrectionWalk.{one}
use Rattle.layout.proofs.correction.Correction.read.Goals as goal

pub slice_bounds-read_reported-count : goal.slice_bounds-read_reported-count
slice_bounds-read_reported-count c =
    let p1 = sym c.read_head.ensures ∙ c.in-Some.is in
    next-from (one _ c.field_end-a.ensures c.if-s-a.false p1 c.field_end-b.ensures) c.field_end-b.ensures

pub slice_bounds-read_reported-start : goal.slice_bounds-read_reported-start
slice_bounds-read_reported-start c = slice_bounds-read_reported-count c
