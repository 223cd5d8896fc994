-- `layout::walk::field_at` meets its contract. Assumes nothing.
use mathlib.Core.Path.{sym, ◌∙◌}
use native.Mathlib.Omega.{arith}
use Rattle.layout.proofs.WidthLaws.{past, empty-here, short, unended, unread, read, fixed_as}
use Rattle.layout.proofs.walk.field_at.Goals as goal

pub returns-then-s-at : goal.returns-then-s-at
returns-then-s-at g c = sym (past g.met.T.Field.trips g.met.T.Fixed.fixed _ _ c.if-s-at.true)

pub returns-then-s-at-eq44 : goal.returns-then-s-at-eq44
returns-then-s-at-eq44 g c = sym (empty-here g.met.T.Field.trips g.met.T.Fixed.fixed _ _ c.if-s-at.false c.if-s-at-eq44.true)

pub returns-then-s-at-2 : goal.returns-then-s-at-2
returns-then-s-at-2 g c =
    let a = c.args in
    let w = fixed_as g.met.T.Fixed.fixed c.WIDTH-width.ensures in
    sym (short g.met.T.Field.trips w a.s.now a.at c.if-s-at.false c.if-s-at-eq44.false (omega arith))

pub returns-then-s-end-ne44 : goal.returns-then-s-end-ne44
returns-then-s-end-ne44 g c =
    let a = c.args in
    let w = fixed_as g.met.T.Fixed.fixed c.WIDTH-width.ensures in
    sym (unended g.met.T.Field.trips w a.s.now a.at c.if-s-at.false c.if-s-at-eq44.false (omega arith) c.if-s-end-ne44.true)

pub returns-in_err-read : goal.returns-in_err-read
returns-in_err-read g c =
    let a = c.args in
    let w = fixed_as g.met.T.Fixed.fixed c.WIDTH-width.ensures in
    c.from_residual.ensures ∙ sym (unread g.met.T.Field.trips w a.s.now a.at c.if-s-at.false c.if-s-at-eq44.false (omega arith) (sym c.read.ensures ∙ c.in_err-read.was))

pub returns : goal.returns
returns g c =
    let a = c.args in
    let w = fixed_as g.met.T.Fixed.fixed c.WIDTH-width.ensures in
    sym (read g.met.T.Field.trips w a.s.now a.at c.if-s-at.false c.if-s-at-eq44.false (omega arith) c.if-s-end-ne44.false (sym c.read.ensures ∙ c.in_ok-read.was))
