-- `store::numbers::twice::has_behind` meets its contract. Assumes nothing.
use borrow.Author.Rules.{rules}
use mathlib.Core.Path.{sym, ◌∙◌}
use Rattle.fields.specs.Number.{same_number}
use Rattle.store.proofs.numbers.Keys.{number_read, behind_here}
use Rattle.store.proofs.numbers.twice.has_behind.Goals as goal

pub returns-then-same : goal.returns-then-same
returns-then-same c = let a = c.args in
    behind_here a.lines.now a.n (same_number a.x) c.loop-i.i c.line_at.result.number (number_read a.lines.now c.loop-i.i c.line_at.result c.line_at.ensures) _ c.loop-i.invariant (search rules) (sym c.same.ensures ∙ c.if-same.true)
