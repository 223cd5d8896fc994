-- `fields::number::begins_block` meets its contract. Assumes nothing.
use mathlib.Core.Path.{sym, ◌∙◌}
use Rattle.fields.proofs.NumberLaws.{fits-leads}
use Rattle.fields.proofs.number.begins_block.Goals as goal

pub decades-requires : goal.decades-requires
decades-requires c =
    (sym c.leading.ensures ∙ c.if-leading-eq1.true, rw c.requires.1 at (fits-leads _ c.requires.0))
