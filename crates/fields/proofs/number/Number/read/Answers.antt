-- `fields::number::Number::read` meets its contract. Assumes nothing.
use mathlib.Core.Path.{sym, ◌∙◌}
use Rattle.fields.proofs.NumberLaws.{digits-back, digits-counted}
use Rattle.fields.proofs.number.Number.read.Goals as goal

pub begins_block-requires : goal.begins_block-requires
begins_block-requires c =
    let e = sym c.read.ensures ∙ c.in_ok-last.was in
    ((digits-back _ _ e).1, digits-counted _ _ e)
