-- `records::names::name::is_framed` meets its contract. Assumes nothing.
use mathlib.Core.Bool.{true, false}
use mathlib.Core.Path.{refl, sym, ◌∙◌}
use Rattle.records.proofs.names.NameLaws.{framed-tests}
use Rattle.records.proofs.names.name.is_framed.Goals as goal

pub returns-then-starts_with : goal.returns-then-starts_with
returns-then-starts_with c =
    framed-tests _ true _ c.if-s-ne12.false (sym c.if-starts_with.true ∙ c.starts_with.ensures.value) c.ends_with.ensures.value

pub returns-else-starts_with : goal.returns-else-starts_with
returns-else-starts_with c =
    c.if-starts_with.false ∙ framed-tests c.args.s.now false _ c.if-s-ne12.false (sym c.if-starts_with.false ∙ c.starts_with.ensures.value) refl
