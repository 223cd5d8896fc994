-- `records::names::name::Name::write` meets its contract. Assumes nothing.
use Prim.Native.Nat.{ℕ}
use mathlib.Core.Path.{sym, ap₂, ◌∙◌}
use Rattle.laws.specs.Overlay.{overlay}
use Rattle.records.specs.names.Name.{spelling}
use Rattle.records.proofs.names.NameLaws.{wrote-name}
use Rattle.records.proofs.names.name.Name.write.Goals as goal

pub returns : goal.returns
returns c =
    wrote-name c.args.self _ c.in-Some.date _ (sym c.date_of.ensures ∙ c.in-Some.is) c.if-out-lt12.false (c.put.ensures ∙ ap₂ (λ (a b : ℕ). overlay c.args.out.now 0 (spelling a b)) c.letter.ensures c.six.ensures)
