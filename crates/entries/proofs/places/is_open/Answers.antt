-- `entries::places::is_open` meets its contract. Assumes nothing.
use Rattle.std.proofs.Common.{rules, tests, ◌∙◌, sym}
use Rattle.std.proofs.lemmas.Iterator.{YieldsList-from_slice}
use Rattle.std.proofs.lemmas.Iterator.Search.{any_from_yields_List}
use Rattle.laws.proofs.Chains.{any_as_std}
use Rattle.entries.specs.places.Places.{holds_open}
use Rattle.entries.proofs.places.is_open.Goals as goal

pub returns : goal.returns
returns c =
    any_from_yields_List (holds_open c.args.k c.args.r) _ _ c.any.result c.any.ensures.ran (YieldsList-from_slice c.args.places c.iter.ensures.rest) (λ x b q k. search (rules, tests))
    ∙ sym (any_as_std (holds_open c.args.k c.args.r) c.args.places)
