-- `entries::places::is_full` meets its contract. Assumes nothing.
use Rattle.std.proofs.Common.{rules, tests, ◌∙◌}
use Rattle.std.proofs.lemmas.Iterator.{YieldsList-from_slice}
use Rattle.std.proofs.lemmas.Iterator.Search.{all_from_yields_List}
use Rattle.entries.specs.declared.entry.Place.{Place}
use Rattle.entries.proofs.PlaceChains.{full_as_std}
use Rattle.entries.proofs.places.is_full.Goals as goal

pub returns : goal.returns
returns c =
    all_from_yields_List (λ (p : Place). p.taken) _ _ c.all.result c.all.ensures.ran (YieldsList-from_slice c.args.places c.iter.ensures.rest) (λ x b q k. search (rules, tests))
    ∙ full_as_std c.args.places
