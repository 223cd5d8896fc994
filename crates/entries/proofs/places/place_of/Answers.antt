-- `entries::places::place_of` meets its contract. Assumes nothing.
use Rattle.std.proofs.Common.{rules, tests, ◌≡◌, ◌∙◌, length}
use Rattle.std.proofs.lemmas.Iterator.{YieldsList-from_slice}
use Rattle.std.proofs.lemmas.Iterator.Search.{position_from_yields_List}
use Rattle.laws.proofs.Chains.{found_as_std}
use Rattle.entries.specs.Entry.{place_count}
use Rattle.entries.specs.places.Places.{is_free, holds_open}
use Rattle.entries.proofs.places.place_of.Goals as goal

pub returns : goal.returns
unfolding is_free
returns c =
    let ps = c.args.places in
    let long : length ps ≡ place_count = search rules in
    c.unwrap_or.ensures
    ∙ (rw long at (found_as_std (holds_open c.args.k c.args.r) ps c.position.result
    (position_from_yields_List (holds_open c.args.k c.args.r) _ _ c.position.result c.position.ensures.ran (YieldsList-from_slice ps c.iter.ensures.rest) (λ x b q k. search (rules, tests)))))
