-- `entries::places::lapse_all` meets its contract. Assumes nothing.
use Rattle.std.proofs.Common.{rules, ◌≡◌, sym, length}
use Rattle.laws.proofs.Chains.{map_as_std}
use Rattle.entries.specs.Entry.{free_place, place_count}
use Rattle.entries.specs.places.Places.{lapsed}
use Rattle.entries.proofs.places.lapse_all.Goals as goal

pub returns : goal.returns
returns c =
    let ps = c.args.places in
    let long : length ps ≡ place_count = search rules in
    map_as_std _ _ (lapsed c.args.d) free_place ps c.map.result (λ x y q k. search rules) place_count (sym long) c.map.ensures.items
