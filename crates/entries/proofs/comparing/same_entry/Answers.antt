-- `entries::comparing::same_entry` meets its contract: the derived comparison is the definition's. Assumes nothing.
use mathlib.Core.Path.{◌∙◌}
use lib.Dec.{eqb}
use Rattle.laws.proofs.Chains.{same_as_std}
use Rattle.entries.specs.comparing.Same.{same_place, same_entry}
use Rattle.entries.proofs.PlaceChains.{place_as_std, last_as_std, three}
use Rattle.entries.proofs.comparing.same_entry.Goals as goal

pub returns : goal.returns
unfolding same_entry
returns c =
    let e = c.args.e in
    let f = c.args.f in
    c.eq.ensures ∙ three (eqb e.holder.0 f.holder.0) _ _ _ _ (last_as_std e.last f.last) (same_as_std same_place _ place_as_std e.places f.places)
