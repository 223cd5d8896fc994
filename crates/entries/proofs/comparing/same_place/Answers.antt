-- `entries::comparing::same_place` meets its contract: the derived comparison is the definition's. Assumes nothing.
use mathlib.Core.Path.{◌∙◌}
use Rattle.entries.proofs.PlaceChains.{place_as_std}
use Rattle.entries.proofs.comparing.same_place.Goals as goal

pub returns : goal.returns
returns c = c.eq.ensures ∙ place_as_std c.args.p c.args.q
