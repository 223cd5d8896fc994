-- `entries::comparing::same_places` meets its contract: the derived comparison is the definition's. Assumes nothing.
use mathlib.Core.Path.{◌∙◌}
use Rattle.laws.proofs.Chains.{same_as_std}
use Rattle.entries.specs.comparing.Same.{same_place}
use Rattle.entries.proofs.PlaceChains.{place_as_std}
use Rattle.entries.proofs.comparing.same_places.Goals as goal

pub returns : goal.returns
returns c = c.eq.ensures ∙ same_as_std same_place _ place_as_std c.args.ps c.args.qs
