-- `entries::places::lapse` meets its contract: each return is found from the test that led there. Assumes nothing.
use Rattle.laws.proofs.Tests.{rules}
use Rattle.entries.specs.places.Places.{lapsed}
use Rattle.entries.proofs.places.lapse.Goals as goal

pub returns-then-p-d : goal.returns-then-p-d
unfolding lapsed
returns-then-p-d c = rw c.free_place.ensures (search rules depth 4)

pub returns : goal.returns
unfolding lapsed
returns c = search rules depth 4
