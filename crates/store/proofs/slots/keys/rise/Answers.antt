-- `store::slots::keys::rise` meets its contract. Assumes nothing.
use mathlib.Core.Path.{◌∙◌}
use Rattle.store.proofs.slots.Sorted.{rise-sorted}
use Rattle.store.proofs.slots.keys.rise.Goals as goal

pub returns : goal.returns
returns c = let a = c.args in
    record { value = c.is_rising.ensures ∙ rise-sorted a.keys.now a.n _ c.sort.ensures; keys_after = c.sort.ensures }
