-- `store::journals::twice::gather` meets its contract. Assumes nothing.
use lib.ListN.{length, take}
use mathlib.Core.Path.{◌≡◌}
use Rattle.store.specs.journals.Twice.{keys_of}
use Rattle.store.proofs.journals.twice.gather.Given as goal

abbrev pub invariant-loop-k : goal.invariant-loop-k
invariant-loop-k l = (length l.keys ≡ length l.initial.keys) × (take l.k l.keys ≡ keys_of l.k l.files)
