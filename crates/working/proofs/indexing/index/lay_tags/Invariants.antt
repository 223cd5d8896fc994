-- `working::indexing::index::lay_tags` meets its contract: the loop's invariant is the contract over the first i keys. Assumes nothing.
use mathlib.Core.Path.{◌≡◌}
use Prim.Native.Nat.{ℕ}
use lib.ListN.{take, get_or}
use Rattle.laws.specs.Lists.{table}
use Rattle.order.specs.groups.Groups.{tag}
use Rattle.working.specs.indexing.Index.{front_behind}
use Rattle.working.proofs.indexing.index.lay_tags.Given as goal

abbrev pub invariant-loop-i : goal.invariant-loop-i
invariant-loop-i l = take l.i l.places ≡ table l.i (λ (k : ℕ). tag (front_behind l.journals.regular.now l.journals.corrections.now (get_or l.keys k 0)) k)
