-- `order::groups::search` meets its contract: std's search by halves finds how many are below. Assumes nothing.
use borrow.Author.Rules.{rules}
use Prim.Native.Nat.{ℕ}
use lib.Dec.{ltb}
use lib.ListN.{take}
use Rattle.std.proofs.lemmas.List.Sorted.{IsPartitionPoint-from_clause}
use Rattle.order.proofs.groups.Below.{below-point, parted}
use Rattle.order.proofs.groups.search.Goals as goal

pub returns : goal.returns
returns c =
    let a = c.args in
    below-point a.key (take a.n a.keys.now) c.requires.keys_value c.partition_point.result c.partition_point.ensures.bound
    (IsPartitionPoint-from_clause (λ (x : ℕ). ltb x a.key) (take a.n a.keys.now) c.partition_point.result c.partition_point.ensures.partitioned (parted a.key (take a.n a.keys.now) c.requires.keys_value) (λ x r f k. search rules))
