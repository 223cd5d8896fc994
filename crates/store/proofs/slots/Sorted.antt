-- The first n keys after they were sorted in their place. Assumes nothing.
use mathlib.Core.Path.{◌≡◌, ap, ◌∙◌}
use mathlib.Core.List.{List, ◌++◌}
use Prim.Native.Nat.{ℕ}
use lib.ListN.{take, drop}
use Rattle.laws.specs.Order.{sorted, rising}
use Rattle.laws.proofs.Rising.{take-sorted-any}

pub rise-sorted : (keys : List ℕ) (n : ℕ) (after : List ℕ) → after ≡ sorted (take n keys) ++ drop n keys → rising (take n after) ≡ rising (sorted (take n keys))
rise-sorted keys n after e = ap (λ (l : List ℕ). rising (take n l)) e ∙ ap rising (take-sorted-any n keys)
