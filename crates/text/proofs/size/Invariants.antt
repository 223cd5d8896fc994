-- `text::size` meets its contract.
-- Assumes nothing.
use Prim.Native.Nat.{◌-◌, ◌+◌}
use mathlib.Core.Path.{◌≡◌}
use Rattle.laws.specs.Digits.{size_of}
use Rattle.text.proofs.size.Given as goal

abbrev pub invariant-loop-k : goal.invariant-loop-k
invariant-loop-k l = size_of l.most l.n ≡ l.k + size_of (l.most - l.k) l.m
