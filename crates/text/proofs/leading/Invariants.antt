-- `text::leading` meets its contract. Assumes nothing.
use Prim.Native.Nat.{◌-◌}
use mathlib.Core.Path.{◌≡◌}
use Rattle.laws.specs.Digits.{down}
use Rattle.text.proofs.leading.Given as goal

abbrev pub invariant-loop : goal.invariant-loop
invariant-loop l = down l.k l.n ≡ down (l.k - l.counter) l.front
