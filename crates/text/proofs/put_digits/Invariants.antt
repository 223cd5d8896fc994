-- `text::put_digits` meets its contract. What is left to store is the first i of the digits.
-- Assumes nothing.
use mathlib.Core.Path.{◌≡◌}
use Rattle.laws.specs.Overlay.{overlay}
use Rattle.laws.specs.Digits.{digits}
use Rattle.text.proofs.put_digits.Given as goal

abbrev pub invariant-loop-i : goal.invariant-loop-i
invariant-loop-i l = overlay l.initial.out l.at (digits l.k l.n) ≡ overlay l.out l.at (digits l.i l.m)
