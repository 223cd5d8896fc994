-- `calendar::dates::full_year` meets its contract. Assumes nothing.
use Rattle.std.specs.Prelude.{Some}
use Prim.Native.Nat.{ℕ, ◌+◌, ◌≤◌}
use mathlib.Core.Path.{◌≡◌}
use native.Mathlib.Omega.{arith}
use Rattle.std.proofs.lemmas.Bool.Decides.{nat_tests}
use Rattle.calendar.specs.Answers.{full_year}
use Rattle.calendar.proofs.dates.full_year.Goals as goal

pub returns-in-0-to-49 : goal.returns-in-0-to-49
unfolding full_year
returns-in-0-to-49 c = grind (arith, nat_tests)

late : (t : ℕ) → 98 ≤ t → t ≤ 99 → Some (1900 + t) ≡ full_year t
unfolding full_year
late t h k = grind (arith, nat_tests)

pub returns-in-98 : goal.returns-in-98
returns-in-98 c = late c.args.two (omega arith) (omega arith)

pub returns-in_default : goal.returns-in_default
unfolding full_year
returns-in_default c = grind (arith, nat_tests)

pub returns-in_default-2 : goal.returns-in_default-2
unfolding full_year
returns-in_default-2 c = grind (arith, nat_tests)
