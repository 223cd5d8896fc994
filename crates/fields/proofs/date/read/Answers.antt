-- `fields::date::read` meets its contract. Assumes nothing.
use mathlib.Core.Path.{sym, ◌∙◌}
use native.Mathlib.Omega.{arith}
use Rattle.text.proofs.Spelling.{fixed_back}
use Rattle.fields.proofs.date.read.Goals as goal

pub overflow_cast-n-3 : goal.overflow_cast-n-3
overflow_cast-n-3 c =
    omega (arith, (fixed_back 8 c.args.f.now c.in_ok-n.n (omega arith) (sym c.read_digits.ensures ∙ c.in_ok-n.was)).1)
