-- `fields::code::Code::read` meets its contract. Assumes nothing.
use mathlib.Core.Path.{sym, ◌∙◌}
use native.Mathlib.Omega.{arith}
use Rattle.fields.proofs.CodeLaws.{three-below}
use Rattle.fields.proofs.code.Code.read.Goals as goal

pub overflow_cast-result : goal.overflow_cast-result
overflow_cast-result c =
    omega (arith, three-below c.args.f.now c.in_ok-n.n (omega arith) (sym c.read_digits.ensures ∙ c.in_ok-n.was))
