-- `fields::correction_code::CorrectionCode::read` meets its contract. Assumes nothing.
use mathlib.Core.Path.{sym, ◌∙◌}
use native.Mathlib.Omega.{arith}
use Rattle.text.proofs.Spelling.{fixed_back}
use Rattle.fields.proofs.correction_code.CorrectionCode.read.Goals as goal

pub overflow_cast-result : goal.overflow_cast-result
overflow_cast-result c =
    omega (arith, (fixed_back 4 c.args.f.now c.in_ok-n.n (omega arith) (sym c.read_digits.ensures ∙ c.in_ok-n.was)).1)
