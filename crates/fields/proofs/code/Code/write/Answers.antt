-- `fields::code::Code::write` meets its contract: a 'D', and the digits behind it. Assumes nothing.
use mathlib.Core.Path.{sym}
use Rattle.laws.proofs.Overlay.{laid_then}
use Rattle.fields.proofs.code.Code.write.Goals as goal

pub returns : goal.returns
returns c = rw (sym c.from.ensures)
    (laid_then c.put_byte-behind.ensures c.put_digits.ensures)
