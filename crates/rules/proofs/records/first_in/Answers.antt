-- `rules::records::first_in` meets its contract. Assumes nothing.
use mathlib.Core.Path.{sym}
use native.Mathlib.Omega.{arith}
use Rattle.rules.specs.Records.{first_in}
use Rattle.rules.proofs.FirstRun.{head-only}
use Rattle.rules.proofs.records.first_in.Goals as goal

pub returns-in_default : goal.returns-in_default
unfolding first_in
returns-in_default c = rw c.in-1.is (sym (head-only c.args.bytes.now (omega arith)))
