-- `working::filed::Journals::record_at` meets its contract: the kind's case, and the callee's contract. Assumes nothing.
use mathlib.Core.Path.{◌≡◌}
use native.Mathlib.Omega.{arith}
use Rattle.store.specs.journals.Records.{record_at}
use Rattle.store.specs.journals.Reads.{records_at}
use Rattle.working.proofs.filed.Journals.record_at.Goals as goal

pub returns-then-kind-eq0 : goal.returns-then-kind-eq0
unfolding records_at record_at
returns-then-kind-eq0 c = rw c.if-kind-eq0.true c.bytes.ensures

pub returns : goal.returns
unfolding records_at record_at
returns c = let e : c.args.kind ≡ 1 = omega (arith, c.requires.kinds) in rw e c.bytes-2.ensures
