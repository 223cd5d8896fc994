-- `desk::run::copy_in` meets its contract: as much as there is room for is written from the place on. Assumes nothing.
use Rattle.std.proofs.Common.{arith}
use Rattle.desk.proofs.Runs.{copied-run}
use Rattle.desk.proofs.run.copy_in.Goals as goal

pub returns-clause-copied : goal.returns-clause-copied
returns-clause-copied c =
    record { bytes = copied-run _ _ _ c.args.at _ c.min-n.result _ c.min-from.ensures c.min-n.ensures (omega arith) c.copy_from_slice.ensures.after; ends = omega (arith, c.min-from.ensures, c.min-n.ensures) }
