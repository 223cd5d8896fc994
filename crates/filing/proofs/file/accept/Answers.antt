-- `filing::file::accept` meets its contract. Assumes nothing.
use Rattle.filing.proofs.entering.Entered.{enterable-ready}
use Rattle.filing.proofs.Accepting.{joined-readable, joined-some, accepted}
use Rattle.filing.proofs.file.accept.Goals as goal

pub enter-requires : goal.enter-requires
enter-requires c = enterable-ready c.requires

pub renew-requires : goal.renew-requires
renew-requires c =
    let can = c.requires in
    let joined = c.enter.ensures in
    record { entries_value = joined-readable _ _ _ _ _ _ _ _ can joined; files_nonzero = joined-some _ _ _ _ _ _ _ _ can joined }

pub returns : goal.returns
returns c =
    let r = c.renew.ensures in
    accepted _ _ _ _ _ _ _ _ c.requires c.enter.ensures _ _ r.value r.entries_after
