-- `starting::start::begin` meets its contract. Assumes nothing.
use native.Mathlib.Omega.{arith}
use Rattle.starting.proofs.Beginning.{begun_done}
use Rattle.starting.proofs.start.begin.Goals as goal
use Rattle.std.proofs.Common.{◌≡◌, Some}
use Rattle.std.proofs.lemmas.Grind.{common_steps}

pub returns : goal.returns
returns c =
    let a = c.args in
    let j : c.judge.result ≡ Some c.in_ok-n.n = grind (arith, common_steps) in
    let s = rw j at c.judge.ensures in
    begun_done a.text.now a.table.now a.files.now a.entries.now _ _ _ a.room.now c.judge.new.room c.in_ok-n.n s.0 s.1 s.2 c.requires.0 c.enter.ensures
