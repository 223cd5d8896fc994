-- `store::slots::run::write` meets its contract: one byte more is written in a turn (`copy_more`). Assumes nothing.
use mathlib.Core.Path.{refl}
use lib.ListN.{length-set}
use Rattle.laws.proofs.Overlay.{overlay-none, copy_more}
use Rattle.store.proofs.slots.run.write.Goals as goal

pub loop-i-init : goal.loop-i-init
loop-i-init c = (refl, overlay-none _ _)

pub loop-i-preserved : goal.loop-i-preserved
loop-i-preserved c =
    let a = c.args in
    (simp length-set c.loop-i.invariant.0, rw c.loop-i.invariant.1 (copy_more a.dst.now a.at a.src.now c.loop-i.i c.loop-i-test.true))
