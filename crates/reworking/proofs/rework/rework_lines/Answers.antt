-- `reworking::rework::rework_lines` meets its contract: a turn of the loop is `line-more`. Assumes nothing.
use native.Mathlib.Omega.{arith}
use lib.ListN.{take}
use Rattle.store.specs.journals.Reads.{read_files}
use Rattle.reworking.proofs.Lines.{none_yet, line-more, reworked-few}
use Rattle.reworking.proofs.rework.rework_lines.Goals as goal

pub loop-i-init : goal.loop-i-init
loop-i-init c =
    let a = c.args in
    let f = a.index.now.filed in
    record { few = omega arith; reworked = none_yet (take f.n (read_files f.files.now f.journals.regular.now f.journals.corrections.now)) a.table.now a.entries.now a.list.now }

pub rework_line-changed-requires : goal.rework_line-changed-requires
rework_line-changed-requires c =
    (omega (arith, c.requires.m_in_bounds.0, c.loop-i-test.true), omega (arith, c.requires.m_in_bounds.1, c.loop-i.auto.entries, c.loop-i-test.true))

pub note-count-requires : goal.note-count-requires
note-count-requires c = (
  omega (arith, c.requires.m_in_bounds.2, c.loop-i.auto.list, c.loop-i.invariant.few, c.loop-i-test.true),
  omega (arith, c.requires.m_in_bounds.3, c.loop-i.invariant.few, c.loop-i-test.true),
  omega (arith, c.requires.m_in_bounds.3, c.loop-i-test.true),
)

pub loop-i-preserved : goal.loop-i-preserved
loop-i-preserved c =
    let a = c.args in
    let f = a.index.now.filed in
    let l = c.loop-i in
    let next = line-more (take f.n (read_files f.files.now f.journals.regular.now f.journals.corrections.now)) a.table.now a.entries.now a.list.now a.m l.i c.requires.fitting c.loop-i-test.true l.entries _ l.list _ l.count c.note-count.result c.rework_line-changed.result l.invariant.reworked c.rework_line-changed.ensures c.note-count.ensures in
    record { few = reworked-few next; reworked = next }
