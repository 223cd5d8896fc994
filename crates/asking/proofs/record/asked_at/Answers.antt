-- `asking::record::asked_at` meets its contract. Assumes nothing.
use mathlib.Core.Path.{sym, ◌∙◌}
use native.Mathlib.Omega.{arith}
use lib.ListN.{take}
use Rattle.store.specs.journals.Reads.{read_files}
use Rattle.asking.proofs.Lines.{found_below}
use Rattle.asking.proofs.Records.{asked_unknown, asked_here}
use Rattle.asking.proofs.record.asked_at.Goals as goal
use Rattle.asking.proofs.record.asked_at.Goals.{in-Some, in-None}

pub verdict_at-verdict-requires-clause-i_in_bounds : goal.verdict_at-verdict-requires-clause-i_in_bounds
verdict_at-verdict-requires-clause-i_in_bounds c =
    let a = c.args in
    omega (arith, c.requires.table_in_bounds, found_below a.table.now c.said_at-s.result.number c.requires.table_in_bounds c.in-Some.i (sym c.in-Some.is ∙ c.find_line.ensures))

pub returns : goal.returns
returns c =
    let a = c.args in
    let f = a.filed.now in
    let said = c.said_at-s in
    let files = take f.n (read_files f.files.now f.journals.regular.now f.journals.corrections.now) in
    let m = c.match-find_line in
    elim m.branch [
      | in-Some w ↦ asked_here a.table.now f.files.now f.journals.regular.now f.journals.corrections.now files a.k a.at c.requires.table_in_bounds said.result said.ensures w.in-Some.i (sym w.in-Some.is ∙ c.find_line.ensures) m.verdict (rw w.verdict-is w.verdict_at-verdict.ensures)
      | in-None w ↦ rw w.verdict-is (asked_unknown a.table.now f.files.now f.journals.regular.now f.journals.corrections.now files a.k a.at c.requires.table_in_bounds said.result said.ensures (sym w.in-None.is ∙ c.find_line.ensures))
    ]
