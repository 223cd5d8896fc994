-- `store::numbers::find::find_line` meets its contract: the tests, and what the search found. Assumes nothing.
use native.Mathlib.Omega.{arith}
use Rattle.store.proofs.numbers.Found.{found-short, found_among}
use borrow.Author.Rules.{rules}
use Rattle.store.proofs.numbers.find.find_line.Goals as goal
use Rattle.std.proofs.Common.{◌∙◌}

pub returns-then-table-lt-HEAD : goal.returns-then-table-lt-HEAD
returns-then-table-lt-HEAD c = let a = c.args in found-short a.table.now a.number (omega arith)

pub returns-then-table-n : goal.returns-then-table-n
returns-then-table-n c =
    let a = c.args in
    let n = c.line_count-n in
    found-short a.table.now a.number (rw n.ensures.0 at c.if-table-n.true)

pub returns : goal.returns
returns c =
    let a = c.args in
    let n = c.line_count-n in
    let i = c.line_of-i in
    c.then_some.ensures ∙ found_among a.table.now a.number n.result i.result n.ensures.0 (search rules) i.ensures
