-- `starting::start::start` meets its contract. Assumes nothing.
use mathlib.Core.Path.{sym, ◌∙◌}
use Rattle.store.specs.Reads.{lent}
use Rattle.store.proofs.Checks.{long}
use Rattle.starting.proofs.Beginning.{starts_short, starts_long}
use Rattle.starting.proofs.start.start.Goals as goal
use Rattle.std.proofs.Common.{lit≤}

pub returns-then-not-long_enough : goal.returns-then-not-long_enough
returns-then-not-long_enough c = let a = c.args in
    let l = lent a.table.now a.files.now a.regular.now a.corrections.now a.entries.now in
    starts_short a.text.now l (sym c.long_enough.ensures ∙ c.if-not-long_enough.true)

pub begin-requires : goal.begin-requires
begin-requires c = let a = c.args in
    let l = lent a.table.now a.files.now a.regular.now a.corrections.now a.entries.now in
    let g = long l (sym c.long_enough.ensures ∙ c.if-not-long_enough.false) in
    (lit≤ tt, g.long-table, g.long-files, g.long-entries)

pub returns : goal.returns
returns c = let a = c.args in
    let l = lent a.table.now a.files.now a.regular.now a.corrections.now a.entries.now in
    starts_long a.text.now a.table.now a.files.now a.regular.now a.corrections.now a.entries.now _ _ _ _ (sym c.long_enough.ensures ∙ c.if-not-long_enough.false) c.begin.ensures
