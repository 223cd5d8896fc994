-- `store::readable::readable` meets its contract. Assumes nothing.
use Rattle.std.proofs.Common.{◌≡◌, true, sym, ◌∙◌, arith}
use Rattle.std.proofs.lemmas.Grind.{common_steps}
use Rattle.store.specs.Reads.{lent, good_table, good_files}
use Rattle.store.proofs.Checks.{long, few-lines}
use Rattle.store.proofs.readable.readable.Goals as goal

pub good_table-requires : goal.good_table-requires
good_table-requires c = let a = c.args in
    let l = lent a.table.now a.files.now a.regular.now a.corrections.now a.entries.now in
    (long l (sym c.long_enough.ensures ∙ c.if-not-long_enough.false)).long-table

pub good_files-requires : goal.good_files-requires
good_files-requires c = let a = c.args in
    let l = lent a.table.now a.files.now a.regular.now a.corrections.now a.entries.now in
    (long l (sym c.long_enough.ensures ∙ c.if-not-long_enough.false)).long-files

pub good_records-requires : goal.good_records-requires
good_records-requires c = let a = c.args in
    let l = lent a.table.now a.files.now a.regular.now a.corrections.now a.entries.now in
    let g = long l (sym c.long_enough.ensures ∙ c.if-not-long_enough.false) in
    let f : good_files a.files.now ≡ true = grind (arith, common_steps) in
    (g.long-files, g.long-regular, g.long-corrections, f)

pub line_count-requires : goal.line_count-requires
line_count-requires c = let a = c.args in
    let l = lent a.table.now a.files.now a.regular.now a.corrections.now a.entries.now in
    omega (arith, (long l (sym c.long_enough.ensures ∙ c.if-not-long_enough.false)).long-table)

pub good_entries-requires : goal.good_entries-requires
good_entries-requires c = let a = c.args in
    let l = lent a.table.now a.files.now a.regular.now a.corrections.now a.entries.now in
    let t : good_table a.table.now ≡ true = grind (arith, common_steps) in
    omega (arith, (long l (sym c.long_enough.ensures ∙ c.if-not-long_enough.false)).long-entries, few-lines a.table.now t, c.line_count.ensures.0)
