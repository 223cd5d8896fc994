-- `reworking::rework::rework` meets its contract. Assumes nothing.
use mathlib.Core.Path.{sym, ◌∙◌}
use native.Mathlib.Omega.{arith}
use Rattle.store.specs.journals.Files.{file_count}
use Rattle.store.specs.Reads.{lent}
use Rattle.store.proofs.Checks.{long, few-lines}
use Rattle.store.proofs.Whole.{whole_long, whole-table}
use Rattle.working.proofs.Readable.{readable-sound}
use Rattle.asking.proofs.Standings.{among_below}
use Rattle.reworking.proofs.Answers.{store-fitting, rework-short, rework-unread, rework-done}
use Rattle.reworking.proofs.rework.rework.Goals as goal

pub returns-then-list-lt-NUMBERS : goal.returns-then-list-lt-NUMBERS
returns-then-list-lt-NUMBERS c =
    let a = c.args in
    rework-short (lent a.table.now a.files.now a.regular.now a.corrections.now a.entries.now) a.n a.list.now c.if-list-lt-NUMBERS.true

pub returns-then-not-readable : goal.returns-then-not-readable
returns-then-not-readable c =
    let a = c.args in
    rework-unread (lent a.table.now a.files.now a.regular.now a.corrections.now a.entries.now) a.n a.list.now (omega (arith, c.if-list-lt-NUMBERS.false)) (sym c.readable.ensures ∙ c.if-not-readable.true)

pub files_among-requires : goal.files_among-requires
files_among-requires c =
    let a = c.args in
    let b = lent a.table.now a.files.now a.regular.now a.corrections.now a.entries.now in
    omega (arith, (long b (whole_long b (sym c.readable.ensures ∙ c.if-not-readable.false))).long-files)

pub line_count-m-requires : goal.line_count-m-requires
line_count-m-requires c =
    let a = c.args in
    let b = lent a.table.now a.files.now a.regular.now a.corrections.now a.entries.now in
    omega (arith, (long b (whole_long b (sym c.readable.ensures ∙ c.if-not-readable.false))).long-table)

pub invariant_of-filed : goal.invariant_of-filed
invariant_of-filed c =
    let a = c.args in
    let whole = sym c.readable.ensures ∙ c.if-not-readable.false in
    record { sound = readable-sound a.table.now a.files.now a.regular.now a.corrections.now a.entries.now c.files_among.result whole (among_below a.n (file_count a.files.now) c.files_among.result c.files_among.ensures) }

pub rework_all-requires : goal.rework_all-requires
rework_all-requires c =
    let a = c.args in
    let b = lent a.table.now a.files.now a.regular.now a.corrections.now a.entries.now in
    let whole = sym c.readable.ensures ∙ c.if-not-readable.false in
    let room = long b (whole_long b whole) in
    let few = few-lines a.table.now (whole-table b whole) in
    let m = c.line_count-m.ensures.0 in record {
      m_in_bounds = (omega (arith, room.long-table, few, m), omega (arith, room.long-entries, few, m), omega (arith, c.if-list-lt-NUMBERS.false, few, m), omega (arith, few, m));
      fitting = store-fitting b whole c.files_among.result c.line_count-m.result m;
    }

pub returns : goal.returns
returns c =
    let a = c.args in
    rework-done (lent a.table.now a.files.now a.regular.now a.corrections.now a.entries.now) a.n a.list.now (omega (arith, c.if-list-lt-NUMBERS.false)) (sym c.readable.ensures ∙ c.if-not-readable.false) c.files_among.result c.line_count-m.result c.rework_all.result _ _ c.files_among.ensures c.line_count-m.ensures.0 c.rework_all.ensures
