-- `filing::checking::check::has_room` meets its contract. Assumes nothing.
use native.Mathlib.Omega.{arith}
use mathlib.Core.Path.{ap, ◌∙◌}
use Prim.Native.Nat.{ℕ}
use Rattle.store.specs.journals.Files.{file_at, records_of}
use Rattle.laws.specs.Lists.{table}
use Rattle.filing.proofs.checking.CheckLaws.{used-fits, room-left, room-none}
use Rattle.filing.proofs.checking.check.has_room.Goals as goal
use borrow.Author.Tests.{le-ltb}

pub overflow_sub-result : goal.overflow_sub-result
overflow_sub-result c = let n = c.file_count-n in
    let q = c.records_of.ensures ∙ ap (λ (k : ℕ). records_of k (table n.result (file_at c.args.files.now))) c.number.ensures in
    omega (arith, c.most.ensures, used-fits c.args.files.now c.requires.1 c.args.kind n.result c.records_of.result n.ensures.0 q)

pub returns-then-n-lt-FILES : goal.returns-then-n-lt-FILES
returns-then-n-lt-FILES c = let n = c.file_count-n in
    let q = c.records_of.ensures ∙ ap (λ (k : ℕ). records_of k (table n.result (file_at c.args.files.now))) c.number.ensures in
    rw c.most.ensures (room-left c.args.files.now c.requires.1 c.args.kind n.result c.records_of.result n.ensures.0 q c.args.m c.if-n-lt-FILES.true)

pub returns-else-n-lt-FILES : goal.returns-else-n-lt-FILES
returns-else-n-lt-FILES c = let a = c.args in
    le-ltb _ _ c.if-n-lt-FILES.false ∙ (room-none a.files.now a.kind c.file_count-n.result a.m c.file_count-n.ensures.0 c.if-n-lt-FILES.false)
