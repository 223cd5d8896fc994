-- `asking::pairs::start_of` meets its contract: what was passed and what is left make the whole (`Starts`). Assumes nothing.
use mathlib.Core.Path.{sym, ◌∙◌}
use native.Mathlib.Omega.{arith}
use Rattle.store.specs.journals.Files.{file_at}
use Rattle.asking.proofs.pairs.Starts.{start-on, start-here, start-end}
use borrow.Author.Rules.{rules}
use Rattle.asking.proofs.pairs.start_of.Goals as goal

pub loop-k-init : goal.loop-k-init
loop-k-init c = (search rules, omega arith)

pub returns-then-is_listed_of : goal.returns-then-is_listed_of
returns-then-is_listed_of c =
    let a = c.args in
    let f = c.file_at-f in
    start-here a.publisher.0 a.day.0 a.n c.loop-k.k c.loop-k.start (file_at a.files.now) f.result f.ensures.0 (omega arith) c.loop-k.invariant.1 (sym c.is_listed_of.ensures ∙ c.if-is_listed_of.true)

pub loop-k-preserved : goal.loop-k-preserved
loop-k-preserved c =
    let a = c.args in
    let f = c.file_at-f in (
      search rules,
      start-on a.publisher.0 a.day.0 a.n c.loop-k.k c.loop-k.start (file_at a.files.now) f.result f.ensures.0 (omega arith) c.loop-k.invariant.1 c.records_in-start.result (sym c.is_listed_of.ensures ∙ c.if-is_listed_of.false) c.records_in-start.ensures.0,
    )

pub returns : goal.returns
returns c =
    let a = c.args in
    start-end a.publisher.0 a.day.0 a.n c.loop-k.k c.loop-k.start (file_at a.files.now) (omega arith) c.loop-k.invariant.1
