-- The test of records for the tags meets its contract: the first field is empty, or wanted. Assumes nothing.
use mathlib.Core.Path.{sym, ap, ◌∙◌}
use mathlib.Core.Bool.{Bool, ◌||◌}
use borrow.Author.Tests.{eq-eqb, ne_eqb}
use lib.ListN.{take}
use Rattle.rules.specs.Records.{first_in}
use Rattle.working.specs.indexing.Index.{is_wanted, may_name}
use Rattle.working.proofs.indexing.index.SieveWanting.takes.Goals as goal

pub returns-then-digits-eq1 : goal.returns-then-digits-eq1
unfolding may_name
returns-then-digits-eq1 c =
    let a = c.args in
    let first = c.first_in-digits in
    eq-eqb _ 1 c.if-digits-eq1.true ∙ sym (ap (λ (b : Bool). b || is_wanted (take a.self.now.tags.count a.self.now.tags.words.now) (first_in a.kind a.bytes.now)) (eq-eqb _ 1 (sym first.ensures ∙ c.if-digits-eq1.true)))

pub returns-else-digits-eq1 : goal.returns-else-digits-eq1
unfolding may_name
returns-else-digits-eq1 c =
    let a = c.args in
    let w = take a.self.now.tags.count a.self.now.tags.words.now in
    let first = c.first_in-digits in
    c.has.ensures ∙ ap (is_wanted w) first.ensures ∙ sym (ap (λ (b : Bool). b || is_wanted w (first_in a.kind a.bytes.now)) (ne_eqb _ 1 (λ e. c.if-digits-eq1.false (first.ensures ∙ e))))
