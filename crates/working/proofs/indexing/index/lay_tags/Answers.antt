-- `working::indexing::index::lay_tags` meets its contract: the tags laid grow by one in a turn (`lay-next`). Assumes nothing.
use mathlib.Core.Path.{ap, ◌∙◌}
use Prim.Native.Nat.{ℕ}
use native.Mathlib.Omega.{arith}
use lib.ListN.{get_or}
use Rattle.laws.proofs.Tables.{lay-none, lay-next}
use Rattle.fields.specs.declared.number.Number.{Number}
use Rattle.order.specs.groups.Groups.{tag}
use Rattle.working.specs.indexing.Index.{front, front_behind}
use Rattle.working.proofs.indexing.index.lay_tags.Goals as goal

pub loop-i-init : goal.loop-i-init
loop-i-init c =
    let a = c.args in
    lay-none (λ (k : ℕ). tag (front_behind a.journals.now.regular.now a.journals.now.corrections.now (get_or a.keys.now k 0)) k) a.places.now

pub loop-i-preserved : goal.loop-i-preserved
unfolding front_behind
loop-i-preserved c =
    let a = c.args in
    let l = c.loop-i in
    lay-next (λ (k : ℕ). tag (front_behind a.journals.now.regular.now a.journals.now.corrections.now (get_or a.keys.now k 0)) k) l.places l.i c.tag.result (omega (arith, c.loop-i-test.true, c.requires, l.auto.places)) (c.tag.ensures ∙ ap (λ (n : Number). tag (front n.first.0) l.i) c.number_behind.ensures) l.invariant
