-- `filing::renewing::named::lay_tags` meets its contract: the tags laid grow by one in a turn (`lay-next`). Assumes nothing.
use mathlib.Core.Path.{ap, ◌∙◌}
use Prim.Native.Nat.{ℕ}
use native.Mathlib.Omega.{arith}
use Rattle.laws.proofs.Tables.{lay-none, lay-next}
use Rattle.fields.specs.declared.number.Number.{Number}
use Rattle.order.specs.groups.Groups.{tag}
use Rattle.store.specs.journals.Reads.{records_at}
use Rattle.working.specs.indexing.Index.{front}
use Rattle.filing.specs.renewing.Turns.{filed_from, front_from}
use Rattle.filing.proofs.renewing.named.lay_tags.Goals as goal

pub loop-i-init : goal.loop-i-init
loop-i-init c =
    let r = c.args.records.now in
    lay-none (λ (k : ℕ). tag (front_from (filed_from (records_at r.journals.regular.now r.journals.corrections.now) r.file r.start) k) k) c.args.wanted.now

pub loop-i-preserved : goal.loop-i-preserved
unfolding front_from
loop-i-preserved c =
    let r = c.args.records.now in
    let l = c.loop-i in
    lay-next (λ (k : ℕ). tag (front_from (filed_from (records_at r.journals.regular.now r.journals.corrections.now) r.file r.start) k) k) l.wanted l.i c.tag.result (omega (arith, c.loop-i-test.true, c.requires, l.auto.wanted)) (c.tag.ensures ∙ ap (λ (n : Number). tag (front n.first.0) l.i) c.number_at.ensures) l.invariant
