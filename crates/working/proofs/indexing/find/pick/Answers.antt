-- `working::indexing::find::pick` meets its contract: a turn of the loop is `pick_yes` or `pick_no`. Assumes nothing.
use mathlib.Core.Path.{sym, ◌∙◌}
use native.Mathlib.Omega.{arith}
use Rattle.working.specs.indexing.Index.{about_key}
use Rattle.working.proofs.indexing.Finding.{pick-none, pick_yes, pick_no}
use Rattle.working.proofs.indexing.find.pick.Goals.{then-about, else-about}
use Rattle.working.proofs.indexing.find.pick.Goals as goal

pub loop-tag-init : goal.loop-tag-init
loop-tag-init c =
    let a = c.args in
    record { few = omega arith; laid = pick-none (about_key a.journals.now.regular.now a.journals.now.corrections.now a.number) a.out.now }

pub loop-tag-preserved : goal.loop-tag-preserved
loop-tag-preserved c =
    let a = c.args in
    let l = c.loop-tag in
    let q = about_key a.journals.now.regular.now a.journals.now.corrections.now a.number in record {
      few = elim c.if-about.branch [ then-about w ↦ rw w.r-is (omega (arith, l.invariant.few)) | else-about w ↦ rw w.r-is (omega (arith, l.invariant.few)) ];
      laid = elim c.if-about.branch [
        | then-about w ↦ rw (w.out-is, w.r-is) (pick_yes q a.keys.now a.group.now a.out.now l.out l.r l.tag-index _ l.invariant.laid c.loop-tag-test.true c.key_of-key.ensures (omega (arith, l.invariant.few, c.loop-tag-test.true, c.requires, l.auto.out)) (sym c.about.ensures ∙ w.if-about.true))
        | else-about w ↦ rw (w.out-is, w.r-is) (pick_no q a.keys.now a.group.now a.out.now l.out l.r l.tag-index _ l.invariant.laid c.loop-tag-test.true c.key_of-key.ensures (sym c.about.ensures ∙ w.if-about.false))
      ];
    }
