-- `working::gather::gather_file` meets its contract: a turn of the loop is `file-yes` or `file-no`. Assumes nothing.
use mathlib.Core.Path.{◌≡◌, sym, ◌∙◌}
use Prim.Native.Nat.{◌+◌}
use native.Mathlib.Omega.{arith}
use Rattle.store.specs.journals.Reads.{records_at}
use Rattle.working.specs.Passing.{passes_at}
use Rattle.working.proofs.PassLaws.{file-none, file-yes, file-no}
use Rattle.working.proofs.gather.gather_file.Goals.{then-takes, else-takes}
use Rattle.working.proofs.gather.gather_file.Goals as goal

pub loop-i-init : goal.loop-i-init
loop-i-init g c =
    let a = c.args in
    let f = a.records.now in
    let r = records_at f.journals.regular.now f.journals.corrections.now in
    record { few = omega arith; laid = file-none (passes_at (g.W.Wanting.takes a.wanting.now) r) r f.file f.start a.keys.now a.at }

pub loop-i-preserved : goal.loop-i-preserved
loop-i-preserved g c =
    let a = c.args in
    let f = a.records.now in
    let r = records_at f.journals.regular.now f.journals.corrections.now in
    let p = passes_at (g.W.Wanting.takes a.wanting.now) r in
    let l = c.loop-i in
    let here : g.W.Wanting.takes a.wanting.now f.file.kind (r f.file.kind (f.start + l.i)) ≡ c.takes.result = rw (← c.bytes.ensures) (sym c.takes.ensures) in record {
      few = elim c.if-takes.branch [ then-takes w ↦ rw w.r-is (omega (arith, l.invariant.few)) | else-takes w ↦ rw w.r-is (omega (arith, l.invariant.few)) ];
      laid = elim c.if-takes.branch [
        | then-takes w ↦ rw (w.keys-is, w.r-is) (file-yes p r f.file f.start a.keys.now l.keys a.at l.r l.i l.invariant.laid _ (omega (arith, l.invariant.few, c.requires, l.auto.keys)) (here ∙ w.if-takes.true) w.key.ensures)
        | else-takes w ↦ rw (w.keys-is, w.r-is) (file-no p r f.file f.start a.keys.now l.keys a.at l.r l.i l.invariant.laid (here ∙ w.if-takes.false))
      ];
    }
