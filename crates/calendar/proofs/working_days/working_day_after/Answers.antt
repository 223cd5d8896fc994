-- `calendar::working_days::working_day_after` meets its contract. The loop's invariant: it counts from the day on (`Counting`). Assumes nothing.
use Prim.Native.Nat.{◌-◌, ◌+◌}
use mathlib.Core.Path.{◌≡◌, sym, ◌∙◌}
use native.Mathlib.Omega.{arith}
use Rattle.calendar.proofs.WorkingLaws.{counting-starts, counting-on, counting-past, counting-there, counting-ends, after-outside, after_none}
use Rattle.calendar.proofs.working_days.working_day_after.Goals as goal
use Rattle.calendar.proofs.working_days.working_day_after.Goals.{then-works+else-left-eq0-2, else-works}

pub returns-then-d-gt-LAST_DAY : goal.returns-then-d-gt-LAST_DAY
returns-then-d-gt-LAST_DAY c = after-outside _ _ c.if-d-gt-LAST_DAY.true

pub returns-then-left-eq0 : goal.returns-then-left-eq0
returns-then-left-eq0 c = rw c.if-left-eq0.true (after_none c.args.day.0 c.if-d-gt-LAST_DAY.false)

pub loop-next-init : goal.loop-next-init
loop-next-init c =
    let d = c.args.day.0 in
    let e : d + 1 - 1 ≡ d = omega arith in
    (omega arith, rw e (counting-starts d c.args.count.0 c.if-d-gt-LAST_DAY.false))

pub returns-then-left-eq0-2 : goal.returns-then-left-eq0-2
returns-then-left-eq0-2 c =
    let l = c.loop-next in
    let e : l.next - 1 + 1 ≡ l.next = omega arith in
    let on = counting-on _ _ (l.next - 1) l.left l.invariant.1 (omega arith) l.invariant.0 (rw e (sym c.works.ensures ∙ c.if-works.true)) in
    rw e at (counting-there _ _ (l.next - 1 + 1) (l.left - 1) on (omega arith))

pub loop-next-preserved : goal.loop-next-preserved
loop-next-preserved c =
    let l = c.loop-next in
    let e : l.next - 1 + 1 ≡ l.next = omega arith in
    let f : l.next + 1 - 1 ≡ l.next - 1 + 1 = omega arith in
    elim c.if-works.branch [
      | then-works+else-left-eq0-2 w ↦
          (omega arith, rw (f, w.left-is) (counting-on _ _ (l.next - 1) l.left l.invariant.1 (omega arith) l.invariant.0 (rw e (sym c.works.ensures ∙ w.if-works.true))))
      | else-works w ↦
          (omega arith, rw (f, w.left-is) (counting-past _ _ (l.next - 1) l.left l.invariant.1 (omega arith) l.invariant.0 (rw e (sym c.works.ensures ∙ w.if-works.false))))
    ]

pub returns : goal.returns
returns c = counting-ends _ _ _ _ c.loop-next.invariant.1 c.loop-next.invariant.0 (omega (arith, c.loop-next.invariant.1.inside))
