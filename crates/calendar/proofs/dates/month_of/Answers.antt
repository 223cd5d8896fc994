-- `calendar::dates::month_of` meets its contract. The loop's invariant: the day does not lie in the months from `month` on. Assumes nothing.
use mathlib.Core.Path.{◌≡◌, refl, sym, ◌∙◌}
use native.Mathlib.Omega.{arith}
use Rattle.calendar.specs.Dates.{month_of, month_start}
use Rattle.calendar.proofs.DateLaws.{last_from-here, last_from-on, month-one}
use Rattle.calendar.proofs.dates.month_of.Goals as goal

pub loop-month-init : goal.loop-month-init
unfolding month_of
loop-month-init c = (omega arith, omega arith, refl)

pub returns-then-month_start-n : goal.returns-then-month_start-n
returns-then-month_start-n c =
    let l = c.loop-month in
    sym (l.invariant.2 ∙ last_from-here (month_start c.args.year) c.args.n l.month (omega arith) (omega (arith, c.month_start.ensures)))

pub loop-month-preserved : goal.loop-month-preserved
loop-month-preserved c =
    let l = c.loop-month in
    (omega arith, omega arith, l.invariant.2 ∙ last_from-on (month_start c.args.year) c.args.n l.month (omega arith) (omega (arith, c.month_start.ensures)))

pub returns : goal.returns
returns c =
    let e : c.loop-month.month ≡ 2 = omega arith in
    sym (c.loop-month.invariant.2 ∙ rw e (month-one c.args.year c.args.n))
