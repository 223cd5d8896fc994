-- `composing::measure::measure` meets its contract. The records that are left, measured behind the first `count`, measure as all do. Assumes nothing.
use mathlib.Core.Path.{sym, ◌∙◌}
use native.Mathlib.Omega.{arith}
use Rattle.composing.proofs.GroupLaws.{cut_of, measure-on, measure-stop, measure-done, chunk-some, chunk-length, chunk-short}
use Rattle.composing.proofs.measure.measure.Goals as goal

pub returns-then-not-fits : goal.returns-then-not-fits
returns-then-not-fits c =
    let l = c.loop-values in
    let s = c.in-Some.ensures.steps.1 in
    sym (measure-stop (cut_of l.invariant.size s.0 s.1 s.2) l.count l.bytes (sym c.fits.ensures ∙ c.if-not-fits.true)) ∙ l.invariant.left

pub overflow_add-bytes : goal.overflow_add-bytes
overflow_add-bytes c =
    let l = c.loop-values in
    let s = c.in-Some.ensures.steps.1 in
    let g = cut_of l.invariant.size s.0 s.1 s.2 in
    omega (arith, chunk-length g, chunk-short g _ (sym c.fits.ensures ∙ c.if-not-fits.false) c.len.ensures)

pub overflow_add-bytes-in-loop-values : goal.overflow_add-bytes-in-loop-values
overflow_add-bytes-in-loop-values c =
    let l = c.loop-values in
    let s = c.in-Some.ensures.steps.1 in
    let g = cut_of l.invariant.size s.0 s.1 s.2 in
    omega (arith, chunk-length g, chunk-short g _ (sym c.fits.ensures ∙ c.if-not-fits.false) c.len.ensures)

pub loop-values-preserved : goal.loop-values-preserved
loop-values-preserved c =
    let l = c.loop-values in
    let s = c.in-Some.ensures.steps.1 in
    let g = cut_of l.invariant.size s.0 s.1 s.2 in
    let fit = sym c.fits.ensures ∙ c.if-not-fits.false in
    record {
      size = c.next.ensures.steps.0 ∙ l.invariant.size;
      counted = omega (arith, chunk-length g, chunk-some g);
      short = omega (arith, chunk-length g, chunk-short g _ fit c.len.ensures);
      left = sym (measure-on g l.count l.bytes _ fit c.len.ensures) ∙ l.invariant.left;
    }

pub returns : goal.returns
returns c =
    let l = c.loop-values in
    sym (measure-done c.args.kind _ l.count l.bytes c.in-None.ensures.steps.1.0) ∙ l.invariant.left
