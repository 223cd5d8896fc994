-- `text::spell` meets its contract: what is left of the digits spells the rest. Assumes nothing.
use mathlib.Core.Path.{refl, sym, ◌∙◌}
use native.Mathlib.Omega.{arith}
use lib.ListN.{get_or}
use Rattle.text.proofs.Read.{turn, done, no_digit, digit_between, bound, bound-more}
use Rattle.text.proofs.spell.Goals as goal

pub returns-then-not-is_ascii_digit : goal.returns-then-not-is_ascii_digit
returns-then-not-is_ascii_digit c =
    sym (c.loop-b.invariant.0 ∙ no_digit c.args.f.now c.loop-b.n c.loop-b.b-index (omega arith) (sym c.is_ascii_digit.ensures.value ∙ c.if-not-is_ascii_digit.true))

pub overflow_mul-n : goal.overflow_mul-n
overflow_mul-n c =
    omega (arith, bound c.loop-b.n c.loop-b.b-index c.loop-b.invariant.1 (omega arith))

pub overflow_add-n : goal.overflow_add-n
overflow_add-n c =
    omega (arith, c.from.ensures, digit_between (get_or c.args.f.now c.loop-b.b-index 0) (sym c.is_ascii_digit.ensures.value ∙ c.if-not-is_ascii_digit.false), bound c.loop-b.n c.loop-b.b-index c.loop-b.invariant.1 (omega arith))

pub loop-b-preserved : goal.loop-b-preserved
loop-b-preserved c =
    let d = sym c.is_ascii_digit.ensures.value ∙ c.if-not-is_ascii_digit.false in (
      c.loop-b.invariant.0 ∙ turn c.args.f.now c.loop-b.n c.loop-b.b-index (omega arith) d ∙ rw c.from.ensures refl,
      bound-more c.loop-b.n c.from.result c.loop-b.b-index c.loop-b.invariant.1 (omega (arith, c.from.ensures, digit_between (get_or c.args.f.now c.loop-b.b-index 0) d)),
    )

pub returns : goal.returns
returns c =
    sym (c.loop-b.invariant.0 ∙ done c.args.f.now c.loop-b.n c.loop-b.b-index (omega arith))
