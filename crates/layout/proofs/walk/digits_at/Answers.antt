-- `layout::walk::digits_at` meets its contract: what the digits passed are worth, and what is left of the line, say what the field reads as. Assumes nothing.
use Prim.Native.Nat.{suc, ◌+◌, ◌-◌, ◌<◌}
use mathlib.Core.Path.{◌≡◌, sym, ◌∙◌}
use native.Mathlib.Omega.{arith}
use lib.ListN.{length}
use Rattle.text.proofs.Read.{bound, bound-more}
use Rattle.layout.proofs.DigitsWalk.{found_first, found-comma, found-digit, found-low, found-high, found-beyond, reach-within, reach-twelve}
use Rattle.layout.proofs.walk.digits_at.Goals as goal

pub loop-i-init : goal.loop-i-init
loop-i-init c =
    let a = c.args in
    let all : a.at + 12 - a.at ≡ 12 = omega arith in
    let none : a.at - a.at ≡ 0 = omega arith in
    (rw all (found_first a.s.now a.at), rw none (omega arith))

pub bounds-s-i : goal.bounds-s-i
bounds-s-i c =
    let a = c.args in
    omega (arith, c.reach-i-end.ensures, reach-within a.s.now a.at)

pub returns-then-b-ne44 : goal.returns-then-b-ne44
returns-then-b-ne44 c =
    let a = c.args in
    let w : c.loop-i.i < length a.s.now = omega (arith, c.reach-i-end.ensures, reach-within a.s.now a.at) in
    sym (c.loop-i.invariant.0 ∙ found-low a.s.now (a.at + 12 - c.loop-i.i) c.loop-i.n c.loop-i.i w (omega arith) c.if-b-ne44.true)

pub returns-then-b-lt48 : goal.returns-then-b-lt48
returns-then-b-lt48 c =
    let a = c.args in
    let w : c.loop-i.i < length a.s.now = omega (arith, c.reach-i-end.ensures, reach-within a.s.now a.at) in
    let more : a.at + 12 - c.loop-i.i ≡ suc (a.at + 12 - (c.loop-i.i + 1)) = omega (arith, c.reach-i-end.ensures, reach-twelve a.s.now a.at) in
    sym (c.loop-i.invariant.0 ∙ rw more (found-comma a.s.now (a.at + 12 - (c.loop-i.i + 1)) c.loop-i.n c.loop-i.i w c.if-b-ne44.false))

pub returns-then-b-gt57 : goal.returns-then-b-gt57
returns-then-b-gt57 c =
    let a = c.args in
    let w : c.loop-i.i < length a.s.now = omega (arith, c.reach-i-end.ensures, reach-within a.s.now a.at) in
    sym (c.loop-i.invariant.0 ∙ found-high a.s.now (a.at + 12 - c.loop-i.i) c.loop-i.n c.loop-i.i w (omega arith))

pub overflow_mul-n : goal.overflow_mul-n
overflow_mul-n c =
    let a = c.args in
    omega (arith, bound c.loop-i.n (c.loop-i.i - a.at) c.loop-i.invariant.1 (omega (arith, c.reach-i-end.ensures, reach-twelve a.s.now a.at)))

pub overflow_add-n : goal.overflow_add-n
overflow_add-n c =
    let a = c.args in
    omega (arith, c.from.ensures, bound c.loop-i.n (c.loop-i.i - a.at) c.loop-i.invariant.1 (omega (arith, c.reach-i-end.ensures, reach-twelve a.s.now a.at)))

pub loop-i-preserved : goal.loop-i-preserved
loop-i-preserved c =
    let a = c.args in
    let w : c.loop-i.i < length a.s.now = omega (arith, c.reach-i-end.ensures, reach-within a.s.now a.at) in
    let room : c.loop-i.i < a.at + 12 = omega (arith, c.reach-i-end.ensures, reach-twelve a.s.now a.at) in
    let more : a.at + 12 - c.loop-i.i ≡ suc (a.at + 12 - (c.loop-i.i + 1)) = omega arith in
    let passed : c.loop-i.i + 1 - a.at ≡ c.loop-i.i - a.at + 1 = omega arith in (
      c.loop-i.invariant.0 ∙ rw (more, c.from.ensures) (found-digit a.s.now (a.at + 12 - (c.loop-i.i + 1)) c.loop-i.n c.loop-i.i w (omega arith) (omega arith)),
      rw passed (bound-more c.loop-i.n c.from.result (c.loop-i.i - a.at) c.loop-i.invariant.1 (omega (arith, c.from.ensures))),
    )

pub returns : goal.returns
returns c =
    let a = c.args in
    sym (c.loop-i.invariant.0 ∙ found-beyond a.s.now a.at c.loop-i.n c.loop-i.i (omega (arith, c.reach-i-end.ensures)))
