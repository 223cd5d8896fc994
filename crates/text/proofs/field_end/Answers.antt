-- `text::field_end` meets its contract: wherever the search stands, what it has found so far says where the piece ends. Assumes nothing.
use mathlib.Core.Path.{sym, ◌∙◌}
use mathlib.Core.Logic.{⊎_elim}
use Prim.Native.Nat.{◌≤◌, ◌<◌}
use native.Mathlib.Omega.{arith}
use lib.ListN.{length}
use borrow.Author.Tests.{eq-eqb, ne_eqb}
use Rattle.laws.specs.Split.{is_sep, end_of}
use Rattle.laws.proofs.Tests.{le-or-lt}
use Rattle.laws.proofs.Loops.{first_on, first-here, first-none}
use Rattle.text.proofs.field_end.Goals as goal

pub returns-then-s-i : goal.returns-then-s-i
unfolding is_sep end_of
returns-then-s-i c =
    let a = c.args in
    sym (first-here (is_sep a.sep) 0 a.s.now c.loop-i.i (omega arith) (eq-eqb _ _ c.if-s-i.true)) ∙ c.loop-i.invariant

pub loop-i-preserved : goal.loop-i-preserved
unfolding is_sep
loop-i-preserved c =
    let a = c.args in
    sym (first_on (is_sep a.sep) 0 a.s.now c.loop-i.i (omega arith) (ne_eqb _ _ c.if-s-i.false)) ∙ c.loop-i.invariant

pub returns : goal.returns
unfolding end_of
returns c =
    let a = c.args in
    let none = first-none (is_sep a.sep) 0 a.s.now in
    ⊎_elim
    (λ (h : length a.s.now ≤ a.at). omega (arith, c.max.ensures, none a.at h))
    (λ (h : a.at < length a.s.now). omega (arith, c.max.ensures, c.loop-i.invariant, none c.loop-i.i (omega arith)))
    (le-or-lt (length a.s.now) a.at)
