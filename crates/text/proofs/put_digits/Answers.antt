-- `text::put_digits` meets its contract. What is left to store is the first i of the digits.
-- Assumes nothing.
use mathlib.Core.Path.{sym, ◌∙◌}
use native.Mathlib.Omega.{arith}
use Rattle.laws.proofs.Digits.{put-turn, put-none, length_digits}
use Rattle.text.proofs.put_digits.Goals as goal

pub loop-i-preserved : goal.loop-i-preserved
loop-i-preserved c =
    c.loop-i.invariant ∙ put-turn c.loop-i.out c.args.at c.loop-i.i c.loop-i.m c.digit.result (omega arith) c.digit.ensures

pub returns : goal.returns
returns c =
    record {
      bytes = sym (c.loop-i.invariant ∙ put-none c.loop-i.out c.args.at c.loop-i.i c.loop-i.m (omega arith));
      ends = rw length_digits;
    }
