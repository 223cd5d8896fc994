-- `files::judge::judge_closed` meets its contract. Assumes nothing.
use Prim.Native.Nat.{◌≤◌, ◌-◌}
use Rattle.laws.specs.Split.{split, EndsAt}
use Rattle.files.specs.Judged.{judged}
use mathlib.Core.Path.{◌≡◌}
use lib.ListN.{length, drop}
use Rattle.files.proofs.judge.judge_closed.Given as goal

abbrev pub invariant-loop-end : goal.invariant-loop-end
invariant-loop-end l = (l.at ≤ length l.file) × ((l.i ≤ l.at) × (EndsAt 13 l.file l.at l.end × (judged l.kind l.i (split 13 (drop l.at l.file)) ≡ judged l.kind 0 (split 13 l.file))))

abbrev pub decreases-loop-end : goal.decreases-loop-end
decreases-loop-end l = length l.file - l.end
