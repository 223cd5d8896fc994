-- `working::overview::lines::lay_tags` meets its contract: the loop's invariant is the contract over the first i lines. Assumes nothing.
use mathlib.Core.Path.{◌≡◌}
use Rattle.laws.specs.Lists.{table}
use Rattle.laws.specs.Overlay.{overlay}
use Rattle.working.specs.overview.Lines.{line_tag}
use Rattle.working.proofs.overview.lines.lay_tags.Given as goal

abbrev pub invariant-loop-i : goal.invariant-loop-i
invariant-loop-i l = l.wanted ≡ overlay l.initial.wanted 0 (table l.i (line_tag l.lines))
