-- `working::overview::lines::want_lines` meets its contract: what is laid, sorted. Assumes nothing.
use mathlib.Core.Path.{ap, ◌∙◌}
use Rattle.working.specs.overview.Lines.{sorted_first}
use Rattle.working.proofs.overview.lines.want_lines.Goals as goal

pub returns : goal.returns
returns c = c.sort.ensures ∙ ap (sorted_first c.args.m) c.lay_tags.ensures
