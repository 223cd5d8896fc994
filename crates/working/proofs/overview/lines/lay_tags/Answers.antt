-- `working::overview::lines::lay_tags` meets its contract: the tags laid grow by one in a turn (`tags-more`). Assumes nothing.
use Rattle.working.proofs.overview.Wanting.{tags-none, tags-more}
use Rattle.working.proofs.overview.lines.lay_tags.Goals as goal

pub loop-i-init : goal.loop-i-init
loop-i-init c = tags-none _ _

pub loop-i-preserved : goal.loop-i-preserved
loop-i-preserved c =
    tags-more c.args.wanted.now c.args.lines.now c.loop-i.i c.line_tag.result c.loop-i.wanted c.line_tag.ensures c.loop-i.invariant
