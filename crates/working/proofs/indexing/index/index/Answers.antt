-- `working::indexing::index::index` meets its contract: what the callees say, put together. Assumes nothing.
use mathlib.Core.Path.{sym, ap, ◌∙◌}
use lib.ListN.{length, take}
use Rattle.working.specs.indexing.Index.{may_name, front_behind}
use Rattle.working.proofs.PassLaws.{passing-listed, room-all}
use Rattle.working.proofs.indexing.Grouping.{tags-laid}
use Rattle.working.proofs.indexing.index.index.Goals as goal

pub returns : goal.returns
returns c =
    let f = c.args.filed.now in
    let w = take c.args.wanted.now.count c.args.wanted.now.words.now in
    let g = c.gather-c in record {
      candidates = passing-listed f.n f.files.now f.journals.regular.now f.journals.corrections.now w _ g.result g.ensures;
      few = room-all f.files.now f.journals.regular.now f.journals.corrections.now (may_name w) f.n f.sound _ g.result g.ensures;
      grouped = tags-laid (front_behind f.journals.regular.now f.journals.corrections.now) (take g.result g.new.keys) _ _ g.result (ap length g.ensures.laid ∙ sym g.ensures.counted) c.lay_tags.ensures c.sort.ensures;
    }
