-- `working::indexing::tags::Tags::group` meets its contract: the search finds where the group begins and ends (`group-within`, `group_at`). Assumes nothing.
use native.Mathlib.Omega.{arith}
use lib.ListN.{take, length-take}
use Rattle.working.specs.indexing.Index.{front}
use Rattle.working.proofs.indexing.Grouping.{group-within, group_at}
use Rattle.working.proofs.indexing.tags.Tags.group.Goals as goal

pub slice_bounds-result-count : goal.slice_bounds-result-count
slice_bounds-result-count c =
    let tags = c.args.self.now in
    (group-within (take tags.count tags.words.now) (front c.args.number.first.0) tags.ordered.ordered c.search-from.result c.search-to.result c.search-from.ensures c.search-to.ensures).0

pub slice_bounds-result-start : goal.slice_bounds-result-start
slice_bounds-result-start c =
    let tags = c.args.self.now in
    (group-within (take tags.count tags.words.now) (front c.args.number.first.0) tags.ordered.ordered c.search-from.result c.search-to.result c.search-from.ensures c.search-to.ensures).0

pub slice_bounds-result-end : goal.slice_bounds-result-end
slice_bounds-result-end c =
    let tags = c.args.self.now in
    (group-within (take tags.count tags.words.now) (front c.args.number.first.0) tags.ordered.ordered c.search-from.result c.search-to.result c.search-from.ensures c.search-to.ensures).1

pub offset_bounds-tags-from : goal.offset_bounds-tags-from
offset_bounds-tags-from c =
    let tags = c.args.self.now in
    let within = group-within (take tags.count tags.words.now) (front c.args.number.first.0) tags.ordered.ordered c.search-from.result c.search-to.result c.search-from.ensures c.search-to.ensures in
    omega (arith, within.0, within.1, length-take tags.count tags.words.now, tags.ordered.few)

pub returns : goal.returns
returns c =
    let tags = c.args.self.now in
    group_at (take tags.count tags.words.now) (front c.args.number.first.0) tags.ordered.ordered c.search-from.result c.search-to.result c.search-from.ensures c.search-to.ensures
