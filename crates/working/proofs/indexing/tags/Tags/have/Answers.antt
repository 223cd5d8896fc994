-- `working::indexing::tags::Tags::have` meets its contract: where the search ends there is such a tag, or there is none (`group-some`). Assumes nothing.
use lib.ListN.{take}
use borrow.Author.Tests.{lt-ltb, le-ltb}
use Rattle.working.specs.indexing.Index.{front, is_wanted}
use Rattle.working.proofs.indexing.Grouping.{group-some}
use Rattle.working.proofs.indexing.tags.Tags.have.Goals as goal

pub returns-then-from-tags : goal.returns-then-from-tags
unfolding is_wanted
returns-then-from-tags c =
    let tags = c.args.self.now in
    let some = group-some (take tags.count tags.words.now) (front c.args.digits) tags.ordered.ordered c.search-from.result c.search-from.ensures in
    rw (lt-ltb _ _ c.if-from-tags.true) at some

pub returns-else-from-tags : goal.returns-else-from-tags
unfolding is_wanted
returns-else-from-tags c =
    let tags = c.args.self.now in
    let some = group-some (take tags.count tags.words.now) (front c.args.digits) tags.ordered.ordered c.search-from.result c.search-from.ensures in
    rw (le-ltb _ _ c.if-from-tags.false) (rw (le-ltb _ _ c.if-from-tags.false) at some)
