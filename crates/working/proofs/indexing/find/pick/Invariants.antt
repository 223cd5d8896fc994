-- `working::indexing::find::pick` meets its contract: the loop's invariant is the contract over the first tags. Assumes nothing.
use Prim.Native.Nat.{◌≤◌}
use lib.ListN.{take}
use Rattle.laws.specs.Lists.{keep}
use Rattle.working.specs.Working.{Behind}
use Rattle.working.specs.indexing.Index.{about_key, keys_behind}
use Rattle.working.proofs.indexing.find.pick.Given as goal

abbrev pub invariant-loop-tag : goal.invariant-loop-tag
invariant-loop-tag l = record {
  few : l.r ≤ l.tag-index;
  laid : Behind l.initial.out 0 (keep (about_key l.journals.regular.now l.journals.corrections.now l.number) (keys_behind l.keys (take l.tag-index l.group))) l.out l.r;
}
