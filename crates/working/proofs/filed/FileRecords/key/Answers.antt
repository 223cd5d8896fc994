-- `working::filed::FileRecords::key` meets its contract: the class of a record of either kind is below 16. Assumes nothing.
use Prim.Native.Nat.{◌<◌}
use Rattle.working.proofs.KeyLaws.{class-below}
use borrow.Author.Rules.{rules}
use Rattle.working.proofs.filed.FileRecords.key.Goals as goal

pub key-requires : goal.key-requires
key-requires c =
    let low : c.class_in-class.result < 16 = rw c.class_in-class.ensures (class-below c.args.self.now.file.kind _ c.args.self.now.in_file.kinds) in
    (low, search rules, search rules, search rules)
