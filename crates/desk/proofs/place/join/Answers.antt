-- `desk::place::join` meets its contract: three runs, one behind the other. Assumes nothing.
use Rattle.std.proofs.Common.{rules}
use Rattle.desk.proofs.Runs.{path-none, path-copied}
use Rattle.desk.proofs.place.join.Goals as goal

pub returns-then-is_empty-clause-copied : goal.returns-then-is_empty-clause-copied
returns-then-is_empty-clause-copied c = path-none c.args.folder.now c.args.name.now c.args.out.now _ (search rules) (search rules)

pub returns-clause-copied : goal.returns-clause-copied
returns-clause-copied c = path-copied c.args.folder.now (search rules) c.copy_in-a.ensures.copied c.copy_in-b.ensures.copied c.copy_in.ensures.copied
