-- `commands::given::name_at` meets its contract: behind what is left stands no slash. Assumes nothing.
use Rattle.std.proofs.Common.{◌≡◌}
use Rattle.commands.specs.Given.{behind_slash, name_start}
use Rattle.commands.proofs.given.name_at.Given as goal

abbrev pub invariant-loop-n : goal.invariant-loop-n
invariant-loop-n l = behind_slash l.n l.path ≡ name_start l.path
