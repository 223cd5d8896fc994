-- `store::journals::files::good_files` meets its contract. Assumes nothing.
use mathlib.Core.Bool.{true}
use mathlib.Core.Path.{◌≡◌}
use Rattle.laws.specs.Lists.{table, all}
use Rattle.store.specs.journals.Files.{file_at, good_file}
use Rattle.store.proofs.journals.files.good_files.Given as goal

abbrev pub invariant-loop-k : goal.invariant-loop-k
invariant-loop-k l = all good_file (table l.k (file_at l.files)) ≡ true
