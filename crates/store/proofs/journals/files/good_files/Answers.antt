-- `store::journals::files::good_files` meets its contract. Assumes nothing.
use borrow.Author.Rules.{rules}
use mathlib.Core.Path.{sym, ap, ◌∙◌}
use Rattle.laws.proofs.Tables.{all-not}
use Rattle.store.specs.journals.Files.{file_at, good_file}
use Rattle.store.proofs.journals.files.good_files.Goals as goal

pub returns-then-not-good_file : goal.returns-then-not-good_file
returns-then-not-good_file c = let a = c.args in
    sym (all-not good_file a.n c.loop-k.k (file_at a.files.now) (search rules)
    (ap good_file (sym c.file_at.ensures.0) ∙ sym c.good_file.ensures ∙ c.if-not-good_file.true))
