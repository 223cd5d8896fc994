-- The records of the files of a kind, summed up file by file. Assumes nothing.
use mathlib.Core.Path.{◌≡◌, refl, sym, ap, ◌∙◌}
use mathlib.Core.List.{List, [], ◌∷◌, ◌++◌}
use Prim.Native.Nat.{ℕ, ◌+◌}
use Rattle.laws.specs.Lists.{table, total}
use Rattle.laws.proofs.Lists.{total-end}
use Rattle.laws.proofs.Tables.{all_none, all-next, all-not, table_more}
use Rattle.store.specs.journals.Files.{records_in, records_of}
use Rattle.store.specs.declared.journals.files.File.{File}

module _ (kind : ℕ) where
  pub records-end : (fs : List File) (f : File) → records_of kind (fs ++ (f ∷ [])) ≡ records_of kind fs + records_in kind f
  unfolding records_of
  records-end fs f = total-end (records_in kind) fs f

  pub records-none : (f : ℕ → File) → 0 ≡ records_of kind (table 0 f)
  unfolding records_of table total
  records-none f = refl

  pub records-next : (f : ℕ → File) (n sum : ℕ) (g : File) → g ≡ f n → sum ≡ records_of kind (table n f)
      → sum + records_in kind g ≡ records_of kind (table (n + 1) f)
  records-next f n sum g e s = rw (s, e) (sym (ap (records_of kind) (table_more n f) ∙ records-end (table n f) (f n)))

pub ruleset counting = (records-none, records-next)

pub ruleset files = (all_none, all-next, all-not)
