-- Where the reports of a pair stand, in the model's files as in the list of files. Assumes nothing.
use mathlib.Core.Path.{◌≡◌, refl}
use mathlib.Core.Bool.{cond}
use mathlib.Core.List.{List, [], ◌∷◌, ◌++◌}
use Prim.Native.Nat.{ℕ, ◌+◌}
use Rattle.laws.specs.Lists.{table}
use Rattle.laws.proofs.Tables.{length-table}
use Rattle.entries.specs.declared.entry.Place.{Place}
use Rattle.entries.specs.Report.{publisher_of}
use Rattle.verdict.specs.declared.step.Why.{Why}
use Rattle.store.specs.journals.Files.{file_at, records_in, records_of}
use Rattle.store.specs.journals.Reads.{filed_after, filed_in, first_files, records_at}
use Rattle.store.specs.declared.journals.files.File.{File}
use Rattle.std.specs.Prelude.{Some}
use Rattle.asking.specs.pairs.Pairs.{is_listed_of, start_by, listed_as, listed_pair}
use Rattle.asking.specs.Why.{is_file_of, reports_in, start_in, stored_as, pair_of}

-- ---- the list of files and the model's files
module _ (r : ℕ → ℕ → List ℕ) where
  listed_same : (publisher day : ℕ) (before : List File) (f : File) → is_listed_of publisher day f ≡ is_file_of publisher day (filed_after r before f)
  unfolding is_listed_of is_file_of filed_after
  listed_same publisher day before f = refl

  reports-same : (before : List File) (f : File) → records_in 0 f ≡ reports_in (filed_after r before f)
  unfolding records_in reports_in filed_after
  reports-same before f = rw (length-table f.count (λ (i : ℕ). r f.kind (records_of f.kind before + i)))

  start-same : (publisher day : ℕ) (before fs : List File) → start_by publisher day fs ≡ start_in publisher day (filed_in r before fs)
  unfolding start_by start_in filed_in
  start-same publisher day before [] = refl
  start-same publisher day before (f ∷ fs) = λ j.
      cond (listed_same publisher day before f j) 0 (reports-same before f j + start-same publisher day (before ++ (f ∷ [])) fs j)

  stored_same : (fs : List File) (p : Place) → listed_as fs p ≡ stored_as (filed_in r [] fs) p
  stored_same fs p = λ j. record {
    place = start-same (publisher_of p.report).0 p.day.0 [] fs j + p.at;
    publisher = publisher_of p.report;
    day = p.day;
  }

  pair_same : (fs : List File) (w : Why) → listed_pair fs w ≡ pair_of (filed_in r [] fs) w
  pair_same fs Why.Nothing = refl
  pair_same fs (Why.Pair a b) = λ j. Some (record { first = stored_same fs a j; second = stored_same fs b j })

pub pair-files : (n : ℕ) (files regular corrections : List ℕ) (w : Why) → listed_pair (table n (file_at files)) w ≡ pair_of (first_files n files regular corrections) w
unfolding first_files
pair-files n files regular corrections w = pair_same (records_at regular corrections) (table n (file_at files)) w
