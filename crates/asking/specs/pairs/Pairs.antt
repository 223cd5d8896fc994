-- Where the two reports of a pair stand, over the list of files. Assumes nothing: these are definitions.
use Rattle.std.specs.Prelude.{Option, Some, None}
use Rattle.std.specs.Prelude.{Bool, cond, ◌&&◌, List, [], ◌∷◌, ℕ, ◌+◌, eqb}
use Rattle.entries.specs.declared.entry.Place.{Place}
use Rattle.entries.specs.Report.{publisher_of}
use Rattle.verdict.specs.declared.step.Why.{Why}
use Rattle.store.specs.journals.Files.{records_in}
use Rattle.store.specs.declared.journals.files.File.{File}
use Rattle.asking.specs.declared.pairs.Stored.{Stored}
use Rattle.asking.specs.declared.pairs.Pair.{Pair}

-- the default file of a publisher and a day
unfoldable pub is_listed_of : ℕ → ℕ → File → Bool
is_listed_of publisher day f = eqb f.kind 0 && eqb f.publisher publisher && eqb f.day day

-- where its reports begin in the regular journal: behind those of the files before it
unfoldable pub start_by : ℕ → ℕ → List File → ℕ
start_by publisher day [] = 0
start_by publisher day (f ∷ fs) = cond (is_listed_of publisher day f) 0 (records_in 0 f + start_by publisher day fs)

-- a report of a pair as the regular journal holds it: its file is that of its publisher on its publication day
abbrev pub listed_as : List File → Place → Stored
listed_as files p = record {
  place = start_by (publisher_of p.report).0 p.day.0 files + p.at;
  publisher = publisher_of p.report;
  day = p.day;
}

-- the pair, the report processed first coming first
abbrev pub listed_pair : List File → Why → Option Pair
listed_pair files Why.Nothing = None
listed_pair files (Why.Pair a b) = Some (record { first = listed_as files a; second = listed_as files b })
