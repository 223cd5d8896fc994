-- Why a number stands where it does (paper 01, "Verdicts on reports", the last paragraph). Assumes nothing: these are definitions.
use Rattle.std.specs.Prelude.{Option, Some, None, Result, Ok, Err}
use Rattle.std.specs.Prelude.{Bool, cond, ◌&&◌, List, [], ◌∷◌, ℕ, ◌+◌, eqb, length}
use Rattle.fields.specs.declared.number.Number.{Number}
use Rattle.entries.specs.declared.entry.Place.{Place}
use Rattle.entries.specs.Report.{publisher_of}
use Rattle.verdict.specs.declared.step.Why.{Why}
use Rattle.model.specs.Rules.{TableLine}
use Rattle.model.specs.Model.{Filed, entry_over, line_of}
use Rattle.store.specs.journals.Records.{record_in}
use Rattle.rules.specs.Rules.{rules, standings}
use Rattle.asking.specs.declared.pairs.Stored.{Stored}
use Rattle.asking.specs.declared.answer.NotShown.{NotShown}
use Rattle.asking.specs.declared.pairs.Pair.{Pair}

-- ---- over the model's files
-- the default file of a publisher and a day
unfoldable pub is_file_of : ℕ → ℕ → Filed → Bool
is_file_of publisher day f = eqb f.kind 0 && eqb f.publisher publisher && eqb f.day day

-- how many reports a file adds to the regular journal
unfoldable pub reports_in : Filed → ℕ
reports_in f = cond (eqb f.kind 0) (length f.records) 0

-- where the records of the default file of a publisher and a day begin in the regular journal: behind those of the files before it
unfoldable pub start_in : ℕ → ℕ → List Filed → ℕ
start_in publisher day [] = 0
start_in publisher day (f ∷ fs) = cond (is_file_of publisher day f) 0 (reports_in f + start_in publisher day fs)

-- a report of a pair as the regular journal holds it. Its publisher is the gaining network of a P, the losing one of an L or a Z
abbrev pub stored_as : List Filed → Place → Stored
stored_as files p = record {
  place = start_in (publisher_of p.report).0 p.day.0 files + p.at;
  publisher = publisher_of p.report;
  day = p.day;
}

-- the pair that confirmed last, the report processed first coming first
abbrev pub pair_of : List Filed → Why → Option Pair
pair_of files Why.Nothing = None
pair_of files (Why.Pair a b) = Some (record { first = stored_as files a; second = stored_as files b })

abbrev pub why_on : List Filed → Option (TableLine Number) → Result (Option Pair) NotShown
why_on files None = Err NotShown.UnknownNumber
why_on files (Some line) = Ok (pair_of files (entry_over standings files line).why)

unfoldable pub why_in : List (TableLine Number) → List Filed → Number → Result (Option Pair) NotShown
why_in lines files number = why_on files (line_of rules lines number)

-- ---- the two reports
-- the place of a report that is shown; where none is, one beyond all reports
abbrev pub place_of : Option Stored → ℕ
place_of (Some s) = s.place
place_of None = 8192

-- the places of the pair; where an answer shows no pair, each is beyond all reports
abbrev pub first_place : Result (Option Pair) NotShown → ℕ
first_place (Ok (Some p)) = p.first.place
first_place (Ok None) = 8192
first_place (Err e) = 8192

abbrev pub second_place : Result (Option Pair) NotShown → ℕ
second_place (Ok (Some p)) = p.second.place
second_place (Ok None) = 8192
second_place (Err e) = 8192

-- the part of the regular journal at a place; beyond all reports it is empty
abbrev pub part_at : List ℕ → ℕ → List ℕ
part_at regular place = record_in 45 8192 regular place
