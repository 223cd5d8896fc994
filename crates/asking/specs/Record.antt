-- A filed record by journal and place (paper 01, "Verdicts on reports", the last paragraph). Assumes nothing: these are definitions.
use Rattle.std.specs.Prelude.{Option, Some, None, Result, Ok, Err}
use Rattle.std.specs.Prelude.{◌≡◌, List, ℕ, ◌+◌, ◌≤◌, ◌<◌}
use Rattle.laws.specs.Lists.{table}
use Rattle.fields.specs.declared.number.Number.{Number}
use Rattle.verdict.specs.declared.verdicts.Verdict.{Verdict}
use Rattle.verdict.specs.declared.verdicts.Verdict.TheVariants.{UnknownNumber}
use Rattle.verdict.specs.declared.step.Record.{Record}
use Rattle.verdict.specs.Step.{verdict_on}
use Rattle.model.specs.Rules.{TableLine, Event}
use Rattle.model.specs.Model.{Filed, journal_of, number_of, history, worked, before, line_of}
use Rattle.store.specs.journals.Files.{records_of}
use Rattle.store.specs.journals.Records.{shown_in}
use Rattle.store.specs.declared.journals.files.File.{File}
use Rattle.store.specs.declared.journals.records.Journal.{Journal}
use Rattle.store.specs.declared.journals.records.Journal.TheVariants.{Regular, Correction}
use Rattle.rules.specs.Rules.{rules, record_of, line_by}
use Rattle.asking.specs.declared.answer.NoRecord.{NoRecord}
use Rattle.asking.specs.declared.record.AskedRecord.{AskedRecord}
use Rattle.asking.specs.declared.record.ShownRecord.{ShownRecord}
use Rattle.asking.specs.declared.record.Said.{Said}
use Rattle.asking.specs.Items.{item_at}

-- the kind of the files whose records a journal holds
abbrev pub kind_of : Journal → ℕ
kind_of Regular = 0
kind_of Correction = 1

-- what a record says
abbrev pub said_by : Event → Said
said_by e = record { number = number_of rules e; rec = record_of e }

-- ---- the verdict at a record's own point of the history of its number: on the entry that the records processed before it lead to. Without a line
-- it is 12
abbrev pub point_verdict : List Filed → Event → Record → Option (TableLine Number) → Verdict
point_verdict files e rec None = UnknownNumber
point_verdict files e rec (Some line) = verdict_on (Some (line_by line)) (worked rules line (before rules e (history rules files line.number))) rec

-- ---- the record
abbrev pub asked_as : List (TableLine Number) → List Filed → Event → AskedRecord
asked_as lines files e = record {
  publisher = record { 0 = e.publisher };
  day = record { 0 = e.day };
  place = e.place;
  verdict = point_verdict files e (record_of e) (line_of rules lines (number_of rules e));
}

abbrev pub asked_of : List (TableLine Number) → List Filed → Journal → ℕ → Option Event → Result ShownRecord NoRecord
asked_of lines files which place None = Err NoRecord.Beyond
asked_of lines files which place (Some e) = Ok (record { journal = which; place = place; shown = asked_as lines files e })

-- the one at a place of a journal
unfoldable pub asked_in : List (TableLine Number) → List Filed → Journal → ℕ → Result ShownRecord NoRecord
asked_in lines files which place = asked_of lines files which place (item_at (journal_of (kind_of which) files) place)

-- ---- its bytes
-- the journal and the place that an answer shows; where it shows no record, the place is beyond all records
abbrev pub journal_shown : Result ShownRecord NoRecord → Journal
journal_shown (Ok s) = s.journal
journal_shown (Err e) = Regular

abbrev pub place_shown : Result ShownRecord NoRecord → ℕ
place_shown (Ok s) = s.place
place_shown (Err e) = 8192

-- the part of that journal at that place; beyond all records it is empty
abbrev pub part_shown : List ℕ → List ℕ → Result ShownRecord NoRecord → List ℕ
part_shown regular corrections answer = shown_in (journal_shown answer) regular corrections 8192 (place_shown answer)

-- ---- where a record stands: in the file k, of that kind, at a place of it; those of the files before it come before it in the journal
pub record InFileAt (file : ℕ → File) (n kind place k at : ℕ) : Type 0 where
  pub listed : k < n
  pub same : (file k).kind ≡ kind
  pub within : at < (file k).count
  pub sum : records_of kind (table k file) + at ≡ place

abbrev pub Locates : (ℕ → File) → ℕ → ℕ → ℕ → Option (ℕ × ℕ) → Type 0
Locates file n kind place (Some at) = InFileAt file n kind place at.0 at.1
Locates file n kind place None = records_of kind (table n file) ≤ place
