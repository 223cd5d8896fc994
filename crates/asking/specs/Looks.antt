-- A look: it shows from any bytes that can be shown from what a store answers, without judging whether all of it reads. It is no answer of paper 01, and
-- has no number there. Assumes nothing: these are definitions.
use Rattle.std.specs.Prelude.{Option, Some, None, Result, Ok, Err}
use Rattle.std.specs.Prelude.{cond, List, ℕ, take}
use Rattle.laws.specs.Lists.{table}
use Rattle.fields.specs.declared.number.Number.{Number}
use Rattle.model.specs.Rules.{TableLine}
use Rattle.model.specs.Model.{Filed, entry_over}
use Rattle.rules.specs.Rules.{standings}
use Rattle.store.specs.declared.journals.records.Journal.{Journal}
use Rattle.store.specs.journals.Reads.{read_files}
use Rattle.store.specs.numbers.Lines.{line_count}
use Rattle.store.specs.entry_slots.Entries.{entry_at}
use Rattle.entries.specs.declared.entry.Entry.{Entry}
use Rattle.verdict.specs.declared.step.Standing.{Standing}
use Rattle.asking.specs.declared.answer.NotShown.{NotShown}
use Rattle.asking.specs.declared.answer.NoRecord.{NoRecord}
use Rattle.asking.specs.declared.looks.NotSeen.{NotSeen}
use Rattle.asking.specs.declared.looks.RecordNotSeen.{RecordNotSeen}
use Rattle.asking.specs.declared.pairs.Pair.{Pair}
use Rattle.asking.specs.declared.record.ShownRecord.{ShownRecord}
use Rattle.asking.specs.Items.{item_at}
use Rattle.asking.specs.Showable.{is_showable}
use Rattle.asking.specs.Standing.{lines_in, entry_in, entry_before, has_entries}
use Rattle.asking.specs.Why.{why_in}
use Rattle.asking.specs.Record.{asked_in}

-- ---- the look that shows what an answer shows
abbrev pub look_by : NotShown → NotSeen
look_by NotShown.UnknownNumber = NotSeen.UnknownNumber
look_by NotShown.Unreadable = NotSeen.Unshowable

abbrev pub look_of : {A : Type 0} → Result A NotShown → Result A NotSeen
look_of (Ok x) = Ok x
look_of (Err a) = Err (look_by a)

abbrev pub record_look_by : NoRecord → RecordNotSeen
record_look_by NoRecord.Beyond = RecordNotSeen.Beyond
record_look_by NoRecord.Unreadable = RecordNotSeen.Unshowable

abbrev pub record_look : Result ShownRecord NoRecord → Result ShownRecord RecordNotSeen
record_look (Ok s) = Ok s
record_look (Err a) = Err (record_look_by a)

-- ---- and the answer that a look is turned into
abbrev pub answer_by : NotSeen → NotShown
answer_by NotSeen.UnknownNumber = NotShown.UnknownNumber
answer_by NotSeen.Unshowable = NotShown.Unreadable

abbrev pub answer_of : {A : Type 0} → Result A NotSeen → Result A NotShown
answer_of (Ok x) = Ok x
answer_of (Err l) = Err (answer_by l)

abbrev pub record_answer_by : RecordNotSeen → NoRecord
record_answer_by RecordNotSeen.Beyond = NoRecord.Beyond
record_answer_by RecordNotSeen.Unshowable = NoRecord.Unreadable

abbrev pub record_answer : Result ShownRecord RecordNotSeen → Result ShownRecord NoRecord
record_answer (Ok s) = Ok s
record_answer (Err l) = Err (record_answer_by l)

-- ---- the entry of a number: as it is held, and as it stood before the file at n arrived
unfoldable pub entry_looked : List ℕ → List ℕ → Number → Result Entry NotSeen
entry_looked t e number = cond (has_entries t e) (look_of (entry_in (lines_in t) (table (line_count t) (entry_at e)) number)) (Err NotSeen.Unshowable)

unfoldable pub before_looked : List ℕ → List ℕ → List ℕ → List ℕ → ℕ → Number → Result Entry NotSeen
before_looked t f r c n number = cond (is_showable t f r c) (look_of (entry_before (lines_in t) (read_files f r c) n number)) (Err NotSeen.Unshowable)

-- ---- where a line stands, worked out over the first n files: its entry, and the pair that confirmed last
abbrev pub stood_on : List Filed → Option (TableLine Number) → Result Standing NotSeen
stood_on files None = Err NotSeen.UnknownNumber
stood_on files (Some line) = Ok (entry_over standings files line)

unfoldable pub stood_at : List (TableLine Number) → List Filed → ℕ → ℕ → Result Standing NotSeen
stood_at lines files n i = stood_on (take n files) (item_at lines i)

unfoldable pub standing_looked : List ℕ → List ℕ → List ℕ → List ℕ → ℕ → ℕ → Result Standing NotSeen
standing_looked t f r c n i = cond (is_showable t f r c) (stood_at (lines_in t) (read_files f r c) n i) (Err NotSeen.Unshowable)

-- ---- why a number stands where it does
unfoldable pub why_looked : List ℕ → List ℕ → List ℕ → List ℕ → Number → Result (Option Pair) NotSeen
why_looked t f r c number = cond (is_showable t f r c) (look_of (why_in (lines_in t) (read_files f r c) number)) (Err NotSeen.Unshowable)

-- ---- the record at a place of a journal
unfoldable pub record_looked : List ℕ → List ℕ → List ℕ → List ℕ → Journal → ℕ → Result ShownRecord RecordNotSeen
record_looked t f r c which place = cond (is_showable t f r c) (record_look (asked_in (lines_in t) (read_files f r c) which place)) (Err RecordNotSeen.Unshowable)
