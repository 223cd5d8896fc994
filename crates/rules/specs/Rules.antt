-- The rules of the paper, put into the model: with these the model's store is the paper's, and the model's theorems are its promises.
-- Assumes nothing: these are definitions.
use Rattle.std.specs.Prelude.{Some}
use Rattle.fields.specs.declared.number.Number.{Number}
use Rattle.fields.specs.Number.{same_number}
use Rattle.entries.specs.declared.entry.Line.{Line}
use Rattle.entries.specs.declared.entry.Entry.{Entry}
use Rattle.entries.specs.Entry.{first_entry}
use Rattle.verdict.specs.declared.verdicts.Verdict.TheVariants.{UnknownNumber}
use Rattle.verdict.specs.declared.step.Record.{Record}
use Rattle.verdict.specs.declared.step.Standing.{Standing}
use Rattle.verdict.specs.verdicts.Numbers.{number_of}
use Rattle.verdict.specs.Step.{verdict_on, entry_after, first_standing, stand_on}
use Rattle.model.specs.Rules.{TableLine, Event, Rules}
use Rattle.rules.specs.Records.{number_in, class_in, says_in}

-- a record of a journal, as the verdicts take it
abbrev pub record_of : Event → Record
record_of e = record { publisher = record { 0 = e.publisher }; day = record { 0 = e.day }; at = e.place; says = says_in e.kind e.bytes }

-- a line of the number table, likewise
abbrev pub line_by : TableLine Number → Line
line_by line = record { owner = record { 0 = line.owner }; setup = record { 0 = line.set_up } }

-- Rules that keep something of each number, from its first value on, record by record: the entry is what the store holds
abbrev pub keeping : (A : Type 0) → (Line → A) → (Line → A → Record → A) → (A → Entry) → Rules
keeping A first after entry = record {
  Number = Number;
  same = same_number;
  names = number_in;
  class = class_in;
  Entry = A;
  first = λ line. first (line_by line);
  step = λ line a e. after (line_by line) a (record_of e);
  verdict = λ line a e. number_of (verdict_on (Some (line_by line)) (entry a) (record_of e));
  unknown = λ e. number_of UnknownNumber;
}

-- the rules of the store: its entries are kept
abbrev pub rules : Rules
rules = keeping Entry first_entry entry_after (λ e. e)

-- the same rules where the pair that confirmed last is kept beside the entry
abbrev pub standings : Rules
standings = keeping Standing first_standing stand_on (λ s. s.entry)
