-- What a whole store answers: 44 before all else, then 12 for a number that is malformed or not in the table. Assumes nothing: these are definitions.
use Rattle.fields.specs.declared.number.Number.{Number}
use Rattle.fields.specs.declared.number.Digits.{Digits}
use Rattle.std.specs.Prelude.{Option, Some, None, Result, Err}
use Rattle.std.specs.Prelude.{List, ℕ}
use Rattle.fields.specs.Number.{digits_field_of, number_of}
use Rattle.store.specs.declared.journals.records.Journal.{Journal}
use Rattle.store.specs.Reads.{Held}
use Rattle.entries.specs.declared.entry.Entry.{Entry}
use Rattle.asking.specs.declared.answer.NotShown.{NotShown}
use Rattle.asking.specs.declared.answer.NoRecord.{NoRecord}
use Rattle.asking.specs.declared.pairs.Pair.{Pair}
use Rattle.asking.specs.declared.record.ShownRecord.{ShownRecord}
use Rattle.asking.specs.Standing.{entry_in, entry_before}
use Rattle.asking.specs.Why.{why_in}
use Rattle.asking.specs.Record.{asked_in}

-- the number that two fields give
abbrev pub second_field : Option Digits → List ℕ → Option Number
second_field (Some d) last = number_of d last
second_field None last = None

abbrev pub number_given : List ℕ → List ℕ → Option Number
number_given first last = second_field (digits_field_of first) last

abbrev pub entry_asked : Option Held → Option Number → Result Entry NotShown
entry_asked None x = Err NotShown.Unreadable
entry_asked (Some h) (Some x) = entry_in h.lines h.entries x
entry_asked (Some h) None = Err NotShown.UnknownNumber

abbrev pub before_asked : Option Held → ℕ → Option Number → Result Entry NotShown
before_asked None n x = Err NotShown.Unreadable
before_asked (Some h) n (Some x) = entry_before h.lines h.files n x
before_asked (Some h) n None = Err NotShown.UnknownNumber

abbrev pub why_asked : Option Held → Option Number → Result (Option Pair) NotShown
why_asked None x = Err NotShown.Unreadable
why_asked (Some h) (Some x) = why_in h.lines h.files x
why_asked (Some h) None = Err NotShown.UnknownNumber

abbrev pub record_asked : Option Held → Journal → ℕ → Result ShownRecord NoRecord
record_asked None which place = Err NoRecord.Unreadable
record_asked (Some h) which place = asked_in h.lines h.files which place
