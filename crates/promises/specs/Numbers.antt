-- The paper's number of each answer, and the values that are told with it, by the definitions beside the answers. Assumes nothing: these are definitions.
use Rattle.std.specs.Prelude.{Result, ℕ}
use Rattle.records.specs.declared.names.written.NotWritten.{NotWritten}
use Rattle.std.specs.Prelude.{ℕ}
use Rattle.std.specs.Prelude.{Option, Result, ℕ}
use Rattle.laws.specs.Told.{value_at}
use Rattle.records.specs.names.Written.{written_told}
use Rattle.starting.specs.declared.start.NotStarted.{NotStarted}
use Rattle.starting.specs.Start.{started_told}
use Rattle.filing.specs.declared.checking.answer.NotFiled.{NotFiled}
use Rattle.filing.specs.checking.Answers.{answer_told}
use Rattle.asking.specs.declared.answer.NotShown.{NotShown}
use Rattle.asking.specs.declared.answer.NoRecord.{NoRecord}
use Rattle.asking.specs.declared.answer.Unreadable.{Unreadable}
use Rattle.asking.specs.declared.pairs.Pair.{Pair}
use Rattle.asking.specs.declared.record.ShownRecord.{ShownRecord}
use Rattle.asking.specs.Numbers.{why_told, asked_told}
use Rattle.reworking.specs.Reworking.{reworked_told}

-- starting: 0 with how many lines the table has
abbrev pub started_number : Result ℕ NotStarted → ℕ
started_number a = (started_told a).number

abbrev pub started_count : Result ℕ NotStarted → ℕ
started_count a = value_at 0 (started_told a)

-- filing: 0 with the count of the journal records whose number the file names
abbrev pub filed_number : Result ℕ NotFiled → ℕ
filed_number a = (answer_told a).number

abbrev pub filed_count : Result ℕ NotFiled → ℕ
filed_count a = value_at 0 (answer_told a)

-- reworking: 0 with how many entries changed
abbrev pub reworked_number : Result ℕ Unreadable → ℕ
reworked_number a = (reworked_told a).number

abbrev pub reworked_count : Result ℕ Unreadable → ℕ
reworked_count a = value_at 0 (reworked_told a)

-- writing: 0 with the length of what was written
abbrev pub wrote_number : Result ℕ NotWritten → ℕ
wrote_number a = (written_told a).number

abbrev pub wrote_count : Result ℕ NotWritten → ℕ
wrote_count a = value_at 0 (written_told a)

-- why
abbrev pub why_said : Result (Option Pair) NotShown → ℕ
why_said a = (why_told a).number

-- a record: 0 with its publisher, its publication day, its place in its file, and the number of its verdict
abbrev pub record_number : Result ShownRecord NoRecord → ℕ
record_number a = (asked_told a).number

abbrev pub record_publisher : Result ShownRecord NoRecord → ℕ
record_publisher a = value_at 0 (asked_told a)

abbrev pub record_day : Result ShownRecord NoRecord → ℕ
record_day a = value_at 1 (asked_told a)

abbrev pub record_place : Result ShownRecord NoRecord → ℕ
record_place a = value_at 2 (asked_told a)

abbrev pub record_verdict : Result ShownRecord NoRecord → ℕ
record_verdict a = value_at 3 (asked_told a)
