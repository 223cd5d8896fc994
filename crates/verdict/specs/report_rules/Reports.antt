-- The verdict on a report (paper 01, "Verdicts on reports"), as its table has it. Assumes nothing: these are definitions.
use Rattle.entries.specs.declared.entry.Line.{Line}
use Rattle.std.specs.Prelude.{Option}
use Rattle.std.specs.Prelude.{Bool, not, ◌&&◌, List, [], ◌∷◌, ◌++◌, leb, ltb}
use Rattle.laws.specs.Lists.{first_line}
use Rattle.calendar.specs.declared.dates.CalendarDays.{CalendarDays}
use Rattle.fields.specs.declared.code.Code.{Code}
use Rattle.verdict.specs.declared.verdicts.Verdict.{Verdict}
use Rattle.verdict.specs.declared.verdicts.Verdict.TheVariants.{Kept, Confirmed, UnknownNumber, WrongPublisher, SameNetworks, NotBeforePublication, BeforeSetUp, BeforeLast, EqualsLast, NotToOwner, AlreadyOpen, TooSoon, Full}
use Rattle.entries.specs.declared.report.Report.{Report}
use Rattle.entries.specs.declared.entry.Entry.{Entry}
use Rattle.entries.specs.Report.{same_code, publisher_of}
use Rattle.entries.specs.Entry.{is_missing, line_in}
use Rattle.entries.specs.places.Places.{is_open, is_full}
use Rattle.verdict.specs.report_tests.Tests.{before_last, equals_last, to_other, partner_open, zed_open, too_soon}

-- The table in three pieces, line by line. `n` is what the number table has for the number, `e` its entry, `from` the publisher, `day` the publication
-- day.

-- what is asked of every record first
abbrev pub unknown_line : Option Line → List (Bool × Verdict)
unknown_line n = (is_missing n, UnknownNumber) ∷ []  -- 12

abbrev pub report_lines : Option Line → Entry → Code → CalendarDays → Report → List (Bool × Verdict)
report_lines n e from day r =
    (not (same_code from (publisher_of r)), WrongPublisher)  -- 13
    ∷ (same_code r.losing r.gaining, SameNetworks)  -- 14
    ∷ (leb day.0 r.date.0, NotBeforePublication)  -- 15
    ∷ (ltb r.date.0 (line_in n).setup.0, BeforeSetUp)  -- 16
    ∷ (before_last r.date e.last, BeforeLast)  -- 17
    ∷ (equals_last r.date e.last, EqualsLast)  -- 18
    ∷ (to_other (line_in n).owner r, NotToOwner)  -- 19
    ∷ (is_open r.kind r e.places, AlreadyOpen)  -- 20
    ∷ (partner_open r e.places, Confirmed)  -- 11
    ∷ (zed_open r e.places && too_soon day r e.places, TooSoon)  -- 21
    ∷ (zed_open r e.places, Confirmed)  -- 11
    ∷ []

-- there is a place to keep it in
abbrev pub full_line : Entry → List (Bool × Verdict)
full_line e = (is_full e.places, Full) ∷ []  -- 22

abbrev pub report_table : Option Line → Entry → Code → CalendarDays → Report → List (Bool × Verdict)
report_table n e from day r = unknown_line n ++ (report_lines n e from day r ++ full_line e)

-- the first line that applies gives the verdict; where none does it is 10
abbrev pub report_verdict : Option Line → Entry → Code → CalendarDays → Report → Verdict
report_verdict n e from day r = first_line (report_table n e from day r) Kept
