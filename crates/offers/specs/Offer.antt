-- What becomes of a file that is offered by its path. Assumes nothing: these are definitions.
use Rattle.records.specs.declared.names.name.Name.{Name}
use Rattle.std.specs.Prelude.{Option, Some, None, Result, Ok, Err}
use Rattle.std.specs.Prelude.{◌≡◌, List, ℕ, take}
use Rattle.calendar.specs.declared.dates.CalendarDays.{CalendarDays}
use Rattle.desk.specs.declared.failure.Failure.{Failure}
use Rattle.records.specs.declared.names.kind.FileKind.{FileKind}
use Rattle.store.specs.Reads.{Buffers}
use Rattle.filing.specs.declared.entering.kind.Filable.{Filable}
use Rattle.filing.specs.declared.checking.answer.NotFiled.{NotFiled}
use Rattle.filing.specs.Effect.{Files}
use Rattle.commands.specs.Given.{name_in}
use Rattle.offers.specs.declared.offer.Heading.{Heading}

-- what a name tells of a file that may be filed: its kind and its day
abbrev pub heading : Filable → CalendarDays → Heading
heading kind day = record { kind = kind; day = day }

abbrev pub heading_by : FileKind → CalendarDays → Option Heading
heading_by FileKind.Default day = Some (heading Filable.Default day)
heading_by FileKind.Correction day = Some (heading Filable.Correction day)
heading_by FileKind.Request day = None
heading_by FileKind.Response day = None

abbrev pub heading_of : Option Name → Option Heading
heading_of (Some name) = heading_by name.kind name.day
heading_of None = None

-- of any other name the day is outside the calendar
abbrev pub heading_or_none : Option Heading → Heading
heading_or_none (Some h) = h
heading_or_none None = heading Filable.Default (record { 0 = 65535 })

-- what is answered is what filing answers to the bytes that were read
abbrev pub FilesFrom : Buffers → Heading → List ℕ → List ℕ → Result ℕ NotFiled → Buffers → Type 0
FilesFrom b h publisher text answer after = (n : ℕ) × Files b h.kind publisher h.day.0 (take n text) answer after

-- of a path, with the kind and the day that its name tells; where the file can't be read, nothing changes
abbrev pub Offers : Buffers → List ℕ → List ℕ → List ℕ → Result (Result ℕ NotFiled) Failure → Buffers → Type 0
Offers b publisher path text (Ok answer) after = FilesFrom b (heading_or_none (heading_of (name_in path))) publisher text answer after
Offers b publisher path text (Err failure) after = after ≡ b
