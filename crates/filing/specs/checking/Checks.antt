-- What the checks behind 44 come to, as the code makes them over the list of files. `Filing` has them over the store; `proofs/checking/Deciding` that both
-- agree. Assumes nothing: these are definitions.
use Rattle.std.specs.Prelude.{Result, Ok, Err}
use Rattle.files.specs.declared.judge.Fault.{Fault}
use Rattle.std.specs.Prelude.{Option, Some, None}
use Rattle.std.specs.Prelude.{Bool, cond, ◌&&◌, List, ℕ, ◌+◌, ltb, leb}
use Rattle.laws.specs.Lists.{any}
use Rattle.calendar.specs.Dates.{in_calendar}
use Rattle.fields.specs.declared.code.Code.{Code}
use Rattle.store.specs.journals.Files.{file_count, files_of, same_file, records_of}
use Rattle.store.specs.declared.journals.files.File.{File}
use Rattle.filing.specs.declared.entering.kind.Filable.{Filable}
use Rattle.filing.specs.entering.Entering.{kind_number, most}
use Rattle.filing.specs.declared.checking.answer.NotFiled.{NotFiled}
use Rattle.filing.specs.declared.checking.answer.NotFiled.TheVariants.{NoCode, NoDay, FiledAlready, Full}

-- a slot for one more file, and room for its records in their journal
unfoldable pub has_room : List ℕ → Filable → ℕ → Bool
has_room files kind m = ltb (file_count files) 1024 && leb (records_of (kind_number kind) (files_of files) + m) (most kind)

abbrev pub room_checked : Bool → Code → ℕ → Result (Code × ℕ) NotFiled
room_checked room c m = cond room (Ok (c, m)) (Err Full)

abbrev pub text_checked : (ℕ → Bool) → Code → Result ℕ Fault → Result (Code × ℕ) NotFiled
text_checked room c (Err fault) = Err (NotFiled.Fault fault.at fault.cause)
text_checked room c (Ok m) = room_checked (room m) c m

-- a file as it is looked for
abbrev pub sought : Filable → ℕ → ℕ → File
sought kind publisher day = record { kind = kind_number kind; publisher = publisher; day = day; count = 0 }

unfoldable pub day_checked : List ℕ → Filable → Code → ℕ → Result ℕ Fault → Result (Code × ℕ) NotFiled
day_checked files kind c day text =
    cond (in_calendar day) (cond (any (same_file (sought kind c.0 day)) (files_of files)) (Err FiledAlready) (text_checked (has_room files kind) c text)) (Err NoDay)

abbrev pub checked : List ℕ → Filable → Option Code → ℕ → Result ℕ Fault → Result (Code × ℕ) NotFiled
checked files kind None day text = Err NoCode
checked files kind (Some c) day text = day_checked files kind c day text
