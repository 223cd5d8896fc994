-- The names of files (5.2.2), with the two-digit years of the calendar. Assumes nothing: these are definitions.
use Rattle.std.specs.Prelude.{Result, Ok, Err}
use Rattle.records.specs.declared.names.written.NotWritten.{NotWritten}
use Rattle.std.specs.Prelude.{Option, Some, None}
use Rattle.std.specs.Prelude.{ℕ, ◌+◌, ◌*◌, ◌/◌, ◌%◌, Bool, false, cond, ◌&&◌, List, [], ◌∷◌, ◌++◌, eqb, leb, get_or, take, drop}
use Rattle.laws.specs.Lists.{same_lists}
use Rattle.laws.specs.Digits.{digits}
use Rattle.text.specs.Spelt.{digits_of}
use Rattle.calendar.specs.Answers.{day_of, date_of, full_year}
use Rattle.calendar.specs.declared.dates.CalendarDays.{CalendarDays}
use Rattle.calendar.specs.declared.dates.Date.{Date}
use Rattle.records.specs.declared.names.kind.FileKind.{FileKind}
use Rattle.records.specs.declared.names.name.Name.{Name}
use Rattle.records.specs.names.Kind.{kind_of, letter_of}

-- ".txt"
abbrev pub ending : List ℕ
ending = 46 ∷ 116 ∷ 120 ∷ 116 ∷ []

-- "1" in front, ".txt" behind the eight bytes that follow
unfoldable pub framed : List ℕ → Bool
framed s = same_lists eqb (take 1 s) (49 ∷ []) && same_lists eqb (drop 8 s) ending

abbrev pub on_kind : Option FileKind → (FileKind → Option Name) → Option Name
on_kind (Some k) next = next k
on_kind None next = None

abbrev pub on_digits : Option ℕ → (ℕ → Option Name) → Option Name
on_digits (Some n) next = next n
on_digits None next = None

abbrev pub on_day : Option CalendarDays → (CalendarDays → Option Name) → Option Name
on_day (Some d) next = next d
on_day None next = None

-- the day of month and day of a year, mmdd as one number
abbrev pub day_in : Option ℕ → ℕ → Option CalendarDays
day_in (Some y) n = day_of (record { year = y; month = n / 100 % 100; day = n % 100 })
day_in None n = None

-- the day of yymmdd as one number
unfoldable pub day_of_six : ℕ → Option CalendarDays
day_of_six n = day_in (full_year (n / 10000)) n

-- the kind and the day that a name tells
unfoldable pub name_of : List ℕ → Option Name
name_of s =
    cond (framed s)
    (on_kind (kind_of (get_or s 1 0)) λ k. on_digits (digits_of false (take 6 (drop 2 s))) λ n. on_day (day_of_six n) λ d. Some (record { kind = k; day = d }))
    None

-- yymmdd of a date as one number
unfoldable pub six_of : Date → ℕ
six_of x = x.year % 100 * 10000 + x.month * 100 + x.day

-- the bytes of a name: "1", the kind's letter, six digits, ".txt"
unfoldable pub spelling : ℕ → ℕ → List ℕ
spelling letter n = 49 ∷ letter ∷ (digits 6 n ++ ending)

-- the name of a kind and a date; a day past the calendar's end has none
abbrev pub name_at : FileKind → Option Date → List ℕ
name_at k (Some x) = spelling (letter_of k) (six_of x)
name_at k None = []

unfoldable pub name_text : Name → List ℕ
name_text m = name_at m.kind (date_of m.day.0)

-- what the writer of a name answers, to a buffer of `room` bytes
abbrev pub answer_at : Option Date → ℕ → Result ℕ NotWritten
answer_at (Some x) room = cond (leb 12 room) (Ok 12) (Err NotWritten.Long)
answer_at None room = Err (NotWritten.Fault 0)

unfoldable pub name_answer : Name → ℕ → Result ℕ NotWritten
name_answer m room = answer_at (date_of m.day.0) room
