-- What a date's field is read as, which days it can hold, and how they are written. Assumes nothing: these are definitions.
use Rattle.std.specs.Prelude.{Option, Some, None}
use Rattle.std.specs.Prelude.{ℕ, ◌+◌, ◌*◌, ◌/◌, ◌%◌, Bool, false, cond, List, eqb, length}
use Rattle.laws.specs.Digits.{digits}
use Rattle.text.specs.Spelt.{digits_of}
use Rattle.fields.specs.Field.{maybe_of, maybe_fits, maybe_of_word, maybe_text}
use Rattle.calendar.specs.declared.dates.CalendarDays.{CalendarDays}
use Rattle.calendar.specs.declared.dates.Date.{Date}
use Rattle.calendar.specs.Dates.{in_calendar}
use Rattle.calendar.specs.Answers.{day_of, date_of}

-- the date that ddmmyyyy, as one number, names
abbrev pub date_spelt : ℕ → Date
date_spelt n = record { year = n % 10000; month = n / 10000 % 100; day = n / 1000000 }

unfoldable pub date_found : Option CalendarDays → Option CalendarDays
date_found (Some d) = Some d
date_found None = None

unfoldable pub date_from : Option ℕ → Option CalendarDays
date_from (Some n) = date_found (day_of (date_spelt n))
date_from None = None

-- eight digits that name a date of the calendar
unfoldable pub date_field_of : List ℕ → Option CalendarDays
date_field_of f = cond (eqb (length f) 8) (date_from (digits_of false f)) None

abbrev pub date_fits : CalendarDays → Bool
date_fits d = in_calendar d.0

unfoldable pub date_of_word : ℕ → Option CalendarDays
date_of_word w = cond (in_calendar w) (Some (record { 0 = w })) None

-- a day's date as the number ddmmyyyy
unfoldable pub spelling : Option Date → ℕ
spelling (Some x) = x.day * 1000000 + x.month * 10000 + x.year
spelling None = 0

abbrev pub date_text : CalendarDays → List ℕ
date_text d = digits 8 (spelling (date_of d.0))

-- ---- a field that may be empty
abbrev pub maybe_date_of : List ℕ → Option (Option CalendarDays)
maybe_date_of = maybe_of date_field_of

abbrev pub maybe_date_fits : Option CalendarDays → Bool
maybe_date_fits = maybe_fits date_fits

-- the word 65535 stands for an empty field
abbrev pub maybe_date_of_word : ℕ → Option (Option CalendarDays)
maybe_date_of_word = maybe_of_word 65535 date_of_word

abbrev pub maybe_date_text : Option CalendarDays → List ℕ
maybe_date_text = maybe_text date_text
