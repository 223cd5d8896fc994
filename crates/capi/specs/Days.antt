-- Days and what is told of them, as the plain numbers that other languages get. Assumes nothing: these are definitions.
use Rattle.calendar.specs.declared.dates.CalendarDays.{CalendarDays}
use Rattle.std.specs.Prelude.{Option, Some, None}
use Rattle.std.specs.Prelude.{ℕ, ◌+◌, ◌*◌}
use Rattle.calendar.specs.declared.dates.Date.{Date}
use Rattle.calendar.specs.declared.working_days.DayKind.{DayKind}
use Rattle.calendar.specs.declared.working_days.DayKind.TheVariants.{Working, Free, Outside}

-- no day
abbrev pub no_day : ℕ
no_day = 65535

abbrev pub day_word : Option CalendarDays → ℕ
day_word (Some d) = d.0
day_word None = no_day

-- ddmmyyyy as one number
abbrev pub spelt : Date → ℕ
spelt x = x.day * 1000000 + x.month * 10000 + x.year

abbrev pub date_word : Option Date → ℕ
date_word (Some x) = spelt x
date_word None = 0

abbrev pub kind_word : DayKind → ℕ
kind_word Working = 1
kind_word Free = 0
kind_word Outside = 2

abbrev pub later_word : Option CalendarDays → ℕ
later_word found = day_word found
