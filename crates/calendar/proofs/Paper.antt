-- What the paper says of the calendar's ends holds of the definitions: antt computes each line. Assumes nothing.
use mathlib.Core.Path.{refl}
use Rattle.laws.specs.Sums.{sum_to}
use Rattle.calendar.specs.Dates.{leap, month_days, year_start, month_start, day_number, valid, weekday}
use Rattle.calendar.specs.Answers.{day_of, weekday_of}
use Rattle.calendar.specs.Paper.{FirstAndLast}

pub first-and-last : FirstAndLast
unfolding sum_to leap month_days year_start month_start day_number valid weekday day_of weekday_of
first-and-last = (refl, refl, refl)
