-- `calendar::holidays::is_holiday` meets its contract: the table is the list that the rule makes, by one computation over the whole of it, and std's search
-- by halves finds what stands in a list that never falls. Assumes nothing.
use mathlib.Core.Path.{◌∙◌}
use mathlib.Core.List.{flat_map}
use Rattle.laws.specs.Sums.{sum_to}
use Rattle.laws.specs.Lists.{table}
use Rattle.laws.specs.Order.{put}
use Rattle.laws.proofs.Sorting.{searched_by_std}
use Rattle.calendar.specs.Dates.{leap, month_days, year_start, month_start, day_number}
use Rattle.calendar.specs.Holidays.{easter, nine_of, holidays_of, years, holidays}
use Rattle.calendar.proofs.HolidayLaws.{never-falls}
use Rattle.calendar.proofs.holidays.is_holiday.Goals as goal

pub returns : goal.returns
unfolding sum_to table flat_map put leap month_days year_start month_start day_number easter nine_of holidays_of years holidays
returns c =
    c.is_ok.ensures.value ∙ searched_by_std c.args.day holidays never-falls c.binary_search.result c.binary_search.ensures.position
