-- `disk::list::sum_of_list` meets its contract: the table is the list that the rule makes, by one computation. Assumes nothing.
use Rattle.std.proofs.Common.{ap}
use mathlib.Core.List.{flat_map}
use Rattle.laws.specs.Sums.{sum_to}
use Rattle.laws.specs.Lists.{table}
use Rattle.laws.specs.Order.{put}
use Rattle.calendar.specs.Dates.{leap, month_days, year_start, month_start, day_number}
use Rattle.calendar.specs.Holidays.{easter, nine_of, holidays_of, years, holidays}
use Rattle.disk.specs.declared.sum.Sum.{Sum}
use Rattle.disk.proofs.list.sum_of_list.Goals as goal

pub returns : goal.returns
unfolding sum_to table flat_map put leap month_days year_start month_start day_number easter nine_of holidays_of years holidays
returns c = ap (λ (s : Sum). s.b) c.days_summed.ensures
