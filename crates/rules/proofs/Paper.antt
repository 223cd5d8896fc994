-- The paper's worked days and reports hold of the definitions: antt computes each line, and the calendar's `kth` says which day a count of working
-- days leads to. Assumes nothing.
use Rattle.std.specs.Prelude.{Some, None}
use mathlib.Core.Path.{◌≡◌, refl, ap}
use mathlib.Core.Bool.{false}
use mathlib.Core.List.{[], ◌∷◌, flat_map, zip_with}
use lib.Dec.{lit≤}
use lib.ListN.{length}
use Rattle.laws.specs.Sums.{sum_to}
use Rattle.laws.specs.Lists.{any, all, keep, table}
use Rattle.laws.specs.Order.{put, in_order, not_after}
use Rattle.laws.specs.Split.{before, split}
use Rattle.laws.specs.Digits.{is_digit, spelt, digits}
use Rattle.calendar.specs.Dates.{leap, month_days, year_start, month_start, day_number, valid, weekday}
use Rattle.calendar.specs.Holidays.{easter, nine_of, holidays_of, years, holidays, working}
use Rattle.calendar.specs.Former.{former_holidays, formerly_working}
use Rattle.calendar.specs.WorkingDays.{days_after, working_after, smallest, working_day_after}
use Rattle.calendar.specs.Answers.{day_of, weekday_of}
use Rattle.calendar.proofs.WorkingLaws.{kth}
use Rattle.text.specs.Spelt.{spells, digits_of}
use Rattle.fields.specs.Field.{maybe_of, maybe_from}
use Rattle.fields.specs.Code.{code_from, code_of}
use Rattle.fields.specs.CorrectionCode.{correction_code_from, correction_code_of}
use Rattle.fields.specs.Date.{date_found, date_from, date_field_of}
use Rattle.fields.specs.Kind.{kind_by, kind_of}
use Rattle.fields.specs.Number.{digits_from, digits_field_of, number_of, same_number}
use Rattle.layout.specs.Part.{six_of, part_of}
use Rattle.layout.specs.Report.{whole_of, report_from, report_of}
use Rattle.layout.specs.Correction.{head_of, reported_of, is_sound, sound_of, three_of, correction_of, named_number}
use Rattle.entries.specs.places.Places.{holds_open, is_free, lapsed}
use Rattle.verdict.specs.correction_rules.Corrections.{is_among}
use Rattle.verdict.specs.report_tests.Tests.{return_period, not_yet}
use Rattle.verdict.specs.Step.{stand_on, entry_after}
use Rattle.model.specs.Model.{events, journal, about, named, history, entry_over, before as earlier, verdict_over, started, filed, line_of, judged, verdict_of}
use Rattle.rules.specs.Records.{number_in, class_in, says_in}
use Rattle.rules.specs.Paper.{on, on_date, after_date, last_of, WorkedThrough}

-- five working days after 2024-04-03 is 2024-04-10
fifth : working_day_after 9589 return_period ≡ Some (on 9596)
unfolding sum_to table any keep flat_map put leap month_days year_start month_start day_number weekday easter nine_of holidays_of years holidays working days_after working_after
fifth = kth 9589 5 9596 (lit≤ tt) (lit≤ tt) refl refl

two-after : after_date 2 2014 5 22 ≡ on_date 2014 5 26
unfolding sum_to table any keep flat_map put leap month_days year_start month_start day_number weekday easter nine_of holidays_of years holidays working days_after working_after
two-after = kth 5985 2 5989 (lit≤ tt) (lit≤ tt) refl refl

twenty-after : after_date 20 2008 6 16 ≡ on_date 2008 7 14
unfolding sum_to table any keep flat_map put leap month_days year_start month_start day_number weekday easter nine_of holidays_of years holidays working days_after working_after
twenty-after = kth 3819 20 3847 (lit≤ tt) (lit≤ tt) refl refl

five-after : after_date 5 2017 4 13 ≡ on_date 2017 4 24
unfolding sum_to table any keep flat_map put leap month_days year_start month_start day_number weekday easter nine_of holidays_of years holidays working days_after working_after
five-after = kth 7042 5 7053 (lit≤ tt) (lit≤ tt) refl refl

-- over 31 October 2017, by the list without it and by the list with it
formerly-five : keep formerly_working (days_after 7237 7244) ≡ 7238 ∷ 7239 ∷ 7242 ∷ 7243 ∷ 7244 ∷ []
unfolding sum_to table any keep flat_map leap month_days year_start month_start day_number weekday easter nine_of years former_holidays formerly_working days_after
formerly-five = refl

now-five : keep working (days_after 7237 7245) ≡ 7238 ∷ 7239 ∷ 7242 ∷ 7244 ∷ 7245 ∷ []
unfolding sum_to table any keep flat_map put leap month_days year_start month_start day_number weekday easter nine_of holidays_of years holidays working days_after
now-five = refl

not-too-soon : not_yet (on 7244) (Some (on (last_of (keep formerly_working (days_after 7237 7244))))) ≡ false
unfolding last_of
not-too-soon = rw formerly-five

five-in-2017 : working_day_after 7237 return_period ≡ Some (on 7245)
unfolding sum_to table any keep flat_map put leap month_days year_start month_start day_number weekday easter nine_of holidays_of years holidays working days_after working_after
five-in-2017 = kth 7237 5 7245 (lit≤ tt) (lit≤ tt) refl (ap length now-five)

-- one day beyond the last
none_after : working_day_after 18992 1 ≡ None
unfolding sum_to table any keep flat_map put leap month_days year_start month_start day_number weekday easter nine_of holidays_of years holidays working days_after working_after smallest working_day_after
none_after = refl

last-in-list : last_of holidays ≡ 18987
unfolding sum_to table flat_map put leap month_days year_start month_start day_number easter nine_of holidays_of years holidays last_of
last-in-list = refl

pub worked_through : WorkedThrough
unfolding sum_to table any all keep flat_map zip_with put in_order not_after before split is_digit spelt digits leap month_days year_start month_start day_number valid weekday day_of weekday_of spells digits_of code_from code_of correction_code_from correction_code_of date_found date_from date_field_of kind_by kind_of digits_from digits_field_of number_of same_number six_of part_of whole_of report_from report_of head_of reported_of is_sound sound_of three_of correction_of named_number holds_open is_free lapsed is_among stand_on entry_after events journal about named history entry_over earlier verdict_over started filed line_of judged verdict_of number_in class_in says_in maybe_of maybe_from
worked_through = (
  refl,
  refl,
  refl,
  refl,
  refl,
  last-in-list,
  two-after,
  twenty-after,
  five-after,
  none_after,
  refl,
  refl,
  refl,
  refl,
  rw fifth,
  rw fifth,
  refl,
  refl,
  formerly-five,
  now-five,
  five-in-2017,
  not-too-soon,
  rw five-in-2017,
  rw five-in-2017,
  rw five-in-2017,
)
