-- The first fault of each damaged line of the examples is what they say. Assumes nothing.
use mathlib.Core.Path.{refl}
use Rattle.laws.specs.Sums.{sum_to}
use Rattle.laws.specs.Lists.{any, all, table, same_lists}
use Rattle.laws.specs.Split.{before, split, is_sep, end_of}
use Rattle.laws.specs.Digits.{is_digit, spelt, digits, size_of, down}
use Rattle.calendar.specs.Dates.{leap, month_days, year_start, month_start, day_number, valid}
use Rattle.calendar.specs.Answers.{day_of}
use Rattle.text.specs.Spelt.{spells, digits_of}
use Rattle.fields.specs.Block.{is, nearly, decade_by, some_decade, block}
use Rattle.fields.specs.Code.{code_from, code_of}
use Rattle.fields.specs.CorrectionCode.{correction_code_from, correction_code_of}
use Rattle.fields.specs.Date.{date_found, date_from, date_field_of}
use Rattle.fields.specs.Kind.{kind_by, kind_of}
use Rattle.fields.specs.Number.{digits_from, digits_field_of, digits_fits, block_fits, number_from, number_of}
use Rattle.faults.specs.Cut.{rest_at, code_width}
use Rattle.faults.specs.Field.{is_character, alone, digits_alone, date_alone, code_alone, kind_alone, correction_code_alone, mark_alone, nothing_alone, is_range, is_named, objects}
use Rattle.faults.specs.Six.{is_named_or, six_fault}
use Rattle.faults.specs.Record.{on_commas, report_fault, whole_for, number_for, u_fault, k_fault, correction_from, correction_fault, request_fault, record_fault}
use Rattle.faults.specs.Examples.{DamagedLines}

pub damaged-lines : DamagedLines
unfolding sum_to any all table same_lists before split is_sep end_of is_digit spelt digits size_of down leap month_days year_start month_start day_number valid day_of spells digits_of is nearly decade_by some_decade block code_from code_of correction_code_from correction_code_of date_found date_from date_field_of kind_by kind_of digits_from digits_field_of digits_fits block_fits number_from number_of rest_at code_width is_character alone digits_alone date_alone code_alone kind_alone correction_code_alone mark_alone nothing_alone is_range is_named objects is_named_or six_fault on_commas report_fault whole_for number_for u_fault k_fault correction_from correction_fault request_fault record_fault
damaged-lines = (refl, refl, refl, refl, refl, refl, refl, refl, refl, refl, refl, refl, refl, refl, refl, refl, refl, refl, refl, refl, refl, refl)
