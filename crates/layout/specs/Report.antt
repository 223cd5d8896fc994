-- What a record is read as, which reports it can hold, and how they are written. Assumes nothing: these are definitions.
use Rattle.std.specs.Prelude.{Option, Some, None}
use Rattle.std.specs.Prelude.{ℕ, Bool, true, false, cond, not, ◌&&◌, List}
use Rattle.fields.specs.declared.code.Code.{Code}
use Rattle.fields.specs.declared.kind.Kind.{Kind}
use Rattle.fields.specs.declared.kind.Kind.TheVariants.{P, L, Z}
use Rattle.fields.specs.Gaining.{gaining_of, gaining_field}
use Rattle.fields.specs.Number.{is_empty}
use Rattle.calendar.specs.declared.dates.CalendarDays.{CalendarDays}
use Rattle.layout.specs.declared.part.Part.{Part}
use Rattle.layout.specs.declared.report.Report.{Report}
use Rattle.layout.specs.Part.{on, part_of, part_of_words, part_fits, part_text}

-- only a Z may leave the gaining network out
abbrev pub is_named : Option Code → Kind → Bool
is_named (Some c) k = true
is_named None P = false
is_named None L = false
is_named None Z = true

-- ---- what stands in a field goes on to what makes the report of it; nothing may be missing

abbrev pub on_some_date : Option CalendarDays → (CalendarDays → Option Report) → Option Report
on_some_date m k = on m None k

abbrev pub on_some_code : Option Code → (Code → Option Report) → Option Report
on_some_code m k = on m None k

abbrev pub on_some_kind : Option Kind → (Kind → Option Report) → Option Report
on_some_kind m k = on m None k

-- the report that a part is, where nothing is missing
unfoldable pub whole_of : Part → Option Report
whole_of p =
    cond (is_empty p.number.first) None
    (on_some_date p.date
    λ date. on_some_code p.losing
    λ losing. on_some_kind p.kind
    λ kind. cond (is_named p.gaining kind) (Some (record { number = p.number; date = date; gaining = gaining_of p.gaining; losing = losing; kind = kind })) None)

unfoldable pub report_from : Option Part → Option Report
report_from (Some p) = whole_of p
report_from None = None

unfoldable pub report_of : List ℕ → Option Report
report_of s = report_from (part_of s)

unfoldable pub report_of_words : List ℕ → Option Report
report_of_words w = report_from (part_of_words w)

-- its six fields
abbrev pub report_part : Report → Part
report_part r =
    record { number = r.number; date = Some r.date; gaining = gaining_field r.gaining; losing = Some r.losing; kind = Some r.kind }

-- each field holds its value, there is a number, and only a Z leaves the gaining network out
unfoldable pub report_fits : Report → Bool
report_fits r = part_fits (report_part r) && (not (is_empty r.number.first) && is_named (gaining_field r.gaining) r.kind)

abbrev pub report_text : Report → List ℕ
report_text r = part_text (report_part r)
