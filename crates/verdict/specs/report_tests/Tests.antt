-- What the table of rules on reports asks (paper 01, "Verdicts on reports"), beside what stands in the report itself. Assumes nothing: these are definitions.
use Rattle.std.specs.Prelude.{Option, Some, None}
use Rattle.std.specs.Prelude.{Bool, true, false, not, List, ℕ, ltb, eqb, get_or}
use Rattle.calendar.specs.WorkingDays.{working_day_after}
use Rattle.calendar.specs.declared.dates.CalendarDays.{CalendarDays}
use Rattle.fields.specs.declared.code.Code.{Code}
use Rattle.fields.specs.declared.kind.Kind.TheVariants.{P, L, Z}
use Rattle.entries.specs.declared.report.Report.{Report}
use Rattle.entries.specs.declared.entry.Place.{Place}
use Rattle.entries.specs.Report.{by_kind, same_code}
use Rattle.entries.specs.Entry.{free_place}
use Rattle.entries.specs.places.Places.{is_open, place_of}

-- the fifth working day
abbrev pub return_period : ℕ
return_period = 5

-- the date is before the last confirmed one; it equals the last confirmed one
abbrev pub before_last : CalendarDays → Option CalendarDays → Bool
before_last d None = false
before_last d (Some l) = ltb d.0 l.0

abbrev pub equals_last : CalendarDays → Option CalendarDays → Bool
equals_last d None = false
equals_last d (Some l) = eqb d.0 l.0

-- a Z whose gaining network is not the owner
abbrev pub to_other : Code → Report → Bool
to_other owner r = by_kind r.kind false false (not (same_code r.gaining owner))

-- a P with a matching open L, or an L with a matching open P
abbrev pub partner_open : Report → List Place → Bool
partner_open r ps = by_kind r.kind (is_open L r ps) (is_open P r ps) false

-- a P with a matching open Z
abbrev pub zed_open : Report → List Place → Bool
zed_open r ps = by_kind r.kind (is_open Z r ps) false false

-- the publication day of the matching open Z
abbrev pub zed_day : Report → List Place → CalendarDays
zed_day r ps = (get_or ps (place_of Z r ps) free_place).day

-- the day is before this one, or the calendar ends first
abbrev pub not_yet : CalendarDays → Option CalendarDays → Bool
not_yet day (Some d) = ltb day.0 d.0
not_yet day None = true

-- the day is before the fifth working day after the publication of the matching open Z, or the calendar ends first
abbrev pub too_soon : CalendarDays → Report → List Place → Bool
too_soon day r ps = not_yet day (working_day_after (zed_day r ps).0 return_period)
