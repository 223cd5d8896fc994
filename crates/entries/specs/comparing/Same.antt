-- Whether two entries are equal, place by place. Assumes nothing: these are definitions.
use Rattle.calendar.specs.declared.dates.CalendarDays.{CalendarDays}
use Rattle.std.specs.Prelude.{Option, Some, None}
use Rattle.std.specs.Prelude.{Bool, true, false, not, ◌&&◌, ◌||◌, eqb}
use Rattle.laws.specs.Lists.{same_lists}
use Rattle.entries.specs.declared.entry.Place.{Place}
use Rattle.entries.specs.declared.entry.Entry.{Entry}
use Rattle.entries.specs.Report.{same_kind, same_code, same_day, matches}

abbrev pub same_taken : Place → Place → Bool
same_taken p q = (p.taken && q.taken) || (not p.taken && not q.taken)

unfoldable pub same_place : Place → Place → Bool
same_place p q = same_taken p q && same_kind p.report.kind q.report.kind && matches p.report q.report && same_day p.day q.day && eqb p.at q.at

abbrev pub same_last : Option CalendarDays → Option CalendarDays → Bool
same_last None None = true
same_last None (Some t) = false
same_last (Some d) None = false
same_last (Some d) (Some t) = same_day d t

unfoldable pub same_entry : Entry → Entry → Bool
same_entry e f = same_code e.holder f.holder && same_last e.last f.last && same_lists same_place e.places f.places
