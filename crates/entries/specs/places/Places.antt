-- The places for open reports (paper 01, "Table, journals, entries"). Assumes nothing: these are definitions.
use Rattle.std.specs.Prelude.{Bool, true, not, cond, ◌&&◌, List, [], ◌∷◌, ℕ, leb, set}
use Rattle.laws.specs.Lists.{any, first_at}
use Rattle.calendar.specs.declared.dates.CalendarDays.{CalendarDays}
use Rattle.fields.specs.declared.kind.Kind.{Kind}
use Rattle.entries.specs.declared.report.Report.{Report}
use Rattle.entries.specs.declared.entry.Place.{Place}
use Rattle.entries.specs.Report.{same_kind, matches}
use Rattle.entries.specs.Entry.{free_place}

-- the place holds an open report of the kind k that matches r. A report equal to r is one of r's kind that matches it
unfoldable pub holds_open : Kind → Report → Place → Bool
holds_open k r p = p.taken && same_kind p.report.kind k && matches p.report r

unfoldable pub is_free : Place → Bool
is_free p = not p.taken

-- a report of the kind k that matches r is open
abbrev pub is_open : Kind → Report → List Place → Bool
is_open k r ps = any (holds_open k r) ps

abbrev pub is_full : List Place → Bool
is_full ps = not (any is_free ps)

-- its first place, and the number of places where it is not open
abbrev pub place_of : Kind → Report → List Place → ℕ
place_of k r ps = first_at (holds_open k r) ps

-- the lowest free place, and the number of places where all are taken
abbrev pub lowest_free : List Place → ℕ
lowest_free ps = first_at is_free ps

-- a kept report takes the lowest free place
abbrev pub kept_in : List Place → Place → List Place
kept_in ps p = set ps (lowest_free ps) p

-- a place after a confirmation of the date d: a report with that date or an older one lapses, a newer one stays
unfoldable pub lapsed : CalendarDays → Place → Place
lapsed d p = cond (leb p.report.date.0 d.0) free_place p

-- no two open reports are equal
unfoldable pub no_two_equal : List Place → Bool
no_two_equal [] = true
no_two_equal (p ∷ ps) = not (p.taken && is_open p.report.kind p.report ps) && no_two_equal ps
