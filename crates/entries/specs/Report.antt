-- A report on a number: which one is meant, who has to publish it, when two match. Assumes nothing: these are definitions.
use Rattle.std.specs.Prelude.{Bool, ◌&&◌, ℕ, eqb}
use Rattle.calendar.specs.declared.dates.CalendarDays.{CalendarDays}
use Rattle.fields.specs.declared.code.Code.{Code}
use Rattle.fields.specs.declared.kind.Kind.{Kind}
use Rattle.fields.specs.declared.kind.Kind.TheVariants.{P, L, Z}
use Rattle.fields.specs.declared.gaining.Gaining.{Gaining}
use Rattle.fields.specs.declared.gaining.Gaining.TheVariants.{Code as To, Owner}
use Rattle.entries.specs.declared.report.Published.{Published}
use Rattle.entries.specs.declared.report.Report.{Report}

-- what the case of a kind is
abbrev pub by_kind {ℓ} : {A : Type ℓ} → Kind → A → A → A → A
by_kind P p l z = p
by_kind L p l z = l
by_kind Z p l z = z

abbrev pub kind_no : Kind → ℕ
kind_no k = by_kind k 0 1 2

abbrev pub same_kind : Kind → Kind → Bool
same_kind j k = eqb (kind_no j) (kind_no k)

abbrev pub same_code : Code → Code → Bool
same_code a b = eqb a.0 b.0

abbrev pub same_day : CalendarDays → CalendarDays → Bool
same_day a b = eqb a.0 b.0

-- a gaining network that is left out is the owner: the number goes back
abbrev pub gaining_of : Code → Gaining → Code
gaining_of owner (To c) = c
gaining_of owner Owner = owner

-- the report that is meant where the number has this owner
abbrev pub meant_by : Code → Published → Report
meant_by owner p = record { kind = p.kind; date = p.date; losing = p.losing; gaining = gaining_of owner p.gaining }

-- the network that publishes a report: the gaining one a P, the losing one an L or a Z
abbrev pub publisher_of : Report → Code
publisher_of r = by_kind r.kind r.gaining r.losing r.losing

-- the same date, losing and gaining network; the number is the entry's
abbrev pub matches : Report → Report → Bool
matches q r = same_day q.date r.date && same_code q.losing r.losing && same_code q.gaining r.gaining
