-- What the verdict on a report does (paper 01, "Verdicts on reports"). Assumes nothing: these are definitions.
use Rattle.std.specs.Prelude.{Some}
use Rattle.std.specs.Prelude.{List, [], ◌∷◌, map, ℕ}
use Rattle.laws.specs.Lists.{first_line}
use Rattle.fields.specs.declared.kind.Kind.TheVariants.{P, L, Z}
use Rattle.verdict.specs.declared.verdicts.Doing.{Doing}
use Rattle.verdict.specs.declared.verdicts.Doing.TheVariants.{Keeps, Confirms, Lapses, Nothing}
use Rattle.entries.specs.declared.report.Report.{Report}
use Rattle.entries.specs.declared.entry.Place.{Place}
use Rattle.entries.specs.declared.entry.Entry.{Entry}
use Rattle.entries.specs.Report.{by_kind}
use Rattle.entries.specs.Entry.{place_count}
use Rattle.entries.specs.places.Places.{is_open, place_of, kept_in, lapsed}

-- 11: the holder is the gaining network and the last confirmed date the porting date; every open report with that date or an older one lapses
abbrev pub confirmed : Entry → Report → Entry
confirmed e r = record { holder = r.gaining; last = Some r.date; places = map (lapsed r.date) e.places }

-- 10: the report is kept in the lowest free place
abbrev pub kept : Entry → Place → Entry
kept e p = record { holder = e.holder; last = e.last; places = kept_in e.places p }

-- what the verdict on the report in `p` does to the entry
abbrev pub report_effect : Doing → Entry → Place → Entry
report_effect Keeps e p = kept e p
report_effect Confirms e p = confirmed e p.report
report_effect Lapses e p = e
report_effect Nothing e p = e

-- the place of the open report that a confirmed one makes a pair with: of an L or else of a Z for a P, of a P for an L
abbrev pub partner_at : Report → List Place → ℕ
partner_at r ps = by_kind r.kind (first_line ((is_open L r ps, place_of L r ps) ∷ []) (place_of Z r ps)) (place_of P r ps) place_count
