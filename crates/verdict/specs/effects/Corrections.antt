-- What the verdict on an objection does (paper 01, "Verdicts on reports"). Assumes nothing: these are definitions.
use Rattle.std.specs.Prelude.{List, ℕ, set}
use Rattle.fields.specs.declared.code.Code.{Code}
use Rattle.entries.specs.declared.report.Published.{Published}
use Rattle.entries.specs.declared.entry.Place.{Place}
use Rattle.entries.specs.declared.entry.Entry.{Entry}
use Rattle.entries.specs.Report.{meant_by}
use Rattle.entries.specs.Entry.{free_place}
use Rattle.entries.specs.places.Places.{place_of}
use Rattle.verdict.specs.declared.verdicts.Doing.{Doing}
use Rattle.verdict.specs.declared.verdicts.Doing.TheVariants.{Keeps, Confirms, Lapses, Nothing}

-- the place of the named report
abbrev pub named_at : Code → Published → List Place → ℕ
named_at owner named ps = place_of named.kind (meant_by owner named) ps

-- the entry without it
abbrev pub without_named : Entry → Code → Published → Entry
without_named e owner named = record { holder = e.holder; last = e.last; places = set e.places (named_at owner named e.places) free_place }

-- 30: the named report lapses
abbrev pub objection_effect : Doing → Entry → Code → Published → Entry
objection_effect Lapses e owner named = without_named e owner named
objection_effect Keeps e owner named = e
objection_effect Confirms e owner named = e
objection_effect Nothing e owner named = e
