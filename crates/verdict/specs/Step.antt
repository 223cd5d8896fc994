-- One record of a number's history, and all of them one after the other in processing order. Assumes nothing: these are definitions.
use Rattle.std.specs.Prelude.{Option, Some}
use Rattle.std.specs.Prelude.{true, get_or}
use mathlib.Core.List.{List, [], ◌∷◌, foldl}
use Rattle.calendar.specs.declared.dates.CalendarDays.{CalendarDays}
use Rattle.fields.specs.declared.code.Code.{Code}
use Rattle.verdict.specs.declared.verdicts.Verdict.{Verdict}
use Rattle.entries.specs.declared.report.Report.{Report}
use Rattle.entries.specs.declared.entry.Place.{Place}
use Rattle.entries.specs.declared.entry.Entry.{Entry}
use Rattle.entries.specs.declared.entry.Line.{Line}
use Rattle.verdict.specs.declared.step.Says.{Says}
use Rattle.verdict.specs.declared.step.Says.TheVariants.{Reported, Objected, Other}
use Rattle.verdict.specs.declared.step.Record.{Record}
use Rattle.verdict.specs.declared.step.Outcome.{Outcome}
use Rattle.verdict.specs.declared.step.Why.{Why}
use Rattle.verdict.specs.declared.step.Why.TheVariants.{Nothing, Pair}
use Rattle.verdict.specs.declared.step.Standing.{Standing}
use Rattle.verdict.specs.declared.verdicts.Doing.{Doing}
use Rattle.verdict.specs.verdicts.Does.{does_by}
use Rattle.entries.specs.Report.{meant_by}
use Rattle.entries.specs.Entry.{free_place, first_entry, line_in}
use Rattle.verdict.specs.report_rules.Reports.{report_verdict}
use Rattle.verdict.specs.effects.Reports.{report_effect, partner_at}
use Rattle.verdict.specs.correction_rules.Corrections.{objection_verdict, other_verdict}
use Rattle.verdict.specs.effects.Corrections.{objection_effect}

-- a report with the publication day and the place of its record
abbrev pub placed_as : Record → Report → Place
placed_as rec r = record { taken = true; report = r; day = rec.day; at = rec.at }

-- the verdict on a record
abbrev pub verdict_by : Option Line → Entry → Code → CalendarDays → Says → Verdict
verdict_by n e from day (Reported p) = report_verdict n e from day (meant_by (line_in n).owner p)
verdict_by n e from day (Objected o) = objection_verdict n e from o
verdict_by n e from day Other = other_verdict n

abbrev pub verdict_on : Option Line → Entry → Record → Verdict
verdict_on n e rec = verdict_by n e rec.publisher rec.day rec.says

-- the entry after a record whose verdict does this
abbrev pub effect_by : Doing → Line → Entry → Record → Says → Entry
effect_by d line e rec (Reported p) = report_effect d e (placed_as rec (meant_by line.owner p))
effect_by d line e rec (Objected o) = objection_effect d e line.owner o.named
effect_by d line e rec Other = e

abbrev pub effect_on : Doing → Line → Entry → Record → Entry
effect_on d line e rec = effect_by d line e rec rec.says

-- the verdict on a record, and the next entry
abbrev pub step_on : Line → Entry → Record → Outcome
step_on line e rec = record { verdict = verdict_on (Some line) e rec; entry = effect_on (does_by (verdict_on (Some line) e rec)) line e rec }

-- a confirmed report makes a pair with the open one that it matches, which was processed before it
abbrev pub paired_in : List Place → Place → Why
paired_in ps second = Pair (get_or ps (partner_at second.report ps) free_place) second

-- the pair that confirmed last: a report that is confirmed makes a new one
abbrev pub pair_after : Doing → List Place → Place → Why → Why
pair_after Doing.Confirms ps second before = paired_in ps second
pair_after Doing.Keeps ps second before = before
pair_after Doing.Lapses ps second before = before
pair_after Doing.Nothing ps second before = before

abbrev pub why_by : Doing → Code → List Place → Why → Record → Says → Why
why_by d owner ps before rec (Reported p) = pair_after d ps (placed_as rec (meant_by owner p)) before
why_by d owner ps before rec (Objected o) = before
why_by d owner ps before rec Other = before

-- where a number stands at first, and after a record
abbrev pub first_standing : Line → Standing
first_standing line = record { entry = first_entry line; why = Nothing }

unfoldable pub stand_on : Line → Standing → Record → Standing
stand_on line s rec = record { entry = (step_on line s.entry rec).entry; why = why_by (does_by (step_on line s.entry rec).verdict) line.owner s.entry.places s.why rec rec.says }

-- the entry after a record
unfoldable pub entry_after : Line → Entry → Record → Entry
entry_after line e rec = (step_on line e rec).entry

-- What records come to, one after the other, from any entry on: the entry, the verdict of each, and where the number stands.
abbrev pub worked : Line → Entry → List Record → Entry
worked line e recs = foldl (entry_after line) e recs

unfoldable pub verdicts : Line → Entry → List Record → List Verdict
verdicts line e [] = []
verdicts line e (rec ∷ recs) = verdict_on (Some line) e rec ∷ verdicts line (entry_after line e rec) recs

abbrev pub standing : Line → Standing → List Record → Standing
standing line s recs = foldl (stand_on line) s recs
