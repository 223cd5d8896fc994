-- What one record leaves true. Assumes nothing.
--     discarded-stays     a record that is discarded leaves the entry as it is
--     last-stays          the last confirmed date does not fall
--     tidy-stays          eight places, and no two open reports are equal
--     explained-stays     the pair is one, and says who the holder is and what the last confirmed date is
use Rattle.std.specs.Prelude.{Option, Some, None}
use mathlib.Core.Path.{◌≡◌, refl, ap, ◌∙◌}
use mathlib.Core.Bool.{Bool, true, false, cond, ◌||◌}
use native.Mathlib.Nat.{le_refl}
use native.Mathlib.Omega.{arith}
use borrow.Author.Tests.{eqb-true, ne_eqb, ltb-false}
use lib.Dec.{lit≤}
use lib.ListN.{length-set, length-map}
use Rattle.laws.specs.Lists.{any}
use Rattle.laws.proofs.Lines.{line-passed, line-applied}
use Rattle.calendar.specs.declared.dates.CalendarDays.{CalendarDays}
use Rattle.fields.specs.declared.code.Code.{Code}
use Rattle.verdict.specs.declared.verdicts.Verdict.{Verdict}
use Rattle.verdict.specs.declared.verdicts.Verdict.TheVariants.{Kept}
use Rattle.entries.specs.declared.report.Report.{Report}
use Rattle.entries.specs.declared.entry.Place.{Place}
use Rattle.entries.specs.declared.entry.Entry.{Entry}
use Rattle.entries.specs.declared.entry.Line.{Line}
use Rattle.entries.specs.declared.report.Published.{Published}
use Rattle.verdict.specs.declared.step.Says.{Says}
use Rattle.verdict.specs.declared.step.Says.TheVariants.{Reported, Objected, Other}
use Rattle.verdict.specs.declared.step.Record.{Record}
use Rattle.verdict.specs.declared.step.Standing.{Standing}
use Rattle.verdict.specs.declared.verdicts.Doing.{Doing}
use Rattle.verdict.specs.verdicts.Numbers.{number_of}
use Rattle.verdict.specs.verdicts.Does.{is_kept, is_confirmed, is_lapsed, does_by}
use Rattle.entries.specs.Report.{meant_by}
use Rattle.entries.specs.Entry.{free_place}
use Rattle.entries.specs.places.Places.{is_open, lowest_free, lapsed}
use Rattle.verdict.specs.report_tests.Tests.{before_last, partner_open, zed_open}
use Rattle.verdict.specs.report_rules.Reports.{report_table, report_verdict}
use Rattle.verdict.specs.correction_rules.Corrections.{objection_verdict}
use Rattle.verdict.specs.effects.Reports.{kept, confirmed, report_effect}
use Rattle.verdict.specs.effects.Corrections.{named_at, without_named, objection_effect}
use Rattle.verdict.specs.Step.{placed_as, verdict_by, effect_by, effect_on, pair_after, why_by, verdict_on, entry_after, stand_on}
use Rattle.verdict.specs.Sound.{Discarded, NotAfter, Tidy, Explained}
use Rattle.entries.proofs.places.PlaceLaws.{thinned-set, thinned-map, apart-thinned, apart-kept}
use Rattle.verdict.proofs.PairLaws.{partner-pairs}

-- ---- a verdict does what its number says
pub kept_by : (v : Verdict) → does_by v ≡ Doing.Keeps → is_kept v ≡ true
kept_by v = go (is_kept v) (is_confirmed v) (is_lapsed v)
  where
    go : (k c l : Bool) → cond k Doing.Keeps (cond c Doing.Confirms (cond l Doing.Lapses Doing.Nothing)) ≡ Doing.Keeps → k ≡ true
    go true c l q = refl
    go false true l q = cc
    go false false true q = cc
    go false false false q = cc

pub confirmed-by : (v : Verdict) → does_by v ≡ Doing.Confirms → is_confirmed v ≡ true
confirmed-by v = go (is_kept v) (is_confirmed v) (is_lapsed v)
  where
    go : (k c l : Bool) → cond k Doing.Keeps (cond c Doing.Confirms (cond l Doing.Lapses Doing.Nothing)) ≡ Doing.Confirms → c ≡ true
    go k true l q = refl
    go true false l q = cc
    go false false true q = cc
    go false false false q = cc

pub confirmed-does : (v : Verdict) → is_confirmed v ≡ true → does_by v ≡ Doing.Confirms
confirmed-does v h =
    let other : is_kept v ≡ false = ne_eqb (number_of v) 10 (λ e. omega (arith, e, eqb-true (number_of v) 11 h)) in
    rw (other, h)

-- ---- what the table of reports says of a report that is kept or confirmed
module _ (n : Option Line) (e : Entry) (from : Code) (day : CalendarDays) (r : Report) where
  not-open : is_kept (report_verdict n e from day r) ≡ true → is_open r.kind r e.places ≡ false
  unfolding any
  not-open h = line-passed is_kept 8 (false, Kept) (report_table n e from day r) Kept (lit≤ tt) refl h

  not-before : is_confirmed (report_verdict n e from day r) ≡ true → before_last r.date e.last ≡ false
  unfolding any
  not-before h = line-passed is_confirmed 5 (false, Kept) (report_table n e from day r) Kept (lit≤ tt) refl h

  partnered : is_confirmed (report_verdict n e from day r) ≡ true → (partner_open r e.places || zed_open r e.places) ≡ true
  unfolding any
  partnered h = either (partner_open r e.places) (zed_open r e.places) (line-applied is_confirmed (report_table n e from day r) Kept refl h)
    where
      either : (a b : Bool) → (a || (b || false)) ≡ true → (a || b) ≡ true
      either true b e = refl
      either false true e = refl
      either false false e = e

-- ---- discarded
no-effect : (line : Line) (e : Entry) (rec : Record) (says : Says) → effect_by Doing.Nothing line e rec says ≡ e
no-effect line e rec (Reported p) = refl
no-effect line e rec (Objected o) = refl
no-effect line e rec Other = refl

pub discarded-stays : (line : Line) (e : Entry) (rec : Record) → Discarded (verdict_on (Some line) e rec) → entry_after line e rec ≡ e
unfolding entry_after
discarded-stays line e rec h = ap (λ (d : Doing). effect_on d line e rec) h ∙ no-effect line e rec rec.says

-- ---- the last confirmed date
pub not-after-refl : (l : Option CalendarDays) → NotAfter l l
not-after-refl None = tt
not-after-refl (Some d) = le_refl d.0

date-not-after : (d : CalendarDays) (l : Option CalendarDays) → before_last d l ≡ false → NotAfter l (Some d)
date-not-after d None h = tt
date-not-after d (Some l) h = ltb-false d.0 l.0 h

last-by : (line : Line) (e : Entry) (rec : Record) (says : Says) → NotAfter e.last (effect_by (does_by (verdict_by (Some line) e rec.publisher rec.day says)) line e rec says).last
last-by line e rec (Reported p) = go (does_by v) refl
  where
    r : Report
    r = meant_by line.owner p

    v : Verdict
    v = report_verdict (Some line) e rec.publisher rec.day r

    go : (d : Doing) → does_by v ≡ d → NotAfter e.last (report_effect d e (placed_as rec r)).last
    go Doing.Keeps q = not-after-refl e.last
    go Doing.Confirms q = date-not-after r.date e.last (not-before (Some line) e rec.publisher rec.day r (confirmed-by v q))
    go Doing.Lapses q = not-after-refl e.last
    go Doing.Nothing q = not-after-refl e.last
last-by line e rec (Objected o) = go (does_by (objection_verdict (Some line) e rec.publisher o))
  where
    go : (d : Doing) → NotAfter e.last (objection_effect d e line.owner o.named).last
    go Doing.Keeps = not-after-refl e.last
    go Doing.Confirms = not-after-refl e.last
    go Doing.Lapses = not-after-refl e.last
    go Doing.Nothing = not-after-refl e.last
last-by line e rec Other = not-after-refl e.last

pub last-stays : (line : Line) (e : Entry) (rec : Record) → NotAfter e.last (entry_after line e rec).last
unfolding entry_after
last-stays line e rec = last-by line e rec rec.says

-- ---- the places
kept-tidy : (e : Entry) (q : Place) → q.taken ≡ true → is_open q.report.kind q.report e.places ≡ false → Tidy e → Tidy (kept e q)
kept-tidy e q t n h = record {
  eight = length-set e.places (lowest_free e.places) q ∙ h.eight;
  apart = apart-kept e.places q t n h.apart;
}

confirmed-tidy : (e : Entry) (r : Report) → Tidy e → Tidy (confirmed e r)
confirmed-tidy e r h = record {
  eight = length-map e.places (lapsed r.date) ∙ h.eight;
  apart = apart-thinned (thinned-map r.date e.places) h.apart;
}

without-tidy : (e : Entry) (owner : Code) (named : Published) → Tidy e → Tidy (without_named e owner named)
without-tidy e owner named h = record {
  eight = length-set e.places (named_at owner named e.places) free_place ∙ h.eight;
  apart = apart-thinned (thinned-set e.places (named_at owner named e.places)) h.apart;
}

tidy-by : (line : Line) (e : Entry) (rec : Record) (says : Says) → Tidy e → Tidy (effect_by (does_by (verdict_by (Some line) e rec.publisher rec.day says)) line e rec says)
tidy-by line e rec (Reported p) h = go (does_by v) refl
  where
    r : Report
    r = meant_by line.owner p

    v : Verdict
    v = report_verdict (Some line) e rec.publisher rec.day r

    go : (d : Doing) → does_by v ≡ d → Tidy (report_effect d e (placed_as rec r))
    go Doing.Keeps q = kept-tidy e (placed_as rec r) refl (not-open (Some line) e rec.publisher rec.day r (kept_by v q)) h
    go Doing.Confirms q = confirmed-tidy e r h
    go Doing.Lapses q = h
    go Doing.Nothing q = h
tidy-by line e rec (Objected o) h = go (does_by (objection_verdict (Some line) e rec.publisher o))
  where
    go : (d : Doing) → Tidy (objection_effect d e line.owner o.named)
    go Doing.Keeps = h
    go Doing.Confirms = h
    go Doing.Lapses = without-tidy e line.owner o.named h
    go Doing.Nothing = h
tidy-by line e rec Other h = h

pub tidy-stays : (line : Line) (e : Entry) (rec : Record) → Tidy e → Tidy (entry_after line e rec)
unfolding entry_after
tidy-stays line e rec h = tidy-by line e rec rec.says h

-- ---- the pair
explained-by : (line : Line) (s : Standing) (rec : Record) (says : Says) → Explained line s
    → Explained line (record { entry = effect_by (does_by (verdict_by (Some line) s.entry rec.publisher rec.day says)) line s.entry rec says; why = why_by (does_by (verdict_by (Some line) s.entry rec.publisher rec.day says)) line.owner s.entry.places s.why rec says })
explained-by line s rec (Reported p) h = go (does_by v) refl
  where
    r : Report
    r = meant_by line.owner p

    e : Entry
    e = s.entry

    v : Verdict
    v = report_verdict (Some line) e rec.publisher rec.day r

    go : (d : Doing) → does_by v ≡ d → Explained line (record { entry = report_effect d e (placed_as rec r); why = pair_after d e.places (placed_as rec r) s.why })
    go Doing.Keeps q = record { holder = h.holder; last = h.last; pair = h.pair }
    go Doing.Confirms q =
        let m = partner-pairs r e.places (partnered (Some line) e rec.publisher rec.day r (confirmed-by v q)) in
        record { holder = refl; last = refl; pair = record { kinds = m.0; matching = m.1 } }
    go Doing.Lapses q = record { holder = h.holder; last = h.last; pair = h.pair }
    go Doing.Nothing q = record { holder = h.holder; last = h.last; pair = h.pair }
explained-by line s rec (Objected o) h = go (does_by (objection_verdict (Some line) s.entry rec.publisher o))
  where
    go : (d : Doing) → Explained line (record { entry = objection_effect d s.entry line.owner o.named; why = s.why })
    go Doing.Keeps = record { holder = h.holder; last = h.last; pair = h.pair }
    go Doing.Confirms = record { holder = h.holder; last = h.last; pair = h.pair }
    go Doing.Lapses = record { holder = h.holder; last = h.last; pair = h.pair }
    go Doing.Nothing = record { holder = h.holder; last = h.last; pair = h.pair }
explained-by line s rec Other h = record { holder = h.holder; last = h.last; pair = h.pair }

pub explained-stays : (line : Line) (s : Standing) (rec : Record) → Explained line s → Explained line (stand_on line s rec)
unfolding stand_on
explained-stays line s rec h = explained-by line s rec rec.says h
