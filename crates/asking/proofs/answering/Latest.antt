-- The pair that is shown is the one of the last record that was confirmed, and none is shown exactly if none was. Assumes nothing.
use Rattle.std.specs.Prelude.{Some}
use mathlib.Core.Path.{◌≡◌, refl, sym, ap, ◌∙◌}
use mathlib.Core.Logic.{◌⊎◌, inl, inr, ⊎_elim}
use mathlib.Core.Bool.{Bool, true, false, not, true≢false}
use mathlib.Core.List.{List, [], ◌∷◌, ◌++◌, foldl}
use Prim.Native.Nat.{ℕ}
use native.Mathlib.Omega.{arith}
use Rattle.laws.specs.Lists.{any}
use Rattle.laws.proofs.Lines.{line-applied}
use Rattle.laws.proofs.Tests.{and-true}
use Rattle.fields.specs.declared.code.Code.{Code}
use Rattle.entries.specs.declared.entry.Place.{Place}
use Rattle.entries.specs.declared.entry.Entry.{Entry}
use Rattle.entries.specs.declared.entry.Line.{Line}
use Rattle.entries.specs.Report.{meant_by}
use Rattle.verdict.specs.declared.verdicts.Verdict.{Verdict}
use Rattle.verdict.specs.declared.verdicts.Doing.{Doing}
use Rattle.verdict.specs.declared.correction_rules.Objection.{Objection}
use Rattle.verdict.specs.declared.step.Says.{Says}
use Rattle.verdict.specs.declared.step.Record.{Record}
use Rattle.verdict.specs.declared.step.Why.{Why}
use Rattle.verdict.specs.declared.step.Standing.{Standing}
use Rattle.verdict.specs.verdicts.Does.{is_confirmed, does_by}
use Rattle.verdict.specs.report_rules.Reports.{report_verdict}
use Rattle.verdict.specs.correction_rules.Corrections.{objection_table, objection_verdict}
use Rattle.verdict.specs.Step.{placed_as, verdict_by, verdict_on, pair_after, why_by, stand_on, entry_after}
use Rattle.verdict.proofs.StepLaws.{confirmed-by, confirmed-does}
use Rattle.model.specs.Rules.{Event}
use Rattle.rules.specs.Rules.{record_of}
use Rattle.asking.specs.answering.Confirmed.{confirms, none_confirms}

-- where a number stands after records
abbrev pub standing : Line → Standing → List Event → Standing
standing line s es = foldl (λ (t : Standing) (e : Event). stand_on line t (record_of e)) s es

-- the last of the records that was confirmed: those before it, those after it
pub record Latest (line : Line) (s : Standing) (es : List Event) : Type 0 where
  pub earlier : List Event
  pub event : Event
  pub later : List Event
  pub split : es ≡ earlier ++ (event ∷ later)
  pub confirmed : confirms line (standing line s earlier).entry event ≡ true
  pub none-later : none_confirms line (stand_on line (standing line s earlier) (record_of event)).entry later ≡ true
  pub why : (standing line s es).why ≡ (stand_on line (standing line s earlier) (record_of event)).why

why-by : (v : Verdict) (owner : Code) (ps : List Place) (before : Why) (rec : Record) (says : Says) → is_confirmed v ≡ false → why_by (does_by v) owner ps before rec says ≡ before
why-by v owner ps before rec (Says.Reported p) e = go (does_by v) refl
  where
    go : (d : Doing) → does_by v ≡ d → pair_after d ps (placed_as rec (meant_by owner p)) before ≡ before
    go Doing.Confirms q = absurd (true≢false (sym (confirmed-by v q) ∙ e))
    go Doing.Keeps q = refl
    go Doing.Lapses q = refl
    go Doing.Nothing q = refl
why-by v owner ps before rec (Says.Objected o) e = refl
why-by v owner ps before rec Says.Other e = refl

why-stays : (line : Line) (s : Standing) (e : Event) → confirms line s.entry e ≡ false → (stand_on line s (record_of e)).why ≡ s.why
unfolding stand_on
why-stays line s e h = why-by (verdict_on (Some line) s.entry (record_of e)) line.owner s.entry.places s.why (record_of e) (record_of e).says h

none_more : (line : Line) (s : Standing) (e : Event) (es : List Event) → confirms line s.entry e ≡ false → none_confirms line (stand_on line s (record_of e)).entry es ≡ true → none_confirms line s.entry (e ∷ es) ≡ true
unfolding stand_on entry_after none_confirms
none_more line s e es h k = and-true _ _ (ap not h) k

pub latest : (line : Line) (s : Standing) (es : List Event) → ((none_confirms line s.entry es ≡ true) × ((standing line s es).why ≡ s.why)) ⊎ Latest line s es
unfolding none_confirms
latest line s [] = inl (refl, refl)
latest line s (e ∷ es) =
    ⊎_elim (here (confirms line s.entry e) refl)
    (λ w. inr (record {
      earlier = e ∷ w.earlier;
      event = w.event;
      later = w.later;
      split = ap (λ (l : List Event). e ∷ l) w.split;
      confirmed = w.confirmed;
      none-later = w.none-later;
      why = w.why;
    }))
    (latest line (stand_on line s (record_of e)) es)
  where
    here : (b : Bool) → confirms line s.entry e ≡ b → ((none_confirms line (stand_on line s (record_of e)).entry es ≡ true) × ((standing line (stand_on line s (record_of e)) es).why ≡ (stand_on line s (record_of e)).why))
        → ((none_confirms line s.entry (e ∷ es) ≡ true) × ((standing line s (e ∷ es)).why ≡ s.why)) ⊎ Latest line s (e ∷ es)
    here true c w = inr (record { earlier = []; event = e; later = es; split = refl; confirmed = c; none-later = w.0; why = w.1 })
    here false c w = inl (none_more line s e es c w.0, w.1 ∙ why-stays line s e c)

-- ---- a confirmed record makes a pair
never-11 : (line : Line) (entry : Entry) (from : Code) (o : Objection) → is_confirmed (objection_verdict (Some line) entry from o) ≡ true → ⊥
unfolding any
never-11 line entry from o h = true≢false (sym (line-applied is_confirmed (objection_table (Some line) entry from o) Verdict.Lapses refl h))

pair-by : (line : Line) (s : Standing) (e : Event) (says : Says) → is_confirmed (verdict_by (Some line) s.entry (record_of e).publisher (record_of e).day says) ≡ true
    → why_by (does_by (verdict_by (Some line) s.entry (record_of e).publisher (record_of e).day says)) line.owner s.entry.places s.why (record_of e) says ≡ Why.Nothing → ⊥
pair-by line s e (Says.Reported p) h k = apart _ _ (sym (ap (λ (d : Doing). pair_after d s.entry.places (placed_as (record_of e) (meant_by line.owner p)) s.why) (confirmed-does v h)) ∙ k)
  where
    v : Verdict
    v = report_verdict (Some line) s.entry (record_of e).publisher (record_of e).day (meant_by line.owner p)

    apart : (a b : Place) → Why.Pair a b ≡ Why.Nothing → ⊥
    apart a b q = let z : ◌≡◌ {A = ℕ} 0 1 = cc in absurd (omega arith)
pair-by line s e (Says.Objected o) h k = never-11 line s.entry (record_of e).publisher o h
pair-by line s e Says.Other h k = true≢false (sym h)

pub pair_made : (line : Line) (s : Standing) (e : Event) → confirms line s.entry e ≡ true → (stand_on line s (record_of e)).why ≡ Why.Nothing → ⊥
unfolding stand_on
pair_made line s e h k = pair-by line s e (record_of e).says h k
