-- Where the reports of a number's open places and of its last confirmed pair come from: each is a record of its history, published by the network that
-- has to; of a pair, the first one stands before the second. Assumes nothing.
use Rattle.std.specs.Prelude.{Some}
use mathlib.Core.Path.{◌≡◌, refl, sym, ap, subst, ◌∙◌}
use mathlib.Core.Logic.{◌⊎◌, inl, inr, ⊎_elim}
use mathlib.Core.Bool.{Bool, true, false, cond, true≢false}
use mathlib.Core.List.Memᴰ
use mathlib.Core.List.{List, [], ◌∷◌, ◌++◌, append_assoc, append-nil, map, foldl, Memᴰ}
use Prim.Native.Nat.{ℕ, zero, suc}
use borrow.Author.Tests.{not-false}
use lib.Dec.{eqb, leb, lit≤}
use lib.ListN.{get_or, set, replicate}
use Rattle.laws.specs.Lists.{any}
use Rattle.laws.proofs.Lines.{line-passed}
use Rattle.laws.proofs.Tests.{eqb_refl}
use Rattle.fields.specs.declared.code.Code.{Code}
use Rattle.calendar.specs.declared.dates.CalendarDays.{CalendarDays}
use Rattle.entries.specs.declared.report.Published.{Published}
use Rattle.entries.specs.declared.report.Report.{Report}
use Rattle.entries.specs.declared.entry.Place.{Place}
use Rattle.entries.specs.declared.entry.Entry.{Entry}
use Rattle.entries.specs.declared.entry.Line.{Line}
use Rattle.entries.specs.Entry.{free_place}
use Rattle.entries.specs.Report.{meant_by, publisher_of, same_code, matches}
use Rattle.entries.specs.places.Places.{lowest_free, lapsed}
use Rattle.entries.proofs.SameLaws.{same_code_lem, matches-equal}
use Rattle.verdict.specs.declared.verdicts.Verdict.{Verdict}
use Rattle.verdict.specs.declared.verdicts.Verdict.TheVariants.{Kept}
use Rattle.verdict.specs.declared.step.Says.{Says}
use Rattle.verdict.specs.declared.step.Why.{Why}
use Rattle.verdict.specs.declared.step.Standing.{Standing}
use Rattle.verdict.specs.declared.verdicts.Doing.{Doing}
use Rattle.verdict.specs.verdicts.Does.{is_kept, is_confirmed, does_by}
use Rattle.verdict.specs.report_rules.Reports.{report_table, report_verdict}
use Rattle.verdict.specs.effects.Reports.{report_effect, partner_at}
use Rattle.verdict.specs.correction_rules.Corrections.{objection_verdict}
use Rattle.verdict.specs.effects.Corrections.{objection_effect, named_at}
use Rattle.verdict.specs.Step.{placed_as, verdict_by, effect_by, pair_after, why_by, stand_on, first_standing}
use Rattle.verdict.specs.Sound.{Explained, Pairing, Paired}
use Rattle.verdict.proofs.StepLaws.{kept_by, confirmed-by, explained-stays}
use Rattle.model.specs.Rules.{Event}
use Rattle.rules.specs.Rules.{record_of}

-- ---- members of a list that was changed
mem-set : {A : Type 0} {x : A} (l : List A) (i : ℕ) (y : A) → Memᴰ x (set l i y) → (x ≡ y) ⊎ Memᴰ x l
mem-set [] i y m = inr m
mem-set (z ∷ l) zero y (Memᴰ.head e) = inl e
mem-set (z ∷ l) zero y (Memᴰ.tail m) = inr (Memᴰ.tail m)
mem-set (z ∷ l) (suc i) y (Memᴰ.head e) = inr (Memᴰ.head e)
mem-set (z ∷ l) (suc i) y (Memᴰ.tail m) = ⊎_elim (λ e. inl e) (λ k. inr (Memᴰ.tail k)) (mem-set l i y m)

mem-map : {A B : Type 0} {x : B} (f : A → B) (l : List A) → Memᴰ x (map f l) → (y : A) × Memᴰ y l × (x ≡ f y)
mem-map f [] m = absurd (Memᴰ.not-nil m)
mem-map f (z ∷ l) (Memᴰ.head e) = (z, Memᴰ.head refl, e)
mem-map f (z ∷ l) (Memᴰ.tail m) = let w = mem-map f l m in (w.0, Memᴰ.tail w.1, w.2)

mem-get_or : {A : Type 0} (l : List A) (i : ℕ) (d : A) → Memᴰ (get_or l i d) l ⊎ (get_or l i d ≡ d)
mem-get_or [] i d = inr refl
mem-get_or (x ∷ l) zero d = inl (Memᴰ.head refl)
mem-get_or (x ∷ l) (suc i) d = ⊎_elim (λ m. inl (Memᴰ.tail m)) (λ e. inr e) (mem-get_or l i d)

mem-more : {A : Type 0} {x : A} (l m : List A) → Memᴰ x l → Memᴰ x (l ++ m)
mem-more (y ∷ l) m (Memᴰ.head e) = Memᴰ.head e
mem-more (y ∷ l) m (Memᴰ.tail k) = Memᴰ.tail (mem-more l m k)
mem-more [] m k = absurd (Memᴰ.not-nil k)

mem-end : {A : Type 0} (l : List A) (x : A) → Memᴰ x (l ++ (x ∷ []))
mem-end [] x = Memᴰ.head refl
mem-end (y ∷ l) x = Memᴰ.tail (mem-end l x)

mem-free : {x : Place} (n : ℕ) → Memᴰ x (replicate n free_place) → x ≡ free_place
mem-free zero m = absurd (Memᴰ.not-nil m)
mem-free (suc n) (Memᴰ.head e) = e
mem-free (suc n) (Memᴰ.tail m) = mem-free n m

-- ---- a place's report is one of these records
pub record Root (owner : Code) (es : List Event) (p : Place) : Type 0 where
  pub event : Event
  pub member : Memᴰ event es
  pub report : Published
  pub says : (record_of event).says ≡ Says.Reported report
  pub placed : p ≡ placed_as (record_of event) (meant_by owner report)
  pub publisher : record { 0 = event.publisher } ≡ publisher_of p.report

-- of these records, one stands somewhere before the other
pub record StandsBefore (es : List Event) (one other : Event) : Type 0 where
  pub earlier : List Event
  pub later : List Event
  pub split : es ≡ earlier ++ (other ∷ later)
  pub among : Memᴰ one earlier

-- a pair's reports are, the first one standing before the second
pub record Roots (owner : Code) (es : List Event) (a b : Place) : Type 0 where
  pub first : Root owner es a
  pub second : Root owner es b
  pub apart : StandsBefore es first.event second.event

abbrev pub RootedPair : Code → List Event → Why → Type 0
RootedPair owner es Why.Nothing = Unit {0}
RootedPair owner es (Why.Pair a b) = Roots owner es a b

pub record Rooted (owner : Code) (es : List Event) (s : Standing) : Type 0 where
  pub places : (p : Place) → Memᴰ p s.entry.places → Root owner es p ⊎ (p ≡ free_place)
  pub pair : RootedPair owner es s.why

abbrev root-more : (owner : Code) (es more : List Event) (p : Place) → Root owner es p → Root owner (es ++ more) p
root-more owner es more p w = record {
  event = w.event;
  member = mem-more es more w.member;
  report = w.report;
  says = w.says;
  placed = w.placed;
  publisher = w.publisher;
}

pair-more : (owner : Code) (es more : List Event) (w : Why) → RootedPair owner es w → RootedPair owner (es ++ more) w
pair-more owner es more Why.Nothing h = tt
pair-more owner es more (Why.Pair a b) h = record {
  first = root-more owner es more a h.first;
  second = root-more owner es more b h.second;
  apart = record {
    earlier = h.apart.earlier;
    later = h.apart.later ++ more;
    split = ap (λ (l : List Event). l ++ more) h.apart.split ∙ append_assoc h.apart.earlier (h.second.event ∷ h.apart.later) more;
    among = h.apart.among;
  };
}

-- ---- what the table of reports says of a report that is kept or confirmed
module _ (line : Line) (e : Entry) (from : Code) (day : CalendarDays) (r : Report) where
  abbrev v : Verdict
  v = report_verdict (Some line) e from day r

  from-kept : is_kept v ≡ true → from ≡ publisher_of r
  unfolding any
  from-kept k = same_code_lem from (publisher_of r) (not-false _ (line-passed is_kept 1 (false, Kept) (report_table (Some line) e from day r) Kept (lit≤ tt) refl k))

  from-confirmed : is_confirmed v ≡ true → from ≡ publisher_of r
  unfolding any
  from-confirmed k = same_code_lem from (publisher_of r) (not-false _ (line-passed is_confirmed 1 (false, Kept) (report_table (Some line) e from day r) Kept (lit≤ tt) refl k))

  networks-differ : is_confirmed v ≡ true → same_code r.losing r.gaining ≡ false
  unfolding any
  networks-differ k = line-passed is_confirmed 2 (false, Kept) (report_table (Some line) e from day r) Kept (lit≤ tt) refl k

  -- a report that is confirmed makes no pair with a free place: that one has no two networks
  not_free : (p : Place) → is_confirmed v ≡ true → p ≡ free_place → matches p.report r ≡ true → ⊥
  not_free p k f m =
      let w = matches-equal p.report r m in
      let same : r.losing ≡ r.gaining = sym w.losing ∙ ap (λ (q : Place). q.report.losing) f ∙ sym (ap (λ (q : Place). q.report.gaining) f) ∙ w.gaining in
      true≢false (sym (eqb_refl r.gaining.0) ∙ sym (ap (λ (c : Code). eqb c.0 r.gaining.0) same) ∙ networks-differ k)

lapsed-or : (d : CalendarDays) (p : Place) → (lapsed d p ≡ free_place) ⊎ (lapsed d p ≡ p)
unfolding lapsed
lapsed-or d p = go (leb p.report.date.0 d.0)
  where
    go : (b : Bool) → (cond b free_place p ≡ free_place) ⊎ (cond b free_place p ≡ p)
    go true = inl refl
    go false = inr refl

-- ---- one record more
abbrev after : Line → Standing → Event → Says → Standing
after line s e says = record {
  entry = effect_by (does_by (verdict_by (Some line) s.entry (record_of e).publisher (record_of e).day says)) line s.entry (record_of e) says;
  why = why_by (does_by (verdict_by (Some line) s.entry (record_of e).publisher (record_of e).day says)) line.owner s.entry.places s.why (record_of e) says;
}

-- what it leaves as it is
rooted_more : (line : Line) (es : List Event) (s : Standing) (e : Event) → Rooted line.owner es s → Rooted line.owner (es ++ (e ∷ [])) s
rooted_more line es s e h = record {
  places = λ y m. ⊎_elim (λ k. inl (root-more line.owner es (e ∷ []) y k)) (λ k. inr k) (h.places y m);
  pair = pair-more line.owner es (e ∷ []) s.why h.pair;
}

root_by : (line : Line) (es : List Event) (s : Standing) (e : Event) (says : Says) → (record_of e).says ≡ says → Paired (after line s e says).why → Rooted line.owner es s
    → Rooted line.owner (es ++ (e ∷ [])) (after line s e says)
root_by line es s e (Says.Reported p) q x h = go (does_by w) refl x
  where
    r : Report
    r = meant_by line.owner p

    w : Verdict
    w = report_verdict (Some line) s.entry (record_of e).publisher (record_of e).day r

    second : Place
    second = placed_as (record_of e) r

    partner : Place
    partner = get_or s.entry.places (partner_at r s.entry.places) free_place

    old : (y : Place) → Memᴰ y s.entry.places → Root line.owner (es ++ (e ∷ [])) y ⊎ (y ≡ free_place)
    old y m = ⊎_elim (λ k. inl (root-more line.owner es (e ∷ []) y k)) (λ k. inr k) (h.places y m)

    new : (record_of e).publisher ≡ publisher_of r → Root line.owner (es ++ (e ∷ [])) second
    new f = record { event = e; member = mem-end es e; report = p; says = q; placed = refl; publisher = f }

    lapsed-old : (y : Place) → Memᴰ y (map (lapsed r.date) s.entry.places) → Root line.owner (es ++ (e ∷ [])) y ⊎ (y ≡ free_place)
    lapsed-old y m =
        let z = mem-map (lapsed r.date) s.entry.places m in
        ⊎_elim (λ k. inr (z.2 ∙ k)) (λ k. ⊎_elim (λ u. inl (subst (Root line.owner (es ++ (e ∷ []))) (sym (z.2 ∙ k)) u)) (λ u. inr (z.2 ∙ k ∙ u)) (old z.0 z.1)) (lapsed-or r.date z.0)

    partner-root : is_confirmed w ≡ true → Pairing partner second → Root line.owner es partner
    partner-root g m =
        ⊎_elim (λ k. ⊎_elim (λ u. u) (λ u. absurd (not_free line s.entry (record_of e).publisher (record_of e).day r partner g u m.matching)) (h.places partner k))
        (λ u. absurd (not_free line s.entry (record_of e).publisher (record_of e).day r partner g u m.matching))
        (mem-get_or s.entry.places (partner_at r s.entry.places) free_place)

    go : (d : Doing) → does_by w ≡ d → Paired (pair_after d s.entry.places second s.why)
        → Rooted line.owner (es ++ (e ∷ [])) (record { entry = report_effect d s.entry second; why = pair_after d s.entry.places second s.why })
    go Doing.Keeps g m = record {
      places = λ y k. ⊎_elim (λ u. inl (subst (Root line.owner (es ++ (e ∷ []))) (sym u) (new (from-kept line s.entry (record_of e).publisher (record_of e).day r (kept_by w g))))) (old y) (mem-set s.entry.places (lowest_free s.entry.places) second k);
      pair = pair-more line.owner es (e ∷ []) s.why h.pair;
    }
    go Doing.Confirms g m =
        let c = confirmed-by w g in record {
          places = lapsed-old;
          pair = record {
            first = root-more line.owner es (e ∷ []) partner (partner-root c m);
            second = new (from-confirmed line s.entry (record_of e).publisher (record_of e).day r c);
            apart = record { earlier = es; later = []; split = refl; among = (partner-root c m).member };
          };
        }
    go Doing.Lapses g m = record { places = old; pair = pair-more line.owner es (e ∷ []) s.why h.pair }
    go Doing.Nothing g m = record { places = old; pair = pair-more line.owner es (e ∷ []) s.why h.pair }
root_by line es s e (Says.Objected o) q x h = go (does_by (objection_verdict (Some line) s.entry (record_of e).publisher o))
  where
    as_before : Rooted line.owner (es ++ (e ∷ [])) s
    as_before = rooted_more line es s e h

    go : (d : Doing) → Rooted line.owner (es ++ (e ∷ [])) (record { entry = objection_effect d s.entry line.owner o.named; why = s.why })
    go Doing.Lapses = record {
      places = λ y k. ⊎_elim (λ u. inr u) (as_before.places y) (mem-set s.entry.places (named_at line.owner o.named s.entry.places) free_place k);
      pair = as_before.pair;
    }
    go Doing.Keeps = record { places = as_before.places; pair = as_before.pair }
    go Doing.Confirms = record { places = as_before.places; pair = as_before.pair }
    go Doing.Nothing = record { places = as_before.places; pair = as_before.pair }
root_by line es s e Says.Other q x h = let w = rooted_more line es s e h in record { places = w.places; pair = w.pair }

root-step : (line : Line) (es : List Event) (s : Standing) (e : Event) → Explained line s → Rooted line.owner es s → Rooted line.owner (es ++ (e ∷ [])) (stand_on line s (record_of e))
unfolding stand_on
root-step line es s e x h = root_by line es s e (record_of e).says refl (explained-stays line s (record_of e) x).pair h

-- ---- all along
pub rooted-along : (line : Line) (es more : List Event) (s : Standing) → Explained line s → Rooted line.owner es s
    → Rooted line.owner (es ++ more) (foldl (λ (t : Standing) (e : Event). stand_on line t (record_of e)) s more)
rooted-along line es [] s x h = subst (λ (l : List Event). Rooted line.owner l s) (sym (append-nil es)) h
rooted-along line es (e ∷ more) s x h =
    subst (λ (l : List Event). Rooted line.owner l (foldl (λ (t : Standing) (d : Event). stand_on line t (record_of d)) (stand_on line s (record_of e)) more)) (append_assoc es (e ∷ []) more)
    (rooted-along line (es ++ (e ∷ [])) more (stand_on line s (record_of e)) (explained-stays line s (record_of e) x) (root-step line es s e x h))

pub rooted-first : (line : Line) → Rooted line.owner [] (first_standing line)
rooted-first line = record { places = λ p m. inr (mem-free 8 m); pair = tt }
