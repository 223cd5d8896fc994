-- One record, and then each, leaves an entry in range where the record is in range. Assumes nothing.
--     fine_stays      an entry in range is in range after a record in range
--     fine-along      and after any number of them
use Rattle.std.specs.Prelude.{Some}
use mathlib.Core.Path.{◌≡◌, refl, sym, ap, subst, ◌∙◌}
use mathlib.Core.Bool.{Bool, true, false, cond, true≢false}
use mathlib.Core.List.{List, [], ◌∷◌, map, foldl, Memᴰ}
use Prim.Native.Nat.{ℕ, ◌≤◌, ◌<◌}
use native.Mathlib.Decide.{ℕ_discrete}
use native.Mathlib.Omega.{arith}
use lib.Dec.{leb, lit≤, lit<}
use lib.ListN.{length, get_or, set, length-set, length-map, get_or-map}
use lib.Seq.{get_or-set_same, get_or-set_other}
use Rattle.calendar.specs.declared.dates.CalendarDays.{CalendarDays}
use Rattle.fields.specs.declared.code.Code.{Code}
use Rattle.fields.specs.declared.gaining.Gaining.{Gaining}
use Rattle.fields.specs.declared.gaining.Gaining.TheVariants.{Code as To, Owner}
use Rattle.entries.specs.declared.report.Published.{Published}
use Rattle.entries.specs.declared.report.Report.{Report}
use Rattle.entries.specs.declared.entry.Place.{Place}
use Rattle.entries.specs.declared.entry.Entry.{Entry}
use Rattle.entries.specs.declared.entry.Line.{Line}
use Rattle.entries.specs.Report.{gaining_of, meant_by}
use Rattle.entries.specs.Entry.{free_place}
use Rattle.entries.specs.places.Places.{lowest_free, lapsed}
use Rattle.verdict.specs.declared.verdicts.Doing.{Doing}
use Rattle.verdict.specs.declared.step.Says.{Says}
use Rattle.verdict.specs.declared.step.Says.TheVariants.{Reported, Objected, Other}
use Rattle.verdict.specs.declared.step.Record.{Record}
use Rattle.verdict.specs.verdicts.Does.{does_by}
use Rattle.verdict.specs.effects.Reports.{kept, confirmed, report_effect}
use Rattle.verdict.specs.effects.Corrections.{named_at, without_named, objection_effect}
use Rattle.verdict.specs.Step.{placed_as, verdict_on, effect_by, entry_after}
use Rattle.store.proofs.entry_slots.Back.{FinePlace, FineEntry, first_fine}

-- ---- a record in range: its day in the calendar, its place in three bytes, and what it reports in range
abbrev pub FineGaining : Gaining → Type 0
FineGaining (To c) = c.0 ≤ 999
FineGaining Owner = Unit {0}

pub record FinePublished (p : Published) : Type 0 where
  pub date-in : p.date.0 ≤ 18992
  pub losing-in : p.losing.0 ≤ 999
  pub gaining-in : FineGaining p.gaining

abbrev pub FineSays : Says → Type 0
FineSays (Reported p) = FinePublished p
FineSays (Objected o) = Unit {0}
FineSays Other = Unit {0}

pub record FineRecord (rec : Record) : Type 0 where
  pub day-in : rec.day.0 ≤ 18992
  pub at_in : rec.at < 16777216
  pub says-in : FineSays rec.says

-- ---- the places
free-fine : FinePlace free_place
free-fine = (first_fine (record { owner = record { 0 = 0 }; setup = record { 0 = 0 } }) (lit≤ tt)).each 0 (lit< tt)

set-fine : (ps : List Place) (k : ℕ) (q : Place) → FinePlace q → ((i : ℕ) → i < length ps → FinePlace (get_or ps i free_place))
    → (i : ℕ) → i < length ps → FinePlace (get_or (set ps k q) i free_place)
set-fine ps k q f each i h = elim (ℕ_discrete i k) [
  | yes e ↦ subst FinePlace (sym (ap (λ (j : ℕ). get_or (set ps k q) j free_place) e ∙ get_or-set_same ps k q free_place (omega arith))) f
  | no ne ↦ subst FinePlace (sym (get_or-set_other ps k i q free_place ne)) (each i h)
]

lapsed-fine : (d : CalendarDays) (p : Place) → FinePlace p → FinePlace (lapsed d p)
unfolding lapsed
lapsed-fine d p f = go (leb p.report.date.0 d.0)
  where
    go : (t : Bool) → FinePlace (cond t free_place p)
    go true = free-fine
    go false = f

lapsed-free : (d : CalendarDays) → lapsed d free_place ≡ free_place
unfolding lapsed
lapsed-free d = go (leb 0 d.0)
  where
    go : (t : Bool) → cond t free_place free_place ≡ free_place
    go true = refl
    go false = refl

map-fine : (d : CalendarDays) (ps : List Place) (i : ℕ) → FinePlace (get_or ps i free_place) → FinePlace (get_or (map (lapsed d) ps) i free_place)
map-fine d ps i f =
    subst FinePlace (sym (ap (get_or (map (lapsed d) ps) i) (sym (lapsed-free d)) ∙ get_or-map (lapsed d) ps i free_place)) (lapsed-fine d (get_or ps i free_place) f)

-- ---- what a verdict does
gained-fine : (owner : Code) (g : Gaining) → owner.0 ≤ 999 → FineGaining g → (gaining_of owner g).0 ≤ 999
gained-fine owner (To c) h f = f
gained-fine owner Owner h f = h

module _ (e : Entry) (f : FineEntry e) where
  kept_fine : (q : Place) → FinePlace q → FineEntry (kept e q)
  kept_fine q g =
      let size = f.eight in
      record {
        holder_in = f.holder_in;
        last-in = f.last-in;
        eight = length-set e.places (lowest_free e.places) q ∙ size;
        each = λ i h. set-fine e.places (lowest_free e.places) q g (λ j k. f.each j (omega arith)) i (omega arith);
      }

  confirmed-fine : (r : Report) → r.gaining.0 ≤ 999 → r.date.0 ≤ 18992 → FineEntry (confirmed e r)
  confirmed-fine r g d = record {
    holder_in = g;
    last-in = d;
    eight = length-map e.places (lapsed r.date) ∙ f.eight;
    each = λ i h. map-fine r.date e.places i (f.each i h);
  }

  without-fine : (owner : Code) (named : Published) → FineEntry (without_named e owner named)
  without-fine owner named =
      let size = f.eight in
      record {
        holder_in = f.holder_in;
        last-in = f.last-in;
        eight = length-set e.places (named_at owner named e.places) free_place ∙ size;
        each = λ i h. set-fine e.places (named_at owner named e.places) free_place free-fine (λ j k. f.each j (omega arith)) i (omega arith);
      }

-- whatever the verdict does
effect-fine : (d : Doing) (line : Line) (e : Entry) (rec : Record) (says : Says) → line.owner.0 ≤ 999 → FineEntry e → rec.day.0 ≤ 18992 → rec.at < 16777216
    → FineSays says → FineEntry (effect_by d line e rec says)
effect-fine d line e rec (Reported p) o f day a s = go d
  where
    r : Report
    r = meant_by line.owner p

    gaining : r.gaining.0 ≤ 999
    gaining = gained-fine line.owner p.gaining o s.gaining-in

    placed : FinePlace (placed_as rec r)
    placed = record { free = λ t. absurd (true≢false t); date-in = s.date-in; losing-in = s.losing-in; gaining-in = gaining; day-in = day; at_in = a }

    go : (d : Doing) → FineEntry (report_effect d e (placed_as rec r))
    go Doing.Keeps = kept_fine e f (placed_as rec r) placed
    go Doing.Confirms = confirmed-fine e f r gaining s.date-in
    go Doing.Lapses = f
    go Doing.Nothing = f
effect-fine d line e rec (Objected o) w f day a s = go d
  where
    go : (d : Doing) → FineEntry (objection_effect d e line.owner o.named)
    go Doing.Keeps = f
    go Doing.Confirms = f
    go Doing.Lapses = without-fine e f line.owner o.named
    go Doing.Nothing = f
effect-fine d line e rec Other w f day a s = f

pub fine_stays : (line : Line) (e : Entry) (rec : Record) → line.owner.0 ≤ 999 → FineEntry e → FineRecord rec → FineEntry (entry_after line e rec)
unfolding entry_after
fine_stays line e rec o f g = effect-fine (does_by (verdict_on (Some line) e rec)) line e rec rec.says o f g.day-in g.at_in g.says-in

pub fine-along : {A : Type 0} (line : Line) (says : A → Record) (l : List A) (e : Entry) → line.owner.0 ≤ 999 → FineEntry e
    → ((x : A) → Memᴰ x l → FineRecord (says x)) → FineEntry (foldl (λ (t : Entry) (x : A). entry_after line t (says x)) e l)
fine-along line says [] e o f each = f
fine-along line says (x ∷ l) e o f each =
    fine-along line says l (entry_after line e (says x)) o (fine_stays line e (says x) o f (each x (Memᴰ.head refl))) (λ y m. each y (Memᴰ.tail m))
