-- The places' words are those in which std's iterators and derived comparisons speak. Assumes nothing.
use mathlib.Core.Path.{◌≡◌, refl, ap₂}
use mathlib.Core.Bool.{Bool, true, false, not, beq, ◌&&◌, ◌||◌}
use mathlib.Core.List.{List, [], ◌∷◌}
use lib.Dec.{eqb}
use denote.Enum.Bare.{sameb}
use Rattle.std.specs.Prelude.{Option, Some, None}
use Rattle.std.specs.Option.{option_eq}
use Rattle.std.specs.List.{list_all}
use Rattle.laws.specs.Lists.{any}
use Rattle.calendar.specs.declared.dates.CalendarDays.{CalendarDays}
use Rattle.fields.specs.declared.kind.Kind.{Kind}
use Rattle.fields.specs.declared.kind.Kind.TheVariants.{P, L, Z}
use Rattle.fields.specs.contracts.kind.Kind as the_kind
use Rattle.entries.specs.declared.entry.Place.{Place}
use Rattle.entries.specs.places.Places.{is_free, is_full}
use Rattle.entries.specs.Report.{same_kind}
use Rattle.entries.specs.comparing.Same.{same_place, same_last}

pub full_as_std : (ps : List Place) → list_all (λ (p : Place). p.taken) ps ≡ is_full ps
unfolding any is_free
full_as_std [] = refl
full_as_std (p ∷ ps) = go p.taken (full_as_std ps)
  where
    go : (t : Bool) → list_all (λ (p : Place). p.taken) ps ≡ is_full ps → (t && list_all (λ (p : Place). p.taken) ps) ≡ not (not t || any is_free ps)
    go true e = e
    go false e = refl

-- ---- the derived comparisons
pub kind_as_std : (j k : Kind) → sameb the_kind.the_type j k ≡ same_kind j k
kind_as_std P P = refl
kind_as_std P L = refl
kind_as_std P Z = refl
kind_as_std L P = refl
kind_as_std L L = refl
kind_as_std L Z = refl
kind_as_std Z P = refl
kind_as_std Z L = refl
kind_as_std Z Z = refl

pub last_as_std : (l m : Option CalendarDays) → option_eq (λ (a b : CalendarDays). eqb a.0 b.0) l m ≡ same_last l m
last_as_std None None = refl
last_as_std None (Some t) = refl
last_as_std (Some d) None = refl
last_as_std (Some d) (Some t) = refl

-- the fields one after the other, however they are bracketed
fields : (a b k d l g y n : Bool) → (beq a b && ((k && (d && (l && g))) && (y && n))) ≡ (((a && b) || (not a && not b)) && k && (d && l && g) && y && n)
fields true true true true true true y n = refl
fields true true true true true false y n = refl
fields true true true true false g y n = refl
fields true true true false l g y n = refl
fields true true false d l g y n = refl
fields true false k d l g y n = refl
fields false true k d l g y n = refl
fields false false true true true true y n = refl
fields false false true true true false y n = refl
fields false false true true false g y n = refl
fields false false true false l g y n = refl
fields false false false d l g y n = refl

pub place_as_std : (p q : Place) → (beq p.taken q.taken && ((sameb the_kind.the_type p.report.kind q.report.kind && (eqb p.report.date.0 q.report.date.0 && (eqb p.report.losing.0 q.report.losing.0 && eqb p.report.gaining.0 q.report.gaining.0))) && (eqb p.day.0 q.day.0 && eqb p.at q.at))) ≡ same_place p q
unfolding same_place
place_as_std p q = rw (kind_as_std p.report.kind q.report.kind) (fields p.taken q.taken (same_kind p.report.kind q.report.kind) (eqb p.report.date.0 q.report.date.0) (eqb p.report.losing.0 q.report.losing.0) (eqb p.report.gaining.0 q.report.gaining.0) (eqb p.day.0 q.day.0) (eqb p.at q.at))

-- three tests one after the other, however they are bracketed
pub three : (a b c d e : Bool) → b ≡ d → c ≡ e → (a && (b && c)) ≡ (a && d && e)
three true b c d e p q = ap₂ ◌&&◌ p q
three false b c d e p q = refl
