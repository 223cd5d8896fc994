-- Laws of the places. Assumes nothing.
--     apart-kept          no two open reports are equal: so it stays where one that is not open is kept,
--     apart-thinned       and where some lapse (`Thinned`),
--     thinned-set, thinned-map    which the place of a correction's report and a confirmation do
--     apart-at            what it says of any two places
--     found               what stands in the place of an open report
use mathlib.Core.Path.{◌≡◌, refl, ◌∙◌}
use mathlib.Core.Bool.{Bool, true, false, cond, not, ◌&&◌}
use mathlib.Core.List.{List, [], ◌∷◌, map}
use Prim.Native.Nat.{ℕ, zero, suc, ◌<◌}
use native.Mathlib.Omega.{arith}
use lib.Dec.{leb}
use lib.ListN.{length, get_or, set}
use Rattle.laws.specs.Lists.{any}
use Rattle.laws.proofs.Tests.{and_left, and_right, and-true, or_left, or_right, not_yes, eqb_comm}
use Rattle.laws.proofs.Firsts.{first_passes, none-at, none-set}
use Rattle.calendar.specs.declared.dates.CalendarDays.{CalendarDays}
use Rattle.fields.specs.declared.kind.Kind.{Kind}
use Rattle.entries.specs.declared.report.Report.{Report}
use Rattle.entries.specs.declared.entry.Place.{Place}
use Rattle.entries.specs.Report.{kind_no, same_kind, matches}
use Rattle.entries.specs.Entry.{free_place}
use Rattle.entries.specs.places.Places.{holds_open, is_free, is_open, place_of, lowest_free, kept_in, lapsed, no_two_equal}
use Rattle.entries.proofs.SameLaws.{same_kind_lem}

-- ---- some places are freed, the others are as they were
pub data Thinned : List Place → List Place → Type 0 where
  none : Thinned [] []
  same : {p : Place} {ps qs : List Place} → Thinned ps qs → Thinned (p ∷ ps) (p ∷ qs)
  gone : {p : Place} {ps qs : List Place} → Thinned ps qs → Thinned (p ∷ ps) (free_place ∷ qs)

all_same : (ps : List Place) → Thinned ps ps
all_same [] = none
all_same (p ∷ ps) = same (all_same ps)

pub thinned-set : (ps : List Place) (i : ℕ) → Thinned ps (set ps i free_place)
thinned-set [] i = none
thinned-set (p ∷ ps) zero = gone (all_same ps)
thinned-set (p ∷ ps) (suc i) = same (thinned-set ps i)

pub thinned-map : (d : CalendarDays) (ps : List Place) → Thinned ps (map (lapsed d) ps)
unfolding lapsed
thinned-map d [] = none
thinned-map d (p ∷ ps) = go (leb p.report.date.0 d.0) (thinned-map d ps)
  where
    go : (t : Bool) → Thinned ps (map (lapsed d) ps) → Thinned (p ∷ ps) (cond t free_place p ∷ map (lapsed d) ps)
    go true ih = gone ih
    go false ih = same ih

none-thinned : {ps qs : List Place} (k : Kind) (r : Report) → Thinned ps qs → any (holds_open k r) ps ≡ false → any (holds_open k r) qs ≡ false
unfolding any holds_open
none-thinned k r none e = e
none-thinned k r (same {p} {ps} t) e = rw (or_left (holds_open k r p) (any (holds_open k r) ps) e) (none-thinned k r t (or_right (holds_open k r p) (any (holds_open k r) ps) e))
none-thinned k r (gone {p} {ps} t) e = none-thinned k r t (or_right (holds_open k r p) (any (holds_open k r) ps) e)

-- the first place against the others: it is free, or no other holds its report
abbrev alone : Place → List Place → Bool
alone p ps = not (p.taken && is_open p.report.kind p.report ps)

alone-no : (p : Place) (ps : List Place) → alone p ps ≡ true → p.taken ≡ true → is_open p.report.kind p.report ps ≡ false
alone-no p ps e t = not_yes (is_open p.report.kind p.report ps) (rw t at e)

alone-so : (p : Place) (ps : List Place) → (p.taken ≡ true → is_open p.report.kind p.report ps ≡ false) → alone p ps ≡ true
alone-so p ps h = go p.taken h
  where
    go : (t : Bool) → (t ≡ true → is_open p.report.kind p.report ps ≡ false) → not (t && is_open p.report.kind p.report ps) ≡ true
    go true h = rw (h refl)
    go false h = refl

pub apart-thinned : {ps qs : List Place} → Thinned ps qs → no_two_equal ps ≡ true → no_two_equal qs ≡ true
unfolding no_two_equal
apart-thinned none e = e
apart-thinned (same {p} {ps} {qs} t) e =
    and-true (alone p qs) (no_two_equal qs)
    (alone-so p qs (λ k. none-thinned p.report.kind p.report t (alone-no p ps (and_left (alone p ps) (no_two_equal ps) e) k)))
    (apart-thinned t (and_right (alone p ps) (no_two_equal ps) e))
apart-thinned (gone {p} {ps} t) e = apart-thinned t (and_right (alone p ps) (no_two_equal ps) e)

-- ---- a report that is not open is kept
holds-swap : (p q : Place) → p.taken ≡ true → q.taken ≡ true → holds_open p.report.kind p.report q ≡ holds_open q.report.kind q.report p
unfolding holds_open
holds-swap p q s t =
    rw (
      s,
      t,
      eqb_comm (kind_no q.report.kind) (kind_no p.report.kind),
      eqb_comm q.report.date.0 p.report.date.0,
      eqb_comm q.report.losing.0 p.report.losing.0,
      eqb_comm q.report.gaining.0 p.report.gaining.0,
    )

pub apart-kept : (ps : List Place) (q : Place) → q.taken ≡ true → is_open q.report.kind q.report ps ≡ false → no_two_equal ps ≡ true → no_two_equal (kept_in ps q) ≡ true
unfolding no_two_equal any is_free
apart-kept [] q t n e = e
apart-kept (p ∷ ps) q t n e = go p.taken refl (apart-kept ps q t (or_right here (any (holds_open q.report.kind q.report) ps) n) (and_right (alone p ps) (no_two_equal ps) e))
  where
    here : Bool
    here = holds_open q.report.kind q.report p

    go : (b : Bool) → p.taken ≡ b → no_two_equal (kept_in ps q) ≡ true → no_two_equal (set (p ∷ ps) (cond (not b) 0 (suc (lowest_free ps))) q) ≡ true
    go true s ih =
        and-true (alone p (kept_in ps q)) (no_two_equal (kept_in ps q))
        (alone-so p (kept_in ps q)
        (λ k. none-set (holds_open p.report.kind p.report) ps (lowest_free ps) q (alone-no p ps (and_left (alone p ps) (no_two_equal ps) e) k)
        (holds-swap p q s t ∙ or_left here (any (holds_open q.report.kind q.report) ps) n)))
        ih
    go false s ih =
        and-true (alone q ps) (no_two_equal ps) (alone-so q ps (λ k. or_right here (any (holds_open q.report.kind q.report) ps) n))
        (and_right (alone p ps) (no_two_equal ps) e)

pub apart-at : (ps : List Place) (i j : ℕ) → i < j → j < length ps → no_two_equal ps ≡ true → (get_or ps i free_place).taken ≡ true → holds_open (get_or ps i free_place).report.kind (get_or ps i free_place).report (get_or ps j free_place) ≡ false
unfolding no_two_equal
apart-at [] i j h k e t = absurd (omega arith)
apart-at (p ∷ ps) i zero h k e t = absurd (omega arith)
apart-at (p ∷ ps) zero (suc j) h k e t = none-at (holds_open p.report.kind p.report) ps j free_place (omega arith) (alone-no p ps (and_left (alone p ps) (no_two_equal ps) e) t)
apart-at (p ∷ ps) (suc i) (suc j) h k e t = apart-at ps i j (omega arith) (omega arith) (and_right (alone p ps) (no_two_equal ps) e) t

-- ---- an open report
-- what stands in the place of an open report of the kind k that matches r
pub found : (k : Kind) (r : Report) (ps : List Place) → is_open k r ps ≡ true → ((get_or ps (place_of k r ps) free_place).report.kind ≡ k) × (matches (get_or ps (place_of k r ps) free_place).report r ≡ true)
unfolding holds_open
found k r ps e =
    let q : Place = get_or ps (place_of k r ps) free_place in
    let h : holds_open k r q ≡ true = first_passes (holds_open k r) ps free_place e in (
      same_kind_lem q.report.kind k (and_right q.taken (same_kind q.report.kind k) (and_left (q.taken && same_kind q.report.kind k) (matches q.report r) h)),
      and_right (q.taken && same_kind q.report.kind k) (matches q.report r) h,
    )
