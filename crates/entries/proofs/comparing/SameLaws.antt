-- The comparison of entries is equality. Assumes nothing.
--     same-entry-equal, same-entry-refl   two entries are the same exactly if they are equal
use Rattle.calendar.specs.declared.dates.CalendarDays.{CalendarDays}
use Rattle.std.specs.Prelude.{Option, Some, None}
use mathlib.Core.Path.{◌≡◌, refl, ap}
use mathlib.Core.Bool.{true, ◌&&◌}
use borrow.Author.Tests.{eqb-true}
use lib.Dec.{eqb}
use Rattle.laws.specs.Lists.{same_lists}
use Rattle.laws.proofs.Tests.{and_left, and_right, both_true, both_refl, eqb_refl}
use Rattle.laws.proofs.Same.{same-equal, same_refl}
use Rattle.entries.specs.declared.entry.Place.{Place}
use Rattle.entries.specs.declared.entry.Entry.{Entry}
use Rattle.entries.specs.Report.{kind_no, same_kind, same_code, same_day, matches}
use Rattle.entries.proofs.SameLaws.{same_kind_lem, same_code_lem, same-day, matches-equal, matches-refl}
use Rattle.entries.specs.comparing.Same.{same_taken, same_place, same_last, same_entry}

same-place-equal : (p q : Place) → same_place p q ≡ true → p ≡ q
unfolding same_place
same-place-equal p q e =
    let t = same_taken p q in
    let k = same_kind p.report.kind q.report.kind in
    let m = matches p.report q.report in
    let d = same_day p.day q.day in
    let a = eqb p.at q.at in
    let tkmd = and_left (t && k && m && d) a e in
    let tkm = and_left (t && k && m) d tkmd in
    let tk = and_left (t && k) m tkm in
    let c = matches-equal p.report q.report (and_right (t && k) m tkm) in
    let kinds = same_kind_lem p.report.kind q.report.kind (and_right t k tk) in
    let taken = both_true p.taken q.taken (and_left t k tk) in
    let days = same-day p.day q.day (and_right (t && k && m) d tkmd) in
    let ats = eqb-true p.at q.at (and_right (t && k && m && d) a e) in
    λ i. record { taken = taken i; report = record { kind = kinds i; date = c.date i; losing = c.losing i; gaining = c.gaining i }; day = days i; at = ats i }

same-place-refl : (p : Place) → same_place p p ≡ true
unfolding same_place
same-place-refl p = rw (both_refl p.taken, eqb_refl (kind_no p.report.kind), matches-refl p.report, eqb_refl p.day.0, eqb_refl p.at)

same-last-equal : (l m : Option CalendarDays) → same_last l m ≡ true → l ≡ m
same-last-equal None None e = refl
same-last-equal None (Some t) e = cc
same-last-equal (Some d) None e = cc
same-last-equal (Some d) (Some t) e = ap Some (same-day d t e)

same-last-refl : (l : Option CalendarDays) → same_last l l ≡ true
same-last-refl None = refl
same-last-refl (Some d) = eqb_refl d.0

pub same-entry-equal : (e f : Entry) → same_entry e f ≡ true → e ≡ f
unfolding same_entry
same-entry-equal e f h =
    let a = same_code e.holder f.holder in
    let b = same_last e.last f.last in
    let c = same_lists same_place e.places f.places in
    let ab = and_left (a && b) c h in
    let holders = same_code_lem e.holder f.holder (and_left a b ab) in
    let lasts = same-last-equal e.last f.last (and_right a b ab) in
    let places = same-equal same_place same-place-equal e.places f.places (and_right (a && b) c h) in
    λ i. record { holder = holders i; last = lasts i; places = places i }

pub same-entry-refl : (e : Entry) → same_entry e e ≡ true
unfolding same_entry
same-entry-refl e = rw (eqb_refl e.holder.0, same-last-refl e.last, same_refl same_place same-place-refl e.places)
