-- The date: reading and writing undo each other. Assumes nothing.
use Rattle.std.specs.Prelude.{Option, Some, None}
use Prim.Native.Nat.{ℕ, ◌+◌, ◌-◌, ◌*◌, ◌/◌, ◌%◌, ◌^◌, ◌<◌, ◌≤◌}
use native.Mathlib.Omega.{arith}
use mathlib.Core.Path.{◌≡◌, refl, ap, ◌∙◌}
use mathlib.Core.Bool.{Bool, true, false, cond}
use mathlib.Core.List.{List}
use lib.Dec.{eqb, leb}
use lib.ListN.{length}
use borrow.Author.Tests.{eqb-true, leb-true}
use Rattle.laws.specs.Digits.{digits}
use mathlib.Core.Logic.{⊎_elim}
use Rattle.laws.proofs.Tests.{and_left, and_right, le-or-lt}
use Rattle.laws.proofs.Digits.{length_digits}
use Rattle.text.specs.Spelt.{digits_of}
use Rattle.text.proofs.Spelling.{fixed-trip, fixed_back}
use Rattle.calendar.specs.declared.dates.CalendarDays.{CalendarDays}
use Rattle.calendar.specs.declared.dates.Date.{Date}
use Rattle.calendar.specs.Dates.{in_calendar, valid, month_days, day_number, year_of, year_start}
use Rattle.calendar.specs.Answers.{day_of, date_in, date_of}
use Rattle.calendar.proofs.DateLaws.{month_days-none, month_days-le}
use Rattle.calendar.proofs.Dating.{date-back, day-back}
use Rattle.fields.specs.Date.{date_spelt, date_found, date_from, date_field_of, date_fits, spelling, date_text, maybe_date_of, maybe_date_fits, maybe_date_text}
use Rattle.fields.specs.Field.{Trips, IsFixed}
use Rattle.fields.proofs.ByteLaws.{bytes-date}
use Rattle.fields.proofs.FieldLaws.{maybe_trips}

-- ---- a date of the calendar has two digits for the day, two for the month and four for the year
valid-small : (y m d : ℕ) → valid y m d ≡ true → (y < 10000) × (m < 100) × (d < 100)
unfolding valid
valid-small y m d e =
    let a = and_right (leb 1998 y) _ e in
    let b = and_right (leb y 2049) _ a in
    let low = leb-true 1 d (and_left (leb 1 d) _ b) in
    let most = leb-true d (month_days y m) (and_right (leb 1 d) _ b) in
    let to = leb-true y 2049 (and_left (leb y 2049) _ a) in
    let real : m < 100 = ⊎_elim (λ (h : 100 ≤ m). absurd (omega (arith, month_days-none y m (omega arith)))) (λ (h : m < 100). h) (le-or-lt 100 m) in
    (omega arith, real, omega (arith, month_days-le y m))

small : (x : Date) (d : CalendarDays) → day_of x ≡ Some d → (x.year < 10000) × (x.month < 100) × (x.day < 100)
unfolding day_of
small x d e = go (valid x.year x.month x.day) refl e
  where
    go : (t : Bool) → valid x.year x.month x.day ≡ t → cond t (Some (record { 0 = day_number x.year x.month x.day })) None ≡ Some d → (x.year < 10000) × (x.month < 100) × (x.day < 100)
    go true p q = valid-small x.year x.month x.day p
    go false p q = absurd (let z : ◌≡◌ {A = ℕ} 0 1 = cc in omega arith)

-- ddmmyyyy of a date names it
spelt-date : (x : Date) → (x.year < 10000) × (x.month < 100) × (x.day < 100) → (date_spelt (spelling (Some x)) ≡ x) × (spelling (Some x) < 10 ^ 8)
unfolding spelling
spelt-date x h =
    let n : ℕ = x.day * 1000000 + x.month * 10000 + x.year in
    let y : n % 10000 ≡ x.year = omega (arith, h.0, h.1, h.2) in
    let q : n / 10000 ≡ x.day * 100 + x.month = omega (arith, h.0, h.1, h.2) in
    let m : n / 10000 % 100 ≡ x.month = ap (λ (z : ℕ). z % 100) q ∙ omega (arith, h.1) in
    let d : n / 1000000 ≡ x.day = omega (arith, h.0, h.1, h.2) in
    (λ k. record { year = y k; month = m k; day = d k }, omega (arith, h.0, h.1, h.2))

spelling-back : (n : ℕ) → spelling (Some (date_spelt n)) ≡ n
unfolding spelling
spelling-back n = omega arith

-- which days have a date
dated-inside : (n : ℕ) (x : Date) → date_of n ≡ Some x → in_calendar n ≡ true
unfolding date_of
dated-inside n x e = go (in_calendar n) refl e
  where
    go : (t : Bool) → in_calendar n ≡ t → cond t (Some (date_in (year_of n) (n - year_start (year_of n)))) None ≡ Some x → in_calendar n ≡ true
    go true p q = p
    go false p q = absurd (let z : ◌≡◌ {A = ℕ} 0 1 = cc in omega arith)

inside-dated : (n : ℕ) → in_calendar n ≡ true → (x : Date) × (date_of n ≡ Some x)
unfolding date_of
inside-dated n h = (date_in (year_of n) (n - year_start (year_of n)), rw h)

-- what was written is read back
pub date-trip : (d : CalendarDays) → date_fits d ≡ true → date_field_of (date_text d) ≡ Some d
unfolding date_field_of date_from date_found
date-trip d h =
    let at = inside-dated d.0 h in
    let x = at.0 in
    let day : day_of x ≡ Some d = day-back d.0 x at.1 in
    let s = spelt-date x (small x d day) in
    ap (λ (y : Option Date). date_field_of (digits 8 (spelling y))) at.1
    ∙ rw (length_digits, fixed-trip 8 (spelling (Some x)) (omega arith) s.1) (ap date_found (ap day_of s.0 ∙ day))

-- what was read is written again
pub date-field-back : (f : List ℕ) (d : CalendarDays) → date_field_of f ≡ Some d → (date_text d ≡ f) × (date_fits d ≡ true)
unfolding date_field_of date_from date_found
date-field-back f d h = go (eqb (length f) 8) refl (digits_of false f) refl h
  where
    found : (n : ℕ) (r : Option CalendarDays) → day_of (date_spelt n) ≡ r → date_found r ≡ Some d → day_of (date_spelt n) ≡ Some d
    found n (Some e) p q = let w : e ≡ d = cc in p ∙ ap Some w
    found n None p q = absurd (let z : ◌≡◌ {A = ℕ} 0 1 = cc in omega arith)

    go : (t : Bool) → eqb (length f) 8 ≡ t → (v : Option ℕ) → digits_of false f ≡ v → cond t (date_from v) None ≡ Some d → (date_text d ≡ f) × (date_fits d ≡ true)
    go true p (Some n) q e =
        let w = fixed_back 8 f n (eqb-true (length f) 8 p) q in
        let at = date-back (date_spelt n) d.0 (found n (day_of (date_spelt n)) refl e) in
        (ap (λ (y : Option Date). digits 8 (spelling y)) at ∙ ap (digits 8) (spelling-back n) ∙ w.0, dated-inside d.0 (date_spelt n) at)
    go true p None q e = absurd (let z : ◌≡◌ {A = ℕ} 0 1 = cc in omega arith)
    go false p v q e = absurd (let z : ◌≡◌ {A = ℕ} 0 1 = cc in omega arith)

-- ---- a field that may be empty
pub length-date : (d : CalendarDays) → length (date_text d) ≡ 8
length-date d = length_digits 8 (spelling (date_of d.0))

pub dates : Trips date_field_of date_fits date_text
dates = record { trip = date-trip; back = date-field-back }

pub date-fixed : IsFixed 8 date_text
date-fixed = record { some = omega arith; size = length-date; bytes = bytes-date }

pub maybe-date-trip : (d : Option CalendarDays) → maybe_date_fits d ≡ true → maybe_date_of (maybe_date_text d) ≡ Some d
maybe-date-trip = (maybe_trips dates date-fixed).trip

pub maybe-date-back : (f : List ℕ) (d : Option CalendarDays) → maybe_date_of f ≡ Some d → (maybe_date_text d ≡ f) × (maybe_date_fits d ≡ true)
maybe-date-back = (maybe_trips dates date-fixed).back
