-- The date of a day is the one whose day it is: each day of the calendar has that one date, and no other day has any.
-- Assumes nothing.
use Rattle.std.specs.Prelude.{Option, Some, None}
use mathlib.Core.Path.{◌≡◌, refl, sym, ◌∙◌, ap, subst}
use mathlib.Core.Bool.{Bool, true, false, cond}
use Prim.Native.Nat.{ℕ, ◌+◌, ◌-◌, ◌≤◌, ◌<◌}
use native.Mathlib.Omega.{arith}
use lib.Dec.{leb}
use borrow.Author.Tests.{leb-true, leb-false, le-leb}
use Rattle.laws.proofs.Sums.{sum_to-place}
use Rattle.laws.proofs.Tests.{and_left, and_right}
use Rattle.calendar.specs.Dates.{last_day, year_days, month_days, year_start, month_start, day_number, valid, year_of, month_of}
use Rattle.calendar.specs.Answers.{day_of, date_in, date_of}
use Rattle.calendar.specs.Meaning.{IsDated}
use Rattle.calendar.specs.declared.dates.CalendarDays.{CalendarDays}
use Rattle.calendar.specs.declared.dates.Date.{Date}
use Rattle.calendar.proofs.DateLaws.{month-real, year_start-next, year_start-mono, year_start-end, month_start-next, month_start-mono, month_start-end, year-at, month-at}

-- ---- what makes a date
pub record Valid (y m d : ℕ) : Type 0 where
  pub from : 1998 ≤ y
  pub to : y ≤ 2049
  pub one : 1 ≤ d
  pub most : d ≤ month_days y m

pub valid-there : (y m d : ℕ) → Valid y m d → valid y m d ≡ true
unfolding valid
valid-there y m d v = simp (le-leb _ _ v.from, le-leb _ _ v.to, le-leb _ _ v.one, le-leb _ _ v.most)

pub valid-parts : (y m d : ℕ) → valid y m d ≡ true → Valid y m d
unfolding valid
valid-parts y m d e =
    let a = and_right (leb 1998 y) _ e in
    let b = and_right (leb y 2049) _ a in
    let c = and_right (leb 1 d) _ b in
    record { from = leb-true _ _ (and_left (leb 1998 y) _ e); to = leb-true _ _ (and_left (leb y 2049) _ a); one = leb-true _ _ (and_left (leb 1 d) _ b); most = leb-true _ _ c }

-- what a day that was found says
found-parts : (v : Bool) (k n : ℕ) → cond {A = Option CalendarDays} v (Some (record { 0 = k })) None ≡ Some (record { 0 = n }) → (v ≡ true) × (k ≡ n)
found-parts true k n e =
    let f : ◌≡◌ {A = CalendarDays} (record { 0 = k }) (record { 0 = n }) = cc in
    (refl, ap (λ (r : CalendarDays). r.0) f)
found-parts false k n e = let z : ◌≡◌ {A = ℕ} 0 1 = cc in absurd (omega arith)

dated-parts : (x : Date) (n : ℕ) → day_of x ≡ Some (record { 0 = n }) → Valid x.year x.month x.day × (day_number x.year x.month x.day ≡ n)
unfolding day_of
dated-parts x n e =
    let p = found-parts (valid x.year x.month x.day) (day_number x.year x.month x.day) n e in
    (valid-parts x.year x.month x.day p.0, p.1)

-- ---- the day of a date lies in its year, and so in the calendar
in-year : (y m d : ℕ) → Valid y m d → month_start y m + (d - 1) < year_days y
in-year y m d v =
    let h : m < 13 = month-real y m (omega arith) in
    omega (arith, month_start-mono y (m + 1) 13 (omega arith), month_start-next y m, month_start-end y)

pub day_number-inside : (y m d : ℕ) → Valid y m d → day_number y m d ≤ last_day
unfolding day_number
day_number-inside y m d v =
    omega (arith, in-year y m d v, year_start-next y v.from v.to, year_start-end, year_start-mono (y + 1) 2050 (omega arith))

-- ---- two dates with one day number are one date
not_earlier : (y m d z n e : ℕ) → Valid y m d → Valid z n e → day_number y m d ≡ day_number z n e → y < z → ⊥
unfolding day_number
not_earlier y m d z n e v w h l = omega (arith, year_start-mono (y + 1) z (omega arith), year_start-next y v.from v.to, in-year y m d v)

same-year : (y m d z n e : ℕ) → Valid y m d → Valid z n e → day_number y m d ≡ day_number z n e → y ≡ z
same-year y m d z n e v w h =
    let l : y < z → ⊥ = not_earlier y m d z n e v w h in
    let k : z < y → ⊥ = not_earlier z n e y m d w v (sym h) in
    omega arith

same-month : (y m d n e : ℕ) → Valid y m d → Valid y n e → day_number y m d ≡ day_number y n e → m ≡ n
unfolding day_number month_start
same-month y m d n e v w h = sum_to-place (month_days y) m n (d - 1) (e - 1) (omega arith) (omega arith) (omega arith)

one-date : (y m d z n e : ℕ) → Valid y m d → Valid z n e → day_number y m d ≡ day_number z n e → (y ≡ z) × (m ≡ n) × (d ≡ e)
unfolding day_number
one-date y m d z n e v w h =
    let f : y ≡ z = same-year y m d z n e v w h in
    let g : m ≡ n = same-month y m d n e v (rw f w) (h ∙ ap (λ (k : ℕ). day_number k n e) (sym f)) in
    (f, g, omega (arith, ap year_start f, ap (month_start y) g, ap (λ (k : ℕ). month_start k n) f))

-- a day has one date, or none
pub dated-one : (n : ℕ) (a b : Option Date) → IsDated n a → IsDated n b → a ≡ b
dated-one n (Some x) (Some y) p q =
    let v = dated-parts x n p in
    let w = dated-parts y n q in
    let e = one-date x.year x.month x.day y.year y.month y.day v.0 w.0 (v.1 ∙ sym w.1) in
    λ i. Some (record { year = e.0 i; month = e.1 i; day = e.2 i })
dated-one n (Some x) None p q =
    let v = dated-parts x n p in
    absurd (omega (arith, day_number-inside x.year x.month x.day v.0))
dated-one n None (Some y) p q =
    let v = dated-parts y n q in
    absurd (omega (arith, day_number-inside y.year y.month y.day v.0))
dated-one n None None p q = refl

-- ---- the definition has this meaning
in-month : (y n : ℕ) → 1998 ≤ y → y ≤ 2049 → n < year_days y → day_of (date_in y n) ≡ Some (record { 0 = year_start y + n })
unfolding day_of date_in day_number
in-month y n a b h =
    let at = month-at y n h in
    let d : ℕ = n - month_start y (month_of y n) + 1 in
    let v : Valid y (month_of y n) d = record { from = a; to = b; one = omega arith; most = omega arith } in
    let e : year_start y + month_start y (month_of y n) + (d - 1) ≡ year_start y + n = omega arith in
    rw (valid-there y (month_of y n) d v) (ap (λ (z : ℕ). Some (record { 0 = z })) e)

pub dated : (n : ℕ) → IsDated n (date_of n)
unfolding date_of
dated n = go (leb n last_day) refl
  where
    go : (t : Bool) → leb n last_day ≡ t → IsDated n (cond t (Some (date_in (year_of n) (n - year_start (year_of n)))) None)
    go true e =
        let at = year-at n (leb-true n last_day e) in
        let s : year_start (year_of n) + (n - year_start (year_of n)) ≡ n = omega arith in
        in-month (year_of n) (n - year_start (year_of n)) at.first at.last (omega arith) ∙ ap (λ (z : ℕ). Some (record { 0 = z })) s
    go false e = leb-false n last_day e

-- from a date to its day and back; from a day to its date and back
pub date-back : (x : Date) (n : ℕ) → day_of x ≡ Some (record { 0 = n }) → date_of n ≡ Some x
date-back x n e = dated-one n (date_of n) (Some x) (dated n) e

pub day-back : (n : ℕ) (x : Date) → date_of n ≡ Some x → day_of x ≡ Some (record { 0 = n })
day-back n x e = subst (IsDated n) e (dated n)

-- a day that was found lies in the calendar
pub found_inside : (x : Date) (n : ℕ) → day_of x ≡ Some (record { 0 = n }) → n ≤ last_day
found_inside x n e =
    let v = dated-parts x n e in
    omega (arith, day_number-inside x.year x.month x.day v.0)
