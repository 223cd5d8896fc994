-- Names read back, and written back. Assumes nothing.
--     name-read        the name of a kind and a day of the calendar tells that kind and that day
--     name-written     the kind and the day that a name tells have that name
--     name-one         so two different names never tell the same
use Rattle.std.specs.Prelude.{Option, Some, None}
use Prim.Native.Nat.{ℕ, ◌+◌, ◌-◌, ◌*◌, ◌/◌, ◌%◌, ◌^◌, ◌<◌, ◌≤◌}
use native.Mathlib.Omega.{arith}
use mathlib.Core.Path.{◌≡◌, refl, sym, ap, ap₂, ◌∙◌}
use mathlib.Core.Logic.{⊎_elim}
use mathlib.Core.Bool.{Bool, true, false, cond}
use mathlib.Core.List.{List, ◌∷◌, ◌++◌}
use lib.Dec.{leb, ltb, eqb}
use lib.ListN.{length, get_or, take, drop, length-drop, take-append-drop}
use lib.Seq.{take_at, drop_at, drop-drop, drop-cons, length-take-le}
use borrow.Author.Tests.{leb-true, le-leb, lt-ltb, le-ltb, ltb-true, eqb-true}
use Rattle.laws.specs.Lists.{same_lists}
use Rattle.laws.specs.Digits.{digits}
use Rattle.laws.proofs.Tests.{and_left, and_right, le-or-lt}
use Rattle.laws.proofs.Same.{numbers-refl}
use Rattle.laws.proofs.Digits.{length_digits, all_digits_lem, width-trip, width_back}
use Rattle.text.specs.Spelt.{digits_of}
use Rattle.text.proofs.Spelling.{value_of, value-inv}
use Rattle.calendar.specs.Dates.{in_calendar, valid, month_days, day_number, year_of, year_start}
use Rattle.calendar.specs.Answers.{day_of, date_of, date_in, full_year}
use Rattle.calendar.specs.declared.dates.CalendarDays.{CalendarDays}
use Rattle.calendar.specs.declared.dates.Date.{Date}
use Rattle.calendar.proofs.DateLaws.{month_days-none, month_days-le}
use Rattle.calendar.proofs.Dating.{date-back, day-back}
use Rattle.records.specs.declared.names.kind.FileKind.{FileKind}
use Rattle.records.specs.declared.names.kind.FileKind.TheVariants.{Default, Correction, Request, Response}
use Rattle.records.specs.declared.names.name.Name.{Name}
use Rattle.records.specs.names.Kind.{letter_of, kind_of}
use Rattle.records.specs.names.Name.{ending, framed, on_kind, on_digits, on_day, day_in, day_of_six, name_of, six_of, spelling, name_at, name_text}
use Rattle.records.proofs.names.NameLaws.{framed-first, framed-ending, framed-length}

-- ---- the letter
letter-read : (k : FileKind) → kind_of (letter_of k) ≡ Some k
unfolding kind_of
letter-read Default = refl
letter-read Correction = refl
letter-read Request = refl
letter-read Response = refl

letter-written : (b : ℕ) (k : FileKind) → kind_of b ≡ Some k → letter_of k ≡ b
unfolding kind_of
letter-written b k e = go (eqb b 68) refl (eqb b 75) refl (eqb b 81) refl (eqb b 82) refl e
  where
    go : (s : Bool) → eqb b 68 ≡ s → (t : Bool) → eqb b 75 ≡ t → (u : Bool) → eqb b 81 ≡ u → (v : Bool) → eqb b 82 ≡ v
        → cond s (Some Default) (cond t (Some Correction) (cond u (Some Request) (cond v (Some Response) None))) ≡ Some k → letter_of k ≡ b
    go true p t q u r v w e = let i : Default ≡ k = cc in ap letter_of (sym i) ∙ sym (eqb-true b 68 p)
    go false p true q u r v w e = let i : Correction ≡ k = cc in ap letter_of (sym i) ∙ sym (eqb-true b 75 q)
    go false p false q true r v w e = let i : Request ≡ k = cc in ap letter_of (sym i) ∙ sym (eqb-true b 81 r)
    go false p false q false r true w e = let i : Response ≡ k = cc in ap letter_of (sym i) ∙ sym (eqb-true b 82 w)
    go false p false q false r false w e = absurd (let z : ◌≡◌ {A = ℕ} 0 1 = cc in omega arith)

-- ---- a date in six digits
record Small (x : Date) : Type 0 where
  pub from : 1998 ≤ x.year
  pub to : x.year ≤ 2049
  pub month : x.month < 100
  pub day : x.day < 100

day-valid : (x : Date) (d : CalendarDays) → day_of x ≡ Some d → valid x.year x.month x.day ≡ true
unfolding day_of
day-valid x d e = go (valid x.year x.month x.day) e
  where
    go : (t : Bool) → cond t (Some (record { 0 = day_number x.year x.month x.day })) None ≡ Some d → t ≡ true
    go true e = refl
    go false e = absurd (let z : ◌≡◌ {A = ℕ} 0 1 = cc in omega arith)

small : (x : Date) (d : CalendarDays) → day_of x ≡ Some d → Small x
unfolding valid
small x d e =
    let v = day-valid x d e in
    let a = and_right (leb 1998 x.year) _ v in
    let b = and_right (leb x.year 2049) _ a in
    let from : 1998 ≤ x.year = leb-true _ _ (and_left (leb 1998 x.year) _ v) in
    let to : x.year ≤ 2049 = leb-true _ _ (and_left (leb x.year 2049) _ a) in
    let one : 1 ≤ x.day = leb-true _ _ (and_left (leb 1 x.day) _ b) in
    let most : x.day ≤ month_days x.year x.month = leb-true _ _ (and_right (leb 1 x.day) _ b) in
    record {
      from = from;
      to = to;
      month = ⊎_elim (λ (h : 13 ≤ x.month). absurd (omega (arith, month_days-none x.year x.month h))) (λ (h : x.month < 13). omega arith) (le-or-lt 13 x.month);
      day = omega (arith, month_days-le x.year x.month);
    }

year-read : (y : ℕ) → 1998 ≤ y → y ≤ 2049 → full_year (y % 100) ≡ Some y
unfolding full_year
year-read y a b = ⊎_elim new old (le-or-lt 2000 y)
  where
    new : 2000 ≤ y → cond (ltb (y % 100) 50) (Some (2000 + y % 100)) (cond (ltb (y % 100) 98) None (cond (leb (y % 100) 99) (Some (1900 + y % 100)) None)) ≡ Some y
    new h =
        let e : 2000 + y % 100 ≡ y = omega arith in
        rw (lt-ltb (y % 100) 50 (omega arith), e)

    old : y < 2000 → cond (ltb (y % 100) 50) (Some (2000 + y % 100)) (cond (ltb (y % 100) 98) None (cond (leb (y % 100) 99) (Some (1900 + y % 100)) None)) ≡ Some y
    old h =
        let e : 1900 + y % 100 ≡ y = omega arith in
        rw (le-ltb (y % 100) 50 (omega arith), le-ltb (y % 100) 98 (omega arith), le-leb (y % 100) 99 (omega arith), e)

-- two digits that tell a year are its last two
year-written : (t y : ℕ) → full_year t ≡ Some y → (y % 100 ≡ t) × (t < 100)
unfolding full_year
year-written t y e = go (ltb t 50) refl (ltb t 98) (leb t 99) refl e
  where
    go : (a : Bool) → ltb t 50 ≡ a → (b c : Bool) → leb t 99 ≡ c → cond a (Some (2000 + t)) (cond b None (cond c (Some (1900 + t)) None)) ≡ Some y → (y % 100 ≡ t) × (t < 100)
    go true p b c q e = let i : 2000 + t ≡ y = cc in (omega (arith, ltb-true t 50 p), omega (arith, ltb-true t 50 p))
    go false p true c q e = absurd (let z : ◌≡◌ {A = ℕ} 0 1 = cc in omega arith)
    go false p false true q e = let i : 1900 + t ≡ y = cc in (omega (arith, leb-true t 99 q), omega (arith, leb-true t 99 q))
    go false p false false q e = absurd (let z : ◌≡◌ {A = ℕ} 0 1 = cc in omega arith)

six-below : (x : Date) → Small x → six_of x < 10 ^ 6
unfolding six_of
six-below x s = omega arith

six-read : (x : Date) (d : CalendarDays) → day_of x ≡ Some d → day_of_six (six_of x) ≡ Some d
unfolding day_of_six six_of
six-read x d e =
    let s = small x d e in
    let n : ℕ = x.year % 100 * 10000 + x.month * 100 + x.day in
    let y : n / 10000 ≡ x.year % 100 = omega arith in
    let m : n / 100 % 100 ≡ x.month = omega arith in
    let t : n % 100 ≡ x.day = omega arith in
    rw (y, year-read x.year s.from s.to, m, t) e

-- the date that six digits tell has these six digits
six-written : (n : ℕ) (d : CalendarDays) → day_of_six n ≡ Some d → (x : Date) × (day_of x ≡ Some d) × (six_of x ≡ n)
unfolding day_of_six six_of
six-written n d e = go (full_year (n / 10000)) refl e
  where
    go : (f : Option ℕ) → full_year (n / 10000) ≡ f → day_in f n ≡ Some d → (x : Date) × (day_of x ≡ Some d) × (x.year % 100 * 10000 + x.month * 100 + x.day ≡ n)
    go (Some y) p e =
        let w = year-written (n / 10000) y p in
        (record { year = y; month = n / 100 % 100; day = n % 100 }, e, omega (arith, w.0, w.1))
    go None p e = absurd (let z : ◌≡◌ {A = ℕ} 0 1 = cc in omega arith)

-- ---- a day of the calendar has a date
dated-inside : (n : ℕ) → in_calendar n ≡ true → date_of n ≡ None → ⊥
unfolding date_of
dated-inside n h e =
    let f : cond (in_calendar n) (Some (date_in (year_of n) (n - year_start (year_of n)))) None ≡ None = e in
    let z : ◌≡◌ {A = ℕ} 0 1 = cc in
    omega arith

-- ---- the name
module _ (letter n : ℕ) where
  spelling-framed : framed (spelling letter n) ≡ true
  unfolding framed spelling same_lists
  spelling-framed = rw (drop_at (digits 6 n) ending 6 (length_digits 6 n)) (numbers-refl ending)

  spelling-digits : take 6 (drop 2 (spelling letter n)) ≡ digits 6 n
  unfolding spelling
  spelling-digits = take_at (digits 6 n) ending 6 (length_digits 6 n)

  spelling-letter : get_or (spelling letter n) 1 0 ≡ letter
  unfolding spelling
  spelling-letter = refl

  spelling-value : n < 10 ^ 6 → digits_of false (take 6 (drop 2 (spelling letter n))) ≡ Some n
  spelling-value h =
      ap (digits_of false) spelling-digits
      ∙ value_of false (digits 6 n) (omega (arith, length_digits 6 n)) (all_digits_lem 6 n)
      ∙ ap Some (width-trip 6 n h)

read-spelling : (m : Name) (x : Date) → day_of x ≡ Some m.day → name_of (spelling (letter_of m.kind) (six_of x)) ≡ Some m
unfolding name_of
read-spelling m x e =
    let l : ℕ = letter_of m.kind in
    let n : ℕ = six_of x in
    rw
    (spelling-framed l n, spelling-letter l n, letter-read m.kind, spelling-value l n (six-below x (small x m.day e)), six-read x m.day e)

pub name-read : (m : Name) → in_calendar m.day.0 ≡ true → name_of (name_text m) ≡ Some m
unfolding name_text
name-read m h = go (date_of m.day.0) refl
  where
    go : (t : Option Date) → date_of m.day.0 ≡ t → name_of (name_at m.kind t) ≡ Some m
    go (Some x) e = read-spelling m x (day-back m.day.0 x e)
    go None e = absurd (dated-inside m.day.0 h e)

-- what a name that was read is made of
record Read (s : List ℕ) (m : Name) : Type 0 where
  pub frame : framed s ≡ true
  pub letter : kind_of (get_or s 1 0) ≡ Some m.kind
  pub number : ℕ
  pub spelt : digits_of false (take 6 (drop 2 s)) ≡ Some number
  pub day : day_of_six number ≡ Some m.day

read-parts : (s : List ℕ) (m : Name) → name_of s ≡ Some m → Read s m
unfolding name_of
read-parts s m e = go (framed s) refl (kind_of (get_or s 1 0)) refl (digits_of false (take 6 (drop 2 s))) refl e
  where
    last : (k : FileKind) (n : ℕ) (f : Option CalendarDays) → framed s ≡ true → kind_of (get_or s 1 0) ≡ Some k → digits_of false (take 6 (drop 2 s)) ≡ Some n → day_of_six n ≡ f
        → on_day f (λ d. Some (record { kind = k; day = d })) ≡ Some m → Read s m
    last k n (Some d) a b c p e =
        let i : ◌≡◌ {A = Name} (record { kind = k; day = d }) m = cc in
        record { frame = a; letter = b ∙ ap (λ (x : Name). Some x.kind) i; number = n; spelt = c; day = p ∙ ap (λ (x : Name). Some x.day) i }
    last k n None a b c p e = absurd (let z : ◌≡◌ {A = ℕ} 0 1 = cc in omega arith)

    go : (t : Bool) → framed s ≡ t → (k : Option FileKind) → kind_of (get_or s 1 0) ≡ k → (v : Option ℕ) → digits_of false (take 6 (drop 2 s)) ≡ v
        → cond t (on_kind k λ k. on_digits v λ n. on_day (day_of_six n) λ d. Some (record { kind = k; day = d })) None ≡ Some m → Read s m
    go true a (Some k) b (Some n) c e = last k n (day_of_six n) a b c refl e
    go true a (Some k) b None c e = absurd (let z : ◌≡◌ {A = ℕ} 0 1 = cc in omega arith)
    go true a None b v c e = absurd (let z : ◌≡◌ {A = ℕ} 0 1 = cc in omega arith)
    go false a k b v c e = absurd (let z : ◌≡◌ {A = ℕ} 0 1 = cc in omega arith)

-- twelve bytes, taken apart
twelve : (s : List ℕ) → length s ≡ 12 → s ≡ take 1 s ++ (get_or s 1 0 ∷ (take 6 (drop 2 s) ++ drop 8 s))
twelve s h =
    sym (take-append-drop 1 s)
    ∙ ap (λ (r : List ℕ). take 1 s ++ r) (drop-cons s 1 0 (omega arith) ∙ ap (λ (r : List ℕ). get_or s 1 0 ∷ r) (sym (take-append-drop 6 (drop 2 s)) ∙ ap (λ (r : List ℕ). take 6 (drop 2 s) ++ r) (drop-drop 6 2 s)))

pub name-written : (s : List ℕ) (m : Name) → name_of s ≡ Some m → name_text m ≡ s
unfolding name_text spelling
name-written s m e =
    let r = read-parts s m e in
    let x = six-written r.number m.day r.day in
    let v = value-inv false (take 6 (drop 2 s)) r.number r.spelt in
    let h : length s ≡ 12 = framed-length s r.frame in
    let six : length (take 6 (drop 2 s)) ≡ 6 = length-take-le 6 (drop 2 s) (omega (arith, length-drop 2 s)) in
    let back : digits 6 r.number ≡ take 6 (drop 2 s) = ap₂ digits (sym six) (sym v.1) ∙ width_back (take 6 (drop 2 s)) v.0 in
    rw (date-back x.0 m.day.0 x.1, x.2, letter-written (get_or s 1 0) m.kind r.letter, back)
    (sym (twelve s h ∙ ap₂ (λ (a b : List ℕ). a ++ (get_or s 1 0 ∷ (take 6 (drop 2 s) ++ b))) (framed-first s r.frame) (framed-ending s r.frame)))

pub name-one : (s t : List ℕ) (m : Name) → name_of s ≡ Some m → name_of t ≡ Some m → s ≡ t
name-one s t m p q = sym (name-written s m p) ∙ name-written t m q
