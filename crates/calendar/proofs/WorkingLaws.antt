-- Counting working days. The k-th working day after a day is what the paper says, and nothing else is.
-- Assumes nothing.
use Rattle.calendar.specs.declared.dates.CalendarDays.{CalendarDays}
use Rattle.std.specs.Prelude.{Option, Some, None}
use mathlib.Core.Path.{◌≡◌, refl, sym, ◌∙◌, ap, subst}
use mathlib.Core.Bool.{Bool, true, false, cond}
use mathlib.Core.Logic.{⊎_elim}
use Prim.Native.Nat.{ℕ, zero, suc, ◌+◌, ◌-◌, ◌≤◌, ◌<◌}
use native.Mathlib.Omega.{arith}
use lib.Dec.{eqb}
use borrow.Author.Tests.{eqb-true, eqb-false}
use Rattle.laws.specs.Lists.{table, keep}
use Rattle.laws.proofs.Lists.{length-keep-end}
use Rattle.laws.proofs.Tests.{le-or-lt}
use Rattle.calendar.specs.Dates.{last_day}
use Rattle.calendar.specs.Holidays.{working}
use Rattle.calendar.specs.WorkingDays.{days_after, working_after, smallest, working_day_after}
use Rattle.calendar.specs.Meaning.{KthAfter, After}

-- ---- the count: none at first, and with each day one more if that is a working day
pub count_none : (d : ℕ) → working_after d d ≡ 0
unfolding working_after days_after table keep
count_none d = let e : d - d ≡ 0 = omega arith in rw e

count_next : (d e : ℕ) → d ≤ e → working_after d (e + 1) ≡ working_after d e + cond (working (e + 1)) 1 0
unfolding working_after days_after table
count_next d e h =
    let n : e + 1 - d ≡ suc (e - d) = omega arith in
    let x : d + 1 + (e - d) ≡ e + 1 = omega arith in
    rw (n, ← x) (length-keep-end working (table (e - d) (λ (i : ℕ). d + 1 + i)) (d + 1 + (e - d)))

pub count-working : (d e : ℕ) → d ≤ e → working (e + 1) ≡ true → working_after d (e + 1) ≡ working_after d e + 1
count-working d e h w = rw w at (count_next d e h)

pub count-free : (d e : ℕ) → d ≤ e → working (e + 1) ≡ false → working_after d (e + 1) ≡ working_after d e
count-free d e h w = let p = rw w at (count_next d e h) in omega arith

-- ---- the definition's search: the first day that passes, and none before it
Finds : (ℕ → Bool) → ℕ → ℕ → Option CalendarDays → Type 0
Finds p n e (Some x) = (e ≤ x.0) × (x.0 < e + n) × (p x.0 ≡ true) × ((i : ℕ) → e ≤ i → i < x.0 → p i ≡ false)
Finds p n e None = (i : ℕ) → e ≤ i → i < e + n → p i ≡ false

smallest-finds : (p : ℕ → Bool) (n e : ℕ) → Finds p n e (smallest p n e)
unfolding smallest Finds
smallest-finds p zero e = λ i h k. absurd (omega arith)
smallest-finds p (suc n) e = go (p e) refl (smallest p n (suc e)) (smallest-finds p n (suc e))
  where
    here_or_on : p e ≡ false → (i x : ℕ) → e ≤ i → i < x → ((j : ℕ) → suc e ≤ j → j < x → p j ≡ false) → p i ≡ false
    here_or_on q i x h k r = ⊎_elim (λ (l : i ≤ e). ap p (omega arith) ∙ q) (λ (l : e < i). r i l k) (le-or-lt i e)

    go : (t : Bool) → p e ≡ t → (o : Option CalendarDays) → Finds p n (suc e) o → Finds p (suc n) e (cond t (Some (record { 0 = e })) o)
    go true q o f = (omega arith, omega arith, q, λ i h k. absurd (omega arith))
    go false q (Some x) (a, b, c, d) = (omega arith, omega arith, c, λ i h k. here_or_on q i x.0 h k d)
    go false q None f = λ i h k. here_or_on q i (e + suc n) h k (λ j r s. f j r (omega arith))

-- ---- the definition has the paper's meaning
pub after : (d k : ℕ) → After d k (working_day_after d k)
unfolding working_day_after Finds
after d k = go (smallest test (suc last_day - d) d) (smallest-finds test (suc last_day - d) d)
  where
    test : ℕ → Bool
    test e = eqb (working_after d e) k

    go : (o : Option CalendarDays) → Finds test (suc last_day - d) d o → After d k o
    go (Some x) (a, b, c, h) = record { not-before = a; inside = omega arith; counted = eqb-true _ _ c; smallest = λ i p q. eqb-false _ _ (h i p q) }
    go None h = λ e p q. eqb-false _ _ (h e p (omega arith))

-- and one answer alone has it
pub after_one : (d k : ℕ) (a b : Option CalendarDays) → After d k a → After d k b → a ≡ b
after_one d k (Some x) (Some y) p q =
    let l : x.0 < y.0 → ⊥ = λ h. q.smallest x.0 p.not-before h p.counted in
    let m : y.0 < x.0 → ⊥ = λ h. p.smallest y.0 q.not-before h q.counted in
    let e : x.0 ≡ y.0 = omega arith in
    ap (λ (z : ℕ). Some (record { 0 = z })) e
after_one d k (Some x) None p q = absurd (q x.0 p.not-before p.inside p.counted)
after_one d k None (Some y) p q = absurd (p y.0 q.not-before q.inside q.counted)
after_one d k None None p q = refl

pub after_is : (d k : ℕ) (a : Option CalendarDays) → After d k a → a ≡ working_day_after d k
after_is d k a h = after_one d k a (working_day_after d k) h (after d k)

-- for k = 0 it is d
pub after_none : (d : ℕ) → d ≤ last_day → Some (record { 0 = d }) ≡ working_day_after d 0
after_none d h = after_is d 0 (Some (record { 0 = d })) (record { not-before = omega arith; inside = h; counted = count_none d; smallest = λ i p q s. omega arith })

-- a day outside the calendar has no day after it
pub after-outside : (d k : ℕ) → last_day < d → None ≡ working_day_after d k
after-outside d k h = after_is d k None (λ e p q s. omega arith)

-- where there is an answer, it is a day of the calendar and not before d
pub after-found : (d k e : ℕ) → working_day_after d k ≡ Some (record { 0 = e }) → KthAfter d k e
after-found d k e q = subst (After d k) q (after d k)

-- ---- a loop that counts day by day: at the day d `left` of k are left, and at each earlier day fewer than k were counted
pub record Counting (first k d left : ℕ) : Type 0 where
  pub from : first ≤ d
  pub inside : d ≤ last_day
  pub whole : working_after first d + left ≡ k
  pub fewer : (e : ℕ) → first ≤ e → e < d → working_after first e < k

pub counting-starts : (d k : ℕ) → d ≤ last_day → Counting d k d k
counting-starts d k h = record { from = omega arith; inside = h; whole = omega (arith, count_none d); fewer = λ e p q. absurd (omega arith) }

module _ (first k d left : ℕ) (c : Counting first k d left) where
  fewer-on : 0 < left → (e : ℕ) → first ≤ e → e < d + 1 → working_after first e < k
  fewer-on h e p q = ⊎_elim (λ (l : d ≤ e). let s : working_after first e ≡ working_after first d = ap (working_after first) (omega arith) in omega arith) (λ (l : e < d). c.fewer e p l) (le-or-lt d e)

  pub counting-on : d < last_day → 0 < left → working (d + 1) ≡ true → Counting first k (d + 1) (left - 1)
  counting-on l h w = record { from = omega arith; inside = omega arith; whole = omega (arith, count-working first d c.from w); fewer = fewer-on h }

  pub counting-past : d < last_day → 0 < left → working (d + 1) ≡ false → Counting first k (d + 1) left
  counting-past l h w = record { from = omega arith; inside = omega arith; whole = omega (arith, count-free first d c.from w); fewer = fewer-on h }

  pub counting-there : left ≤ 0 → Some (record { 0 = d }) ≡ working_day_after first k
  counting-there h = after_is first k (Some (record { 0 = d })) (record { not-before = c.from; inside = c.inside; counted = omega arith; smallest = λ i p q s. omega (arith, c.fewer i p q) })

  pub counting-ends : 0 < left → d ≡ last_day → None ≡ working_day_after first k
  counting-ends h l = after_is first k None (λ e p q s. omega (arith, fewer-on h e p (omega arith)))

-- ---- a working day at which k working days are counted is the k-th
count-grows : (d e n : ℕ) → d ≤ e → working_after d e ≤ working_after d (e + n)
count-grows d e zero h = let s : e + 0 ≡ e = omega arith in rw s (omega arith)
count-grows d e (suc n) h =
    let s : e + suc n ≡ e + n + 1 = omega arith in
    rw s (omega (arith, count_next d (e + n) (omega arith), count-grows d e n h))

pub kth : (d k e : ℕ) → d < e → e ≤ last_day → working e ≡ true → working_after d e ≡ k → working_day_after d k ≡ Some (record { 0 = e })
kth d k e h l w s =
    sym (after_is d k (Some (record { 0 = e })) (record { not-before = omega arith; inside = l; counted = s; smallest = earlier }))
  where
    earlier : (i : ℕ) → d ≤ i → i < e → working_after d i ≡ k → ⊥
    earlier i p q r =
        let x : e - 1 + 1 ≡ e = omega arith in
        let y : i + (e - 1 - i) ≡ e - 1 = omega arith in
        omega (arith, rw x at (count-working d (e - 1) (omega arith) (rw x w)), rw y at (count-grows d i (e - 1 - i) p))
