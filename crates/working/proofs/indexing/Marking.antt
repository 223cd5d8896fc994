-- Marks for what tags have in front: each tag laid is marked, and where there is no mark no tag is wanted. Assumes nothing.
use mathlib.Core.Path.{◌≡◌, refl, sym, ap, ◌∙◌}
use mathlib.Core.Logic.{⊎_elim}
use mathlib.Core.Bool.{Bool, true, false}
use mathlib.Core.List.{List, [], ◌∷◌}
use Prim.Native.Nat.{ℕ, zero, suc, ◌+◌, ◌/◌, ◌%◌, ◌≤◌, ◌<◌}
use native.Mathlib.Omega.{arith}
use borrow.Author.Tests.{lt-ltb, le-ltb}
use lib.Dec.{ltb}
use lib.ListN.{length, take, get_or, set, length-take}
use lib.Seq.{get_or-take, get_or-set_same}
use Rattle.laws.specs.Lists.{keep}
use Rattle.laws.proofs.Lists.{keep-yes, keep-no}
use Rattle.laws.proofs.Tests.{le-or-lt}
use Rattle.order.specs.groups.Groups.{below, tag}
use Rattle.working.specs.indexing.Index.{front, is_wanted, Marked}

-- ---- marking
-- a mark stays when another is set
stays : (l : List Bool) (j m : ℕ) → get_or l m false ≡ true → get_or (set l j true) m false ≡ true
stays [] j m e = e
stays (x ∷ l) zero zero e = refl
stays (x ∷ l) zero (suc m) e = e
stays (x ∷ l) (suc j) zero e = e
stays (x ∷ l) (suc j) (suc m) e = stays l j m e

abbrev at : ℕ → ℕ
at g = g / 16384 % 1024

pub marked-none : (wanted : List ℕ) (marks : List Bool) → Marked (take 0 wanted) marks
marked-none wanted marks = record { each = λ i h. absurd (omega arith) }

pub marked_more : (wanted : List ℕ) (marks : List Bool) (k : ℕ) → k < length wanted → 1024 ≤ length marks → Marked (take k wanted) marks
    → Marked (take (k + 1) wanted) (set marks (get_or wanted k 0 / 16384 % 1024) true)
marked_more wanted marks k h room m = record { each = λ i b. ⊎_elim (last i b) (earlier i b) (le-or-lt k i) }
  where
    place : ℕ
    place = at (get_or wanted k 0)

    last : (i : ℕ) → i < length (take (k + 1) wanted) → k ≤ i → get_or (set marks place true) (at (get_or (take (k + 1) wanted) i 0)) false ≡ true
    last i b c =
        let e : i ≡ k = omega (arith, length-take (k + 1) wanted) in
        ap (λ (g : ℕ). get_or (set marks place true) (at g) false) (get_or-take (k + 1) wanted i 0 (omega arith) ∙ ap (λ (j : ℕ). get_or wanted j 0) e)
        ∙ get_or-set_same marks place true false (omega arith)

    earlier : (i : ℕ) → i < length (take (k + 1) wanted) → i < k → get_or (set marks place true) (at (get_or (take (k + 1) wanted) i 0)) false ≡ true
    earlier i b c =
        let same : get_or (take k wanted) i 0 ≡ get_or (take (k + 1) wanted) i 0 = get_or-take k wanted i 0 c ∙ sym (get_or-take (k + 1) wanted i 0 (omega arith)) in
        stays marks place (at (get_or (take (k + 1) wanted) i 0)) (ap (λ (g : ℕ). get_or marks (at g) false) (sym same) ∙ m.each i (omega (arith, length-take k wanted)))

-- ---- where there is no mark
no-mark : false ≡ true → ⊥
no-mark e = let z : ◌≡◌ {A = ℕ} 0 1 = cc in omega arith

yes : (key x : ℕ) (l : List ℕ) → x < key → below key (x ∷ l) ≡ suc (below key l)
unfolding below
yes key x l h = ap length (keep-yes (λ (y : ℕ). ltb y key) x l (lt-ltb x key h))

no : (key x : ℕ) (l : List ℕ) → key ≤ x → below key (x ∷ l) ≡ below key l
unfolding below
no key x l h = ap length (keep-no (λ (y : ℕ). ltb y key) x l (le-ltb x key h))

none : (key : ℕ) → below key [] ≡ 0
unfolding below keep
none key = refl

module _ (marks : List Bool) (d : ℕ) (e : get_or marks (d % 1024) false ≡ false) where
  apart : (x : ℕ) → get_or marks (x / 16384 % 1024) false ≡ true → x / 16384 ≡ d → ⊥
  apart x m q = no-mark (sym e ∙ ap (λ (g : ℕ). get_or marks (g % 1024) false) (sym q) ∙ m)

  module _ (x : ℕ) (l : List ℕ) (m : get_or marks (x / 16384 % 1024) false ≡ true) (rest : below (tag d 0) l ≡ below (tag (suc d) 0) l) where
    above : tag d 0 ≤ x → below (tag d 0) (x ∷ l) ≡ below (tag (suc d) 0) (x ∷ l)
    above a =
        ⊎_elim (λ (b : tag (suc d) 0 ≤ x). no (tag d 0) x l a ∙ rest ∙ sym (no (tag (suc d) 0) x l b))
        (λ (b : x < tag (suc d) 0). absurd (apart x m (omega arith)))
        (le-or-lt (tag (suc d) 0) x)

    under : x < tag d 0 → below (tag d 0) (x ∷ l) ≡ below (tag (suc d) 0) (x ∷ l)
    under a = yes (tag d 0) x l a ∙ ap suc rest ∙ sym (yes (tag (suc d) 0) x l (omega arith))

    one_more : below (tag d 0) (x ∷ l) ≡ below (tag (suc d) 0) (x ∷ l)
    one_more = ⊎_elim above under (le-or-lt (tag d 0) x)

  as_many : (l : List ℕ) → ((i : ℕ) → i < length l → get_or marks (get_or l i 0 / 16384 % 1024) false ≡ true) → below (tag d 0) l ≡ below (tag (suc d) 0) l
  as_many [] h = none (tag d 0) ∙ sym (none (tag (suc d) 0))
  as_many (x ∷ l) h = one_more x l (h 0 (omega arith)) (as_many l (λ i b. h (suc i) (omega arith)))

pub not-marked : (wanted : List ℕ) (marks : List Bool) (digits : ℕ) → Marked wanted marks → get_or marks (digits % 281474976710656 % 1024) false ≡ false → false ≡ is_wanted wanted digits
unfolding is_wanted
not-marked wanted marks digits m e =
    sym (le-ltb (below (tag (front digits) 0) wanted) (below (tag (suc (front digits)) 0) wanted) (omega (arith, as_many marks (front digits) e wanted m.each)))
