-- A group of tags, read as the elements behind them, is what has its number in front. Assumes nothing.
--     grouped    the elements behind the tags with F in front are those with φ ≡ F, as they stand
--     placed     their places, likewise
--     counted    and there are as many
--     wanted     there is one exactly if there is such an element
use mathlib.Core.Path.{◌≡◌, refl, sym, ap, ◌∙◌}
use mathlib.Core.Logic.{⊎_elim}
use mathlib.Core.Bool.{Bool, true, false, cond, ◌||◌}
use mathlib.Core.List.Memᴰ
use mathlib.Core.List.{List, [], ◌∷◌, ◌++◌, map, map-map, map-id, Memᴰ}
use Prim.Native.Nat.{ℕ, zero, suc, ◌+◌, ◌%◌, ◌≤◌, ◌<◌}
use native.Mathlib.Nat.{mul-add-mod_self_right, mod-eq_of_lt, eq-or-lt_of_le}
use native.Mathlib.Omega.{arith}
use borrow.Author.Tests.{leb-true, le-leb, lt-ltb, le-ltb, eqb-true, eq-eqb, ne_eqb}
use lib.Dec.{leb, ltb, eqb}
use lib.ListN.{length, get_or, length-map}
use Rattle.laws.specs.Lists.{table, keep, any}
use Rattle.laws.specs.Order.{sorted, Below, Ordered}
use Rattle.laws.proofs.Tests.{le-or-lt}
use Rattle.laws.proofs.Lists.{keep-map, keep-passes, mem-keep, mem_below}
use Rattle.laws.proofs.Tables.{table-self, map-table}
use Rattle.laws.proofs.Order.{keep-in_order, in_order-ordered, in_order-of-ordered}
use Rattle.laws.proofs.ByKey.{by_number}
use Rattle.order.specs.groups.Groups.{below, tag, tags, group}
use Rattle.order.proofs.groups.Below.{amid, below-rise, between}

-- ---- the numbers from 0 on are in order
below_end : (x : ℕ) (l : List ℕ) (y : ℕ) → Below leb x l → x ≤ y → Below leb x (l ++ (y ∷ []))
below_end x l y b h z m = ⊎_elim (b z) (λ k. ap (leb x) (Memᴰ.eq_of_singleton k) ∙ le-leb x y h) (Memᴰ.append_cases l m)

ordered_end : (l : List ℕ) (y : ℕ) → Ordered leb l → ((x : ℕ) → Memᴰ x l → x ≤ y) → Ordered leb (l ++ (y ∷ []))
ordered_end [] y o h = ((λ z m. absurd (Memᴰ.not-nil m)), tt)
ordered_end (x ∷ l) y o h = (below_end x l y o.0 (h x (Memᴰ.head refl)), ordered_end l y o.1 (λ z m. h z (Memᴰ.tail m)))

abbrev from0 : ℕ → List ℕ
from0 n = table n (λ (i : ℕ). i)

from0-ordered : (n : ℕ) → Ordered leb (from0 n)
unfolding table
from0-ordered zero = tt
from0-ordered (suc n) = ordered_end (from0 n) n (from0-ordered n) (λ x m. let w = mem_below n (λ (i : ℕ). i) m in omega (arith, w.1, w.2))

-- and those that pass a test are
kept-ordered : (q : ℕ → Bool) (n : ℕ) → Ordered leb (keep q (from0 n))
kept-ordered q n =
    rw (sym (keep-in_order leb by_number q (from0 n)) ∙ ap (keep q) (in_order-of-ordered leb (from0 n) (from0-ordered n))) at (in_order-ordered leb by_number (keep q (from0 n)))

-- ---- with one number in front they stay in order
mem-map : {z : ℕ} (f : ℕ → ℕ) (l : List ℕ) → Memᴰ z (map f l) → (x : ℕ) × Memᴰ x l × (z ≡ f x)
mem-map f [] m = absurd (Memᴰ.not-nil m)
mem-map f (x ∷ l) m = ⊎_elim (λ e. (x, Memᴰ.head refl, e)) (λ k. let w = mem-map f l k in (w.0, Memᴰ.tail w.1, w.2)) (Memᴰ.cases_cons m)

ordered-tag : (F : ℕ) (l : List ℕ) → Ordered leb l → Ordered leb (map (tag F) l)
ordered-tag F [] o = tt
ordered-tag F (x ∷ l) o =
    ((λ z m. let w = mem-map (tag F) l m in ap (leb (tag F x)) w.2 ∙ le-leb (tag F x) (tag F w.0) (omega (arith, leb-true x w.0 (o.0 w.0 w.1)))), ordered-tag F l o.1)

map_same : (f g : ℕ → ℕ) (l : List ℕ) → ((x : ℕ) → Memᴰ x l → f x ≡ g x) → map f l ≡ map g l
map_same f g [] h = refl
map_same f g (x ∷ l) h = λ k. h x (Memᴰ.head refl) k ∷ map_same f g l (λ y m. h y (Memᴰ.tail m)) k

-- ---- a tag lies between the ends of a group exactly if its number is in front
amid-tag : (F f i : ℕ) → i < 16384 → amid (tag F 0) (tag (suc F) 0) (tag f i) ≡ eqb f F
amid-tag F f i h = ⊎_elim (λ (k : F ≤ f). ⊎_elim at above (eq-or-lt_of_le k)) under (le-or-lt F f)
  where
    at : F ≡ f → amid (tag F 0) (tag (suc F) 0) (tag f i) ≡ eqb f F
    at e = rw (lt-ltb (tag f i) (tag (suc F) 0) (omega arith), le-ltb (tag f i) (tag F 0) (omega arith), eq-eqb f F (sym e))

    above : F < f → amid (tag F 0) (tag (suc F) 0) (tag f i) ≡ eqb f F
    above k = rw (le-ltb (tag f i) (tag (suc F) 0) (omega arith), ne_eqb f F (λ e. omega arith))

    under : f < F → amid (tag F 0) (tag (suc F) 0) (tag f i) ≡ eqb f F
    under k = rw (lt-ltb (tag f i) (tag (suc F) 0) (omega arith), lt-ltb (tag f i) (tag F 0) (omega arith), ne_eqb f F (λ e. omega arith))

place_of : (F i : ℕ) → i < 16384 → tag F i % 16384 ≡ i
place_of F i h = mul-add-mod_self_right F 16384 i ∙ mod-eq_of_lt h

module _ (φ : ℕ → ℕ) (l : List ℕ) (short : length l ≤ 16384) (F : ℕ) where
  -- the places whose element has F
  abbrev places : List ℕ
  places = keep (λ (i : ℕ). eqb (φ (get_or l i 0)) F) (from0 (length l))

  small : (i : ℕ) → Memᴰ i (from0 (length l)) → i < 16384
  small i m = let w = mem_below (length l) (λ (i : ℕ). i) m in omega (arith, w.1, w.2)

  -- the tags with F in front, before they are put in order
  tagged : keep (amid (tag F 0) (tag (suc F) 0)) (table (length l) (λ (i : ℕ). tag (φ (get_or l i 0)) i)) ≡ map (tag F) places
  tagged =
      ap (keep (amid (tag F 0) (tag (suc F) 0))) (sym (map-table (λ (i : ℕ). tag (φ (get_or l i 0)) i) (length l) (λ (i : ℕ). i)))
      ∙ sym (keep-map (λ (i : ℕ). tag (φ (get_or l i 0)) i) (amid (tag F 0) (tag (suc F) 0)) (λ (i : ℕ). eqb (φ (get_or l i 0)) F) (from0 (length l)) (λ i m. sym (amid-tag F (φ (get_or l i 0)) i (small i m))))
      ∙ map_same (λ (i : ℕ). tag (φ (get_or l i 0)) i) (tag F) places (λ i m. ap (λ (f : ℕ). tag f i) (eqb-true (φ (get_or l i 0)) F (keep-passes (λ (i : ℕ). eqb (φ (get_or l i 0)) F) (from0 (length l)) m)))

  group-is : group F (tags φ l) ≡ map (tag F) places
  group-is =
      between (tag F 0) (tag (suc F) 0) (omega arith) (table (length l) (λ (i : ℕ). tag (φ (get_or l i 0)) i))
      ∙ ap sorted tagged
      ∙ in_order-of-ordered leb (map (tag F) places) (ordered-tag F places (kept-ordered (λ (i : ℕ). eqb (φ (get_or l i 0)) F) (length l)))

  -- the elements at these places
  elements : map (λ (i : ℕ). get_or l i 0) places ≡ keep (λ (k : ℕ). eqb (φ k) F) l
  elements =
      keep-map (λ (i : ℕ). get_or l i 0) (λ (k : ℕ). eqb (φ k) F) (λ (i : ℕ). eqb (φ (get_or l i 0)) F) (from0 (length l)) (λ i m. refl)
      ∙ ap (keep (λ (k : ℕ). eqb (φ k) F)) (map-table (λ (i : ℕ). get_or l i 0) (length l) (λ (i : ℕ). i) ∙ table-self l 0 (length l) refl)

  pub grouped : map (λ (g : ℕ). get_or l (g % 16384) 0) (group F (tags φ l)) ≡ keep (λ (k : ℕ). eqb (φ k) F) l
  grouped =
      ap (map (λ (g : ℕ). get_or l (g % 16384) 0)) group-is
      ∙ map-map (λ (g : ℕ). get_or l (g % 16384) 0) (tag F) places
      ∙ map_same (λ (i : ℕ). get_or l (tag F i % 16384) 0) (λ (i : ℕ). get_or l i 0) places (λ i m. ap (λ (j : ℕ). get_or l j 0) (place_of F i (small i (mem-keep (λ (i : ℕ). eqb (φ (get_or l i 0)) F) (from0 (length l)) m))))
      ∙ elements

  pub placed : map (λ (g : ℕ). g % 16384) (group F (tags φ l)) ≡ keep (λ (i : ℕ). eqb (φ (get_or l i 0)) F) (table (length l) (λ (i : ℕ). i))
  placed =
      ap (map (λ (g : ℕ). g % 16384)) group-is
      ∙ map-map (λ (g : ℕ). g % 16384) (tag F) places
      ∙ map_same (λ (i : ℕ). tag F i % 16384) (λ (i : ℕ). i) places (λ i m. place_of F i (small i (mem-keep (λ (i : ℕ). eqb (φ (get_or l i 0)) F) (from0 (length l)) m)))
      ∙ map-id places

  pub counted : below (tag (suc F) 0) (tags φ l) ≡ below (tag F 0) (tags φ l) + length (keep (λ (k : ℕ). eqb (φ k) F) l)
  counted =
      below-rise (tag F 0) (tag (suc F) 0) (omega arith) (table (length l) (λ (i : ℕ). tag (φ (get_or l i 0)) i))
      ∙ ap (λ (n : ℕ). below (tag F 0) (tags φ l) + n) (ap length tagged ∙ length-map places (tag F) ∙ sym (length-map places (λ (i : ℕ). get_or l i 0)) ∙ ap length elements)

-- one is kept exactly if some element passes
any-kept : (p : ℕ → Bool) (l : List ℕ) → ltb 0 (length (keep p l)) ≡ any p l
unfolding keep any
any-kept p [] = le-ltb 0 0 (omega arith)
any-kept p (x ∷ l) = go (p x) (any-kept p l)
  where
    go : (t : Bool) → ltb 0 (length (keep p l)) ≡ any p l → ltb 0 (length (cond t (x ∷ keep p l) (keep p l))) ≡ (t || any p l)
    go true ih = lt-ltb 0 (suc (length (keep p l))) (omega arith)
    go false ih = ih

more : (a n : ℕ) → ltb a (a + n) ≡ ltb 0 n
more a n = ⊎_elim (λ (h : n ≤ 0). le-ltb a (a + n) (omega arith) ∙ sym (le-ltb 0 n h)) (λ (h : 0 < n). lt-ltb a (a + n) (omega arith) ∙ sym (lt-ltb 0 n h)) (le-or-lt n 0)

pub wanted : (φ : ℕ → ℕ) (l : List ℕ) → length l ≤ 16384 → (F : ℕ) → ltb (below (tag F 0) (tags φ l)) (below (tag (suc F) 0) (tags φ l)) ≡ any (λ (k : ℕ). eqb (φ k) F) l
wanted φ l short F =
    ap (ltb (below (tag F 0) (tags φ l))) (counted φ l short F)
    ∙ more (below (tag F 0) (tags φ l)) (length (keep (λ (k : ℕ). eqb (φ k) F) l))
    ∙ any-kept (λ (k : ℕ). eqb (φ k) F) l
