-- Code that sorts numbers instead of things: what the sorted numbers stand for is the things in order. A number for a list of digits comes in the order
-- of the lists, and a last digit that says which element it is changes nothing. Assumes nothing.
use mathlib.Core.Path.{◌≡◌, refl, sym, ap, ◌∙◌}
use mathlib.Core.Logic.{⊎_elim}
use mathlib.Core.Bool.{Bool, true, false, cond}
use mathlib.Core.List.Memᴰ
use mathlib.Core.List.{List, [], ◌∷◌, ◌++◌, map, Memᴰ}
use Prim.Native.Nat.{ℕ, ◌+◌, ◌*◌, ◌≤◌, ◌<◌}
use native.Mathlib.Nat.{mul-le-mul_right, suc-mul, eq-or-lt_of_le}
use native.Mathlib.Omega.{arith}
use borrow.Author.Tests.{le-leb, lt-leb}
use lib.Dec.{leb}
use lib.ListN.{length}
use Rattle.laws.specs.Lists.{keep}
use Rattle.laws.specs.Keys.{room, packed, Fits}
use Rattle.laws.specs.Order.{put, in_order, sorted, not_after}
use Rattle.laws.proofs.Tests.{le-or-lt}
use Rattle.laws.proofs.Lists.{mem-keep}
use Rattle.laws.proofs.Order.{mem-in_order}
use Rattle.laws.proofs.ByKey.{after-below, after-level, after-above}

-- ---- one order for another. An element is only ever compared with those that stand behind it
-- each element is related to all that stand behind it
abbrev pub Onward : {A : Type 0} → (A → A → Type 0) → List A → Type 0
Onward R [] = Unit {0}
Onward {A} R (x ∷ l) = ((y : A) → Memᴰ y l → R x y) × Onward R l

module _ {A : Type 0} (R : A → A → Type 0) where
  pub onward-end : (l : List A) (z : A) → Onward R l → ((y : A) → Memᴰ y l → R y z) → Onward R (l ++ (z ∷ []))
  onward-end [] z o h = ((λ y m. absurd (elim m [ ])), tt)
  onward-end (x ∷ l) z o h = (
    (λ y m. ⊎_elim (o.0 y) (λ k. let e : y ≡ z = Memᴰ.eq_of_singleton k in rw e (h x (Memᴰ.head refl))) (Memᴰ.append_cases l m)),
    onward-end l z o.1 (λ y m. h y (Memᴰ.tail m)),
  )

  pub onward-append : (l m : List A) → Onward R l → Onward R m → ((x y : A) → Memᴰ x l → Memᴰ y m → R x y) → Onward R (l ++ m)
  onward-append [] m o p h = p
  onward-append (x ∷ l) m o p h = (
    (λ y i. ⊎_elim (o.0 y) (h x y (Memᴰ.head refl)) (Memᴰ.append_cases l i)),
    onward-append l m o.1 p (λ a b i j. h a b (Memᴰ.tail i) j),
  )

  pub onward-keep : (p : A → Bool) (l : List A) → Onward R l → Onward R (keep p l)
  unfolding keep
  onward-keep p [] o = tt
  onward-keep p (x ∷ l) o = go (p x) (onward-keep p l o.1)
    where
      go : (t : Bool) → Onward R (keep p l) → Onward R (cond t (x ∷ keep p l) (keep p l))
      go true ih = ((λ y m. o.0 y (mem-keep p l m)), ih)
      go false ih = ih

-- f, which keeps the order of each element and those after it, of the elements in order
module _ {A B : Type 0} (f : A → B) (le : A → A → Bool) (le' : B → B → Bool) where
  map-put : (x : A) (l : List A) → ((y : A) → Memᴰ y l → le x y ≡ le' (f x) (f y)) → map f (put le x l) ≡ put le' (f x) (map f l)
  unfolding put
  map-put x [] h = refl
  map-put x (y ∷ l) h = rw (← h y (Memᴰ.head refl)) (go (le x y) (map-put x l (λ z m. h z (Memᴰ.tail m))))
    where
      go : (t : Bool) → map f (put le x l) ≡ put le' (f x) (map f l) → map f (cond t (x ∷ y ∷ l) (y ∷ put le x l)) ≡ cond t (f x ∷ f y ∷ map f l) (f y ∷ put le' (f x) (map f l))
      go true ih = refl
      go false ih = ap (λ (r : List B). f y ∷ r) ih

  pub map-onward : (l : List A) → Onward (λ (x y : A). le x y ≡ le' (f x) (f y)) l → map f (in_order le l) ≡ in_order le' (map f l)
  unfolding in_order
  map-onward [] o = refl
  map-onward (x ∷ l) o = map-put x (in_order le l) (λ y m. o.0 y (mem-in_order le l m)) ∙ ap (put le' (f x)) (map-onward l o.1)

-- one relation for another, where the elements keep what is needed for it
pub onward-both : {A : Type 0} (P : A → Type 0) (R S : A → A → Type 0) → ((x y : A) → P x → P y → R x y → S x y) → (l : List A) → ((x : A) → Memᴰ x l → P x) → Onward R l → Onward S l
onward-both P R S h [] p o = tt
onward-both P R S h (x ∷ l) p o =
    ((λ y m. h x y (p x (Memᴰ.head refl)) (p y (Memᴰ.tail m)) (o.0 y m)), onward-both P R S h l (λ y m. p y (Memᴰ.tail m)) o.1)

pub onward-other : {A : Type 0} (R S : A → A → Type 0) → ((x y : A) → R x y → S x y) → (l : List A) → Onward R l → Onward S l
onward-other R S h [] o = tt
onward-other R S h (x ∷ l) o = ((λ y m. h x y (o.0 y m)), onward-other R S h l o.1)

-- what is related to each is related to those behind
onward-each : {A : Type 0} (R : A → A → Type 0) (l : List A) → ((x y : A) → Memᴰ x l → Memᴰ y l → R x y) → Onward R l
onward-each R [] h = tt
onward-each R (x ∷ l) h = ((λ y m. h x y (Memᴰ.head refl) (Memᴰ.tail m)), onward-each R l (λ y z j k. h y z (Memᴰ.tail j) (Memᴰ.tail k)))

pub map-in_order : {A B : Type 0} (f : A → B) (le : A → A → Bool) (le' : B → B → Bool) (l : List A) → ((x y : A) → Memᴰ x l → Memᴰ y l → le x y ≡ le' (f x) (f y)) → map f (in_order le l) ≡ in_order le' (map f l)
map-in_order {A} f le le' l h = map-onward f le le' l (onward-each (λ (x y : A). le x y ≡ le' (f x) (f y)) l h)

-- what sorted numbers stand for
pub sorted-stand-for : {A : Type 0} (le : A → A → Bool) (f : ℕ → A) (ks : List ℕ) → ((x y : ℕ) → Memᴰ x ks → Memᴰ y ks → leb x y ≡ le (f x) (f y)) → map f (sorted ks) ≡ in_order le (map f ks)
sorted-stand-for le f ks h = map-in_order f leb le ks h

-- ---- a number for a list of digits, each below its bound
digit : (x y r p : ℕ) → x < y → r < p → x * p + r < y * p
digit x y r p h k = omega (arith, mul-le-mul_right p h, suc-mul x p)

leb-add : (c r s : ℕ) → leb (c + r) (c + s) ≡ leb r s
leb-add c r s =
    ⊎_elim (λ (h : r ≤ s). le-leb (c + r) (c + s) (omega arith) ∙ sym (le-leb r s h)) (λ (h : s < r). lt-leb (c + r) (c + s) (omega arith) ∙ sym (lt-leb r s h))
    (le-or-lt r s)

packed-below : (bs xs : List ℕ) → Fits bs xs → packed bs xs < room bs
packed-below [] [] h = omega arith
packed-below [] (x ∷ xs) h = absurd h
packed-below (b ∷ bs) [] h = absurd h
packed-below (b ∷ bs) (x ∷ xs) h = digit x b (packed bs xs) (room bs) h.0 (packed-below bs xs h.1)

-- the numbers come in the order of the lists
pub packed-order : (bs xs ys : List ℕ) → Fits bs xs → Fits bs ys → leb (packed bs xs) (packed bs ys) ≡ not_after xs ys
packed-order [] [] [] h k = unfold not_after in refl
packed-order [] [] (y ∷ ys) h k = absurd k
packed-order [] (x ∷ xs) ys h k = absurd h
packed-order (b ∷ bs) [] ys h k = absurd h
packed-order (b ∷ bs) (x ∷ xs) [] h k = absurd k
packed-order (b ∷ bs) (x ∷ xs) (y ∷ ys) h k =
    ⊎_elim (λ (p : x ≤ y). ⊎_elim (level (packed-order bs xs ys h.1 k.1)) below (eq-or-lt_of_le p)) above (le-or-lt x y)
  where
    r : ℕ
    r = packed bs xs

    s : ℕ
    s = packed bs ys

    r< : r < room bs
    r< = packed-below bs xs h.1

    s< : s < room bs
    s< = packed-below bs ys k.1

    level : leb r s ≡ not_after xs ys → x ≡ y → leb (x * room bs + r) (y * room bs + s) ≡ not_after (x ∷ xs) (y ∷ ys)
    level ih e = rw e (leb-add (y * room bs) r s ∙ ih ∙ sym (after-level y y xs ys refl))

    below : x < y → leb (x * room bs + r) (y * room bs + s) ≡ not_after (x ∷ xs) (y ∷ ys)
    below p = le-leb (x * room bs + r) (y * room bs + s) (omega (arith, digit x y r (room bs) p r<)) ∙ sym (after-below x y xs ys p)

    above : y < x → leb (x * room bs + r) (y * room bs + s) ≡ not_after (x ∷ xs) (y ∷ ys)
    above p = lt-leb (x * room bs + r) (y * room bs + s) (omega (arith, digit y x s (room bs) p s<)) ∙ sym (after-above x y xs ys p)

none_left : not_after [] [] ≡ true
unfolding not_after
none_left = refl

-- a last digit that does not fall between equal lists changes nothing: so it may say which element it is, for code that has to find it again
pub tagged-order : (xs ys : List ℕ) (i j : ℕ) → length xs ≡ length ys → (xs ≡ ys → i ≤ j) → not_after (xs ++ (i ∷ [])) (ys ++ (j ∷ [])) ≡ not_after xs ys
tagged-order [] [] i j l h = ⊎_elim (after-level i j [] []) (λ p. after-below i j [] [] p ∙ sym none_left) (eq-or-lt_of_le (h refl))
tagged-order [] (y ∷ ys) i j l h = absurd (omega arith)
tagged-order (x ∷ xs) [] i j l h = absurd (omega arith)
tagged-order (x ∷ xs) (y ∷ ys) i j l h =
    ⊎_elim (λ (p : x ≤ y). ⊎_elim (λ (e : x ≡ y). level e (tagged-order xs ys i j (omega arith) (λ q. h (λ k. e k ∷ q k)))) below (eq-or-lt_of_le p)) above (le-or-lt x y)
  where
    level : x ≡ y → not_after (xs ++ (i ∷ [])) (ys ++ (j ∷ [])) ≡ not_after xs ys → not_after (x ∷ (xs ++ (i ∷ []))) (y ∷ (ys ++ (j ∷ []))) ≡ not_after (x ∷ xs) (y ∷ ys)
    level e ih = after-level x y _ _ e ∙ ih ∙ sym (after-level x y xs ys e)

    below : x < y → not_after (x ∷ (xs ++ (i ∷ []))) (y ∷ (ys ++ (j ∷ []))) ≡ not_after (x ∷ xs) (y ∷ ys)
    below p = after-below x y _ _ p ∙ sym (after-below x y xs ys p)

    above : y < x → not_after (x ∷ (xs ++ (i ∷ []))) (y ∷ (ys ++ (j ∷ []))) ≡ not_after (x ∷ xs) (y ∷ ys)
    above p = after-above x y _ _ p ∙ sym (after-above x y xs ys p)
