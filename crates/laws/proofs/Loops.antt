-- Laws for a loop that goes through a list from the front, for any list and any test or function. `d` is what `get_or` has past the end.
-- A search for a place, with the invariant `Searched p xs i`:
--     search-on      the element at i fails the test: the invariant holds at i + 1
--     search-here    the element at i passes: i is the first place
--     search-none    i is past the end: i is the first place, and the length
--     first_on, first-here, first-none    the same turns, for a search that began anywhere
-- A search for any, with the invariant `any p (drop i xs) ≡ any p xs`:
--     any-on         the element at i fails the test: the invariant holds at i + 1
--     any_found      the element at i passes: some element does
--     any-passed     i is past the end: none does
-- A test of all, likewise: all-on, all-failed, all-passed.
-- A loop that stores `f` of each element in its place, with the invariant `Mapped f xs ys i`:
--     map_on         after the store at i the invariant holds at i + 1
--     map-done       i is past the end: the list is `map f xs`
-- Assumes nothing.
use mathlib.Core.Path.{◌≡◌, refl, ap, sym, ◌∙◌}
use mathlib.Core.Bool.{Bool, true, false}
use mathlib.Core.List.{List, [], ◌∷◌, map}
use Prim.Native.Nat.{ℕ, zero, suc, ◌+◌, ◌≤◌, ◌<◌}
use native.Mathlib.Nat.{not-suc-le-zero, le_of_suc-le-suc}
use native.Mathlib.Numerals.{add-one}
use native.Mathlib.Omega.{arith}
use lib.ListN.{length, get_or, drop, set, drop_of_length-le}
use lib.Seq.{drop-cons}
use Rattle.laws.specs.Lists.{first_at, any, all, map_first}

-- no element before i passes the test
abbrev pub Searched : {A : Type 0} → (A → Bool) → List A → ℕ → Type 0
Searched p xs i = i + first_at p (drop i xs) ≡ first_at p xs

-- f has been done to the elements before i, and the list is now ys
abbrev pub Mapped : {A : Type 0} → (A → A) → List A → List A → ℕ → Type 0
Mapped f xs ys i = ys ≡ map_first f i xs

-- one turn of the search, wherever it began
module _ {A : Type 0} (f : A → Bool) (d : A) (xs : List A) (i : ℕ) where
  pub first_on : i < length xs → f (get_or xs i d) ≡ false → i + first_at f (drop i xs) ≡ (i + 1) + first_at f (drop (i + 1) xs)
  first_on h e = rw (add-one, drop-cons xs i d h, e) (omega arith)

  pub first-here : i < length xs → f (get_or xs i d) ≡ true → i + first_at f (drop i xs) ≡ i
  first-here h e = rw (drop-cons xs i d h, e) (omega arith)

  pub first-none : length xs ≤ i → i + first_at f (drop i xs) ≡ i
  first-none h = rw (drop_of_length-le xs h) (omega arith)

module _ {A : Type 0} (f : A → Bool) (d : A) (xs : List A) (i : ℕ) (inv : Searched f xs i) where
  pub search-on : i < length xs → f (get_or xs i d) ≡ false → Searched f xs (i + 1)
  search-on h e = sym (first_on f d xs i h e) ∙ inv

  pub search-here : i < length xs → f (get_or xs i d) ≡ true → i ≡ first_at f xs
  search-here h e = sym (first-here f d xs i h e) ∙ inv

  pub search-none : length xs ≤ i → i ≡ first_at f xs
  search-none h = sym (first-none f d xs i h) ∙ inv

module _ {A : Type 0} (p : A → Bool) (d : A) (xs : List A) (i : ℕ) where
  any-drop : i < length xs → any p (drop i xs) ≡ any p (get_or xs i d ∷ drop (i + 1) xs)
  any-drop h = rw (add-one, drop-cons xs i d)

  pub any-on : i < length xs → p (get_or xs i d) ≡ false → any p (drop i xs) ≡ any p xs → any p (drop (i + 1) xs) ≡ any p xs
  unfolding any
  any-on h e inv = rw (any-drop h, e) at inv

  pub any_found : i < length xs → p (get_or xs i d) ≡ true → any p (drop i xs) ≡ any p xs → true ≡ any p xs
  unfolding any
  any_found h e inv = rw (any-drop h, e) at inv

  pub any-passed : length xs ≤ i → any p (drop i xs) ≡ any p xs → false ≡ any p xs
  unfolding any
  any-passed h inv = rw (drop_of_length-le xs h) at inv

  all_drop : i < length xs → all p (drop i xs) ≡ all p (get_or xs i d ∷ drop (i + 1) xs)
  all_drop h = rw (add-one, drop-cons xs i d)

  pub all-on : i < length xs → p (get_or xs i d) ≡ true → all p (drop i xs) ≡ all p xs → all p (drop (i + 1) xs) ≡ all p xs
  unfolding all
  all-on h e inv = rw (all_drop h, e) at inv

  pub all-failed : i < length xs → p (get_or xs i d) ≡ false → all p (drop i xs) ≡ all p xs → false ≡ all p xs
  unfolding all
  all-failed h e inv = rw (all_drop h, e) at inv

  pub all-passed : length xs ≤ i → all p (drop i xs) ≡ all p xs → true ≡ all p xs
  unfolding all
  all-passed h inv = rw (drop_of_length-le xs h) at inv

module _ {A : Type 0} (f : A → A) (d : A) where
  map_read : (xs : List A) (i : ℕ) → get_or (map_first f i xs) i d ≡ get_or xs i d
  map_read xs zero = refl
  map_read [] (suc i) = refl
  map_read (x ∷ xs) (suc i) = map_read xs i

  map-suc : (xs : List A) (i : ℕ) → set (map_first f i xs) i (f (get_or xs i d)) ≡ map_first f (suc i) xs
  map-suc [] zero = refl
  map-suc (x ∷ xs) zero = refl
  map-suc [] (suc i) = refl
  map-suc (x ∷ xs) (suc i) = ap (λ (l : List A). f x ∷ l) (map-suc xs i)

  map-all : (xs : List A) (i : ℕ) → length xs ≤ i → map_first f i xs ≡ map f xs
  map-all [] zero h = refl
  map-all [] (suc i) h = refl
  map-all (x ∷ xs) zero h = absurd (not-suc-le-zero h)
  map-all (x ∷ xs) (suc i) h = ap (λ (l : List A). f x ∷ l) (map-all xs i (le_of_suc-le-suc h))

  module _ (xs ys : List A) (i : ℕ) (inv : Mapped f xs ys i) where
    pub map_on : (y : A) → y ≡ f (get_or ys i d) → Mapped f xs (set ys i y) (i + 1)
    map_on y e = rw (add-one, e, inv, map_read) (map-suc xs i)

    pub map-done : length xs ≤ i → ys ≡ map f xs
    map-done h = inv ∙ map-all xs i h
