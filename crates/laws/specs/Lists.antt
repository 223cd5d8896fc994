-- Lists of anything: given index by index, tested, filtered, searched, and read line by line as a table of rules.
-- Assumes nothing: these are definitions.
use Rattle.std.specs.Prelude.{ℕ, zero, suc, ◌+◌, Bool, true, false, cond, not, ◌&&◌, ◌||◌, List, [], ◌∷◌, ◌++◌}

module _ {A : Type 0} where
  -- f 0, f 1, .., f (n - 1)
  unfoldable pub table : ℕ → (ℕ → A) → List A
  table zero f = []
  table (suc n) f = table n f ++ (f n ∷ [])

  -- whether some element passes the test
  unfoldable pub any : (A → Bool) → List A → Bool
  any p [] = false
  any p (x ∷ xs) = p x || any p xs

  -- whether each element does
  unfoldable pub all : (A → Bool) → List A → Bool
  all p [] = true
  all p (x ∷ xs) = p x && all p xs

  -- the elements that pass the test, in the order in which they stand
  unfoldable pub keep : (A → Bool) → List A → List A
  keep p [] = []
  keep p (x ∷ xs) = cond (p x) (x ∷ keep p xs) (keep p xs)

  -- each element once: one that stands again further on is left out
  unfoldable pub distinct : (A → A → Bool) → List A → List A
  distinct same [] = []
  distinct same (x ∷ xs) = cond (any (same x) xs) (distinct same xs) (x ∷ distinct same xs)

  -- no element is the same as one behind it
  unfoldable pub none_twice : (A → A → Bool) → List A → Bool
  none_twice same [] = true
  none_twice same (x ∷ xs) = not (any (same x) xs) && none_twice same xs

  -- f x, of all x together
  unfoldable pub total : (A → ℕ) → List A → ℕ
  total f [] = 0
  total f (x ∷ xs) = f x + total f xs

  -- the place of the first element that passes the test, counted from 0; the list's length where none does
  abbrev pub first_at : (A → Bool) → List A → ℕ
  first_at p [] = 0
  first_at p (x ∷ xs) = cond (p x) 0 (suc (first_at p xs))

  -- a table of rules: the answer of the first line whose test holds, and `other` where none does
  abbrev pub first_line : List (Bool × A) → A → A
  first_line [] other = other
  first_line (line ∷ lines) other = cond line.0 line.1 (first_line lines other)

  -- the function done to the first n elements, the others as they are
  abbrev pub map_first : (A → A) → ℕ → List A → List A
  map_first f zero xs = xs
  map_first f (suc n) [] = []
  map_first f (suc n) (x ∷ xs) = f x ∷ map_first f n xs

  -- whether two lists are as long and the same at each place, by a test of two elements
  unfoldable pub same_lists : (A → A → Bool) → List A → List A → Bool
  same_lists same [] [] = true
  same_lists same [] (y ∷ ys) = false
  same_lists same (x ∷ xs) [] = false
  same_lists same (x ∷ xs) (y ∷ ys) = same x y && same_lists same xs ys
