-- Lists that are given by what stands at each index, and tests of their elements.
--     any_none, any_next, any_here    a search through a table from its start: nothing yet; not here; here. all_none, all-next, all-not likewise
--     all-at, tested                  a rule shown once by a computed test: it holds at each entry of a list; of each number below n
-- Assumes nothing.
use mathlib.Core.Path.{◌≡◌, refl, sym, ap, ap₂, ◌∙◌}
use mathlib.Core.Bool.{Bool, true, false, ◌&&◌, ◌||◌, and-true, and-false, false-and, and_assoc, or-false, or-true, true-or, or_assoc}
use mathlib.Core.Logic.{⊎_elim}
use native.Mathlib.Decide.{ℕ_discrete, le_ind}
use native.Mathlib.Nat.{eq-or-lt_of_le}
use mathlib.Core.List.{List, [], ◌∷◌, ◌++◌, map, map-append}
use Prim.Native.Nat.{ℕ, zero, suc, ◌+◌, ◌≤◌, ◌<◌}
use native.Mathlib.Numerals.{add-one}
use native.Mathlib.Omega.{arith}
use lib.ListN.{length, take, drop, get_or, set, length-append, drop_of_length-le, get_or-append}
use lib.Seq.{drop-cons, get_or_at, take_all, take-append-le, take-suc-set, ext_get_or}
use Rattle.laws.specs.Lists.{table, any, all}
use Rattle.laws.proofs.Tests.{and_left, and_right}

module _ {A : Type 0} where
  pub table_more : (n : ℕ) (f : ℕ → A) → table (n + 1) f ≡ table n f ++ (f n ∷ [])
  unfolding table
  table_more n f = rw add-one

  -- a table depends only on what stands below its length
  pub table-cong : (n : ℕ) (f g : ℕ → A) → ((k : ℕ) → k < n → f k ≡ g k) → table n f ≡ table n g
  unfolding table
  table-cong zero f g h = refl
  table-cong (suc n) f g h = rw (table-cong n f g (λ k b. h k (omega arith)), h n (omega arith))

  -- one element more at the end
  pub any-more : (p : A → Bool) (xs : List A) (x : A) → any p (xs ++ (x ∷ [])) ≡ (any p xs || p x)
  unfolding any
  any-more p [] x = or-false (p x)
  any-more p (y ∷ xs) x = ap (λ (b : Bool). p y || b) (any-more p xs x) ∙ sym (or_assoc (p y) (any p xs) (p x))

  pub all_more : (p : A → Bool) (xs : List A) (x : A) → all p (xs ++ (x ∷ [])) ≡ (all p xs && p x)
  unfolding all
  all_more p [] x = and-true (p x)
  all_more p (y ∷ xs) x = ap (λ (b : Bool). p y && b) (all_more p xs x) ∙ sym (and_assoc (p y) (all p xs) (p x))

  pub all_append : (p : A → Bool) (xs ys : List A) → all p (xs ++ ys) ≡ (all p xs && all p ys)
  unfolding all
  all_append p [] ys = refl
  all_append p (x ∷ xs) ys = ap (λ (b : Bool). p x && b) (all_append p xs ys) ∙ sym (and_assoc (p x) (all p xs) (all p ys))

  -- what passes a test passes a weaker one
  pub all_weaker : (p q : A → Bool) → ((x : A) → p x ≡ true → q x ≡ true) → (xs : List A) → all p xs ≡ true → all q xs ≡ true
  unfolding all
  all_weaker p q h [] e = refl
  all_weaker p q h (x ∷ xs) e = rw (h x (and_left (p x) (all p xs) e)) (all_weaker p q h xs (and_right (p x) (all p xs) e))

  -- a search through a table: nothing yet; not here; here; nor anywhere further on
  pub any_none : (p : A → Bool) (f : ℕ → A) → any p (table 0 f) ≡ false
  unfolding any table
  any_none p f = refl

  pub any_next : (p : A → Bool) (n : ℕ) (f : ℕ → A) → any p (table n f) ≡ false → p (f n) ≡ false → any p (table (n + 1) f) ≡ false
  any_next p n f h k = ap (any p) (table_more n f) ∙ any-more p (table n f) (f n) ∙ rw (h, k)

  pub any-stops : (p : A → Bool) (n k : ℕ) (f : ℕ → A) → n ≤ k → any p (table n f) ≡ false → ((i : ℕ) → n ≤ i → i < k → p (f i) ≡ false) → any p (table k f) ≡ false
  any-stops p n zero f h e none = rw (← (let z : n ≡ 0 = omega arith in z)) e
  any-stops p n (suc k) f h e none =
      ⊎_elim
      (λ (q : n ≡ suc k). rw (← q) e)
      (λ (q : n < suc k). rw (← (add-one k)) (any_next p k f (any-stops p n k f (omega arith) e (λ i a b. none i a (omega arith))) (none k (omega arith) (omega arith))))
      (eq-or-lt_of_le h)

  pub any_here : (p : A → Bool) (n i : ℕ) (f : ℕ → A) → i < n → p (f i) ≡ true → any p (table n f) ≡ true
  unfolding table
  any_here p zero i f h k = absurd (omega arith)
  any_here p (suc n) i f h k =
      any-more p (table n f) (f n)
      ∙ elim (ℕ_discrete i n) [
        | yes e ↦ rw (← e, k) (or-true (any p (table i f)))
        | no ne ↦ rw (any_here p n i f (omega arith) k) (true-or (p (f n)))
      ]

  -- the same for a test of each element
  pub all_none : (p : A → Bool) (f : ℕ → A) → all p (table 0 f) ≡ true
  unfolding all table
  all_none p f = refl

  pub all-next : (p : A → Bool) (n : ℕ) (f : ℕ → A) → all p (table n f) ≡ true → p (f n) ≡ true → all p (table (n + 1) f) ≡ true
  all-next p n f h k = ap (all p) (table_more n f) ∙ all_more p (table n f) (f n) ∙ rw (h, k)

  pub all-not : (p : A → Bool) (n i : ℕ) (f : ℕ → A) → i < n → p (f i) ≡ false → all p (table n f) ≡ false
  unfolding table
  all-not p zero i f h k = absurd (omega arith)
  all-not p (suc n) i f h k =
      all_more p (table n f) (f n)
      ∙ elim (ℕ_discrete i n) [
        | yes e ↦ rw (← e, k) (and-false (all p (table i f)))
        | no ne ↦ rw (all-not p n i f (omega arith) k) (false-and (p (f n)))
      ]

-- a test that fails at k and cannot come back fails at each n from k on
pub stays-false : (P : ℕ → Bool) → ((k : ℕ) → P k ≡ false → P (k + 1) ≡ false) → (k n : ℕ) → k ≤ n → P k ≡ false → P n ≡ false
stays-false P step k n h e = le_ind (λ (m : ℕ). P m ≡ false) e (λ m g q. rw (← (add-one m)) (step m q)) n h

module _ {A : Type 0} where
  pub length-table : (n : ℕ) (f : ℕ → A) → length (table n f) ≡ n
  unfolding table
  length-table zero f = refl
  length-table (suc n) f = length-append (table n f) (f n ∷ []) ∙ omega (arith, length-table n f)

  pub get_or-table : (n i : ℕ) (f : ℕ → A) (d : A) → i < n → get_or (table n f) i d ≡ f i
  unfolding table
  get_or-table zero i f d h = absurd (omega arith)
  get_or-table (suc n) i f d h = elim (ℕ_discrete i n) [
    | yes e ↦ get_or_at (table n f) (f n) [] d i (length-table n f ∙ sym e) ∙ ap f (sym e)
    | no ne ↦ get_or-append (table n f) (f n ∷ []) d i (omega (arith, length-table n f)) ∙ get_or-table n i f d (omega arith)
  ]

  -- a table with its first i elements taken away
  pub drop-table : (n i : ℕ) (f : ℕ → A) → i < n → drop i (table n f) ≡ f i ∷ drop (i + 1) (table n f)
  drop-table n i f h =
      drop-cons (table n f) i (f i) (omega (arith, length-table n f))
      ∙ rw (get_or-table n i f (f i) h, add-one)

  pub drop-none : (n i : ℕ) (f : ℕ → A) → n ≤ i → drop i (table n f) ≡ []
  drop-none n i f h = drop_of_length-le (table n f) {i = i} (omega (arith, length-table n f))

  -- the first elements of a table
  pub take-table : (n m : ℕ) (f : ℕ → A) → n ≤ m → take n (table m f) ≡ table n f
  unfolding table
  take-table n zero f h = let e : n ≡ 0 = omega arith in rw e
  take-table n (suc m) f h = elim (ℕ_discrete n (suc m)) [
    | yes e ↦ rw e (take_all (suc m) (table m f ++ (f m ∷ [])) (omega (arith, length-append (table m f) (f m ∷ []), length-table m f)))
    | no ne ↦ take-append-le n (table m f) (f m ∷ []) (omega (arith, length-table m f)) ∙ take-table n m f (omega arith)
  ]

  -- a loop that lays a table down in a list, one element a turn
  pub lay-none : (f : ℕ → A) (xs : List A) → take 0 xs ≡ table 0 f
  unfolding table
  lay-none f xs = refl

  pub lay-next : (f : ℕ → A) (xs : List A) (i : ℕ) (v : A) → i < length xs → v ≡ f i → take i xs ≡ table i f → take (i + 1) (set xs i v) ≡ table (i + 1) f
  lay-next f xs i v h e inv =
      ap (λ (j : ℕ). take j (set xs i v)) (add-one i)
      ∙ take-suc-set xs i v h
      ∙ ap₂ (λ (l : List A) (x : A). l ++ (x ∷ [])) inv e
      ∙ sym (table_more i f)

  -- a list is the table of its elements
  pub table-self : (l : List A) (d : A) (n : ℕ) → length l ≡ n → table n (λ (i : ℕ). get_or l i d) ≡ l
  table-self l d n e =
      ext_get_or d (table n (λ (i : ℕ). get_or l i d)) l (length-table n (λ (i : ℕ). get_or l i d) ∙ sym e)
      (λ i h. get_or-table n i (λ (i : ℕ). get_or l i d) d (omega (arith, length-table n (λ (i : ℕ). get_or l i d))))

  -- what passes at each index passes in the table
  pub all-each : (p : A → Bool) (n : ℕ) (f : ℕ → A) → ((i : ℕ) → i < n → p (f i) ≡ true) → all p (table n f) ≡ true
  all-each p zero f h = all_none p f
  all-each p (suc n) f h = rw (← add-one n) (all-next p n f (all-each p n f (λ i b. h i (omega arith))) (h n (omega arith)))

  -- what a function makes of a table
  pub map-table : {B : Type 0} (g : A → B) (n : ℕ) (f : ℕ → A) → map g (table n f) ≡ table n (λ (i : ℕ). g (f i))
  unfolding table
  map-table g zero f = refl
  map-table {B} g (suc n) f = map-append g (table n f) (f n ∷ []) ∙ ap (λ (l : List B). l ++ (g (f n) ∷ [])) (map-table g n f)

  -- ---- a rule shown once, by a test that is computed
  -- what passes at each entry passes at this one
  pub all-at : (p : A → Bool) (l : List A) (i : ℕ) (d : A) → all p l ≡ true → i < length l → p (get_or l i d) ≡ true
  unfolding all
  all-at p [] i d t h = absurd (omega arith)
  all-at p (x ∷ l) zero d t h = and_left (p x) (all p l) t
  all-at p (x ∷ l) (suc i) d t h = all-at p l i d (and_right (p x) (all p l) t) (omega arith)

-- a test of each number below n
pub tested : (p : ℕ → Bool) (n : ℕ) → all p (table n (λ (i : ℕ). i)) ≡ true → (k : ℕ) → k < n → p k ≡ true
tested p n t k h =
    ap p (sym (get_or-table n k (λ (i : ℕ). i) 0 h))
    ∙ all-at p (table n (λ (i : ℕ). i)) k 0 t (omega (arith, length-table n (λ (i : ℕ). i)))
