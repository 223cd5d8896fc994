-- Lists of anything: what passes a test, members, permutations, lists side by side. Assumes nothing.
use mathlib.Core.Path.{◌≡◌, refl, sym, ap, ◌∙◌}
use mathlib.Core.Logic.{⊎_elim}
use mathlib.Core.Bool.{Bool, true, false, cond, not, ◌&&◌, ◌||◌, true≢false}
use mathlib.Core.List.Memᴰ
use mathlib.Core.List.Permᴰ
use mathlib.Core.List.{List, [], ◌∷◌, ◌++◌, append-nil, append_assoc, map, flat_map, zip_with, Memᴰ, Permᴰ}
use Prim.Native.Nat.{ℕ, zero, suc, ◌+◌, ◌≤◌, ◌<◌}
use native.Mathlib.Omega.{arith}
use lib.ListN.{length, get_or, take, drop, length-append}
use Rattle.laws.specs.Lists.{table, keep, any, all, total}
use Rattle.laws.proofs.Tests.{and_left, and_right, or_left, or_right, or-exchange}

module _ {A : Type 0} where
  pub keep-yes : (p : A → Bool) (x : A) (xs : List A) → p x ≡ true → keep p (x ∷ xs) ≡ x ∷ keep p xs
  unfolding keep
  keep-yes p x xs e = rw e

  pub keep-no : (p : A → Bool) (x : A) (xs : List A) → p x ≡ false → keep p (x ∷ xs) ≡ keep p xs
  unfolding keep
  keep-no p x xs e = rw e

  pub keep_append : (p : A → Bool) (xs ys : List A) → keep p (xs ++ ys) ≡ keep p xs ++ keep p ys
  unfolding keep
  keep_append p [] ys = refl
  keep_append p (x ∷ xs) ys = go (p x) (keep_append p xs ys)
    where
      go : (t : Bool) → keep p (xs ++ ys) ≡ keep p xs ++ keep p ys → cond t (x ∷ keep p (xs ++ ys)) (keep p (xs ++ ys)) ≡ cond t (x ∷ keep p xs) (keep p xs) ++ keep p ys
      go true ih = ap (λ (l : List A). x ∷ l) ih
      go false ih = ih

  -- one more element at the end
  pub keep-end-yes : (p : A → Bool) (l : List A) (x : A) → p x ≡ true → keep p (l ++ (x ∷ [])) ≡ keep p l ++ (x ∷ [])
  unfolding keep
  keep-end-yes p l x e = keep_append p l (x ∷ []) ∙ rw e

  pub keep-end-no : (p : A → Bool) (l : List A) (x : A) → p x ≡ false → keep p (l ++ (x ∷ [])) ≡ keep p l
  unfolding keep
  keep-end-no p l x e = keep_append p l (x ∷ []) ∙ rw e (append-nil (keep p l))

  -- how many are kept: one more, or no more
  pub length-keep-end : (p : A → Bool) (l : List A) (x : A) → length (keep p (l ++ (x ∷ []))) ≡ length (keep p l) + cond (p x) 1 0
  length-keep-end p l x = go (p x) refl
    where
      go : (t : Bool) → p x ≡ t → length (keep p (l ++ (x ∷ []))) ≡ length (keep p l) + cond t 1 0
      go true e = ap length (keep-end-yes p l x e) ∙ length-append (keep p l) (x ∷ [])
      go false e = ap length (keep-end-no p l x e) ∙ omega arith

  -- nothing is kept of a list of which no element passes
  pub keep-none : (p : A → Bool) (l : List A) → ((y : A) → Memᴰ y l → p y ≡ false) → keep p l ≡ []
  keep-none p [] h = unfold keep in refl
  keep-none p (x ∷ l) h = keep-no p x l (h x (Memᴰ.head refl)) ∙ keep-none p l (λ y m. h y (Memᴰ.tail m))

  -- all is kept of a list of which each element passes
  pub keep_all : (p : A → Bool) (l : List A) → ((y : A) → Memᴰ y l → p y ≡ true) → keep p l ≡ l
  keep_all p [] h = unfold keep in refl
  keep_all p (x ∷ l) h = keep-yes p x l (h x (Memᴰ.head refl)) ∙ ap (λ (r : List A). x ∷ r) (keep_all p l (λ y m. h y (Memᴰ.tail m)))

  -- two tests that agree on the elements
  pub keep_same : (p q : A → Bool) (l : List A) → ((y : A) → Memᴰ y l → p y ≡ q y) → keep p l ≡ keep q l
  unfolding keep
  keep_same p q [] h = refl
  keep_same p q (x ∷ l) h = λ k. cond (h x (Memᴰ.head refl) k) (x ∷ keep_same p q l (λ y m. h y (Memᴰ.tail m)) k) (keep_same p q l (λ y m. h y (Memᴰ.tail m)) k)

  -- no more pass than there are
  pub keep-at-most : (p : A → Bool) (l : List A) → length (keep p l) ≤ length l
  unfolding keep
  keep-at-most p [] = omega arith
  keep-at-most p (x ∷ l) = go (p x) (keep-at-most p l)
    where
      go : (t : Bool) → length (keep p l) ≤ length l → length (cond t (x ∷ keep p l) (keep p l)) ≤ suc (length l)
      go true ih = omega arith
      go false ih = omega arith

  -- what passes one of two tests that no element passes both of
  pub length-either : (p q : A → Bool) → ((x : A) → p x ≡ true → q x ≡ false) → (l : List A) → length (keep (λ (x : A). p x || q x) l) ≡ length (keep p l) + length (keep q l)
  unfolding keep
  length-either p q h [] = refl
  length-either p q h (x ∷ l) = go (p x) (q x) refl refl (length-either p q h l)
    where
      go : (s t : Bool) → p x ≡ s → q x ≡ t → length (keep (λ (x : A). p x || q x) l) ≡ length (keep p l) + length (keep q l) → length (cond (s || t) (x ∷ keep (λ (x : A). p x || q x) l) (keep (λ (x : A). p x || q x) l)) ≡ length (cond s (x ∷ keep p l) (keep p l)) + length (cond t (x ∷ keep q l) (keep q l))
      go true true e f ih = absurd (true≢false (sym f ∙ h x e))
      go true false e f ih = omega arith
      go false true e f ih = omega arith
      go false false e f ih = ih

  pub keep-both : (p q : A → Bool) (l : List A) → keep p (keep q l) ≡ keep (λ (x : A). p x && q x) l
  unfolding keep
  keep-both p q [] = refl
  keep-both p q (x ∷ l) = go (p x) (q x) refl (keep-both p q l)
    where
      go : (s t : Bool) → p x ≡ s → keep p (keep q l) ≡ keep (λ (x : A). p x && q x) l → keep p (cond t (x ∷ keep q l) (keep q l)) ≡ cond (s && t) (x ∷ keep (λ (x : A). p x && q x) l) (keep (λ (x : A). p x && q x) l)
      go true true e ih = rw e (ap (λ (r : List A). x ∷ r) ih)
      go true false e ih = ih
      go false true e ih = rw e ih
      go false false e ih = ih

  -- ---- members
  pub mem_below : {a : A} (n : ℕ) (f : ℕ → A) → Memᴰ a (table n f) → (i : ℕ) × (i < n) × (a ≡ f i)
  unfolding table
  mem_below zero f m = absurd (Memᴰ.not-nil m)
  mem_below {a = a} (suc n) f m =
      ⊎_elim (λ k. let w = mem_below {a = a} n f k in (w.0, omega (arith, w.1), w.2)) (λ k. (n, omega arith, Memᴰ.eq_of_singleton k))
      (Memᴰ.append_cases (table n f) m)

  pub mem-table : {a : A} (n : ℕ) (f : ℕ → A) → Memᴰ a (table n f) → (i : ℕ) × (a ≡ f i)
  mem-table n f m = let w = mem_below n f m in (w.0, w.2)

  pub mem-keep : {a : A} (p : A → Bool) (l : List A) → Memᴰ a (keep p l) → Memᴰ a l
  unfolding keep
  mem-keep p [] m = m
  mem-keep {a} p (x ∷ l) m = go (p x) m (mem-keep p l)
    where
      go : (t : Bool) → Memᴰ a (cond t (x ∷ keep p l) (keep p l)) → (Memᴰ a (keep p l) → Memᴰ a l) → Memᴰ a (x ∷ l)
      go true k ih = ⊎_elim Memᴰ.head (λ j. Memᴰ.tail (ih j)) (Memᴰ.cases_cons k)
      go false k ih = Memᴰ.tail (ih k)

  pub keep-passes : {a : A} (p : A → Bool) (l : List A) → Memᴰ a (keep p l) → p a ≡ true
  unfolding keep
  keep-passes p [] m = absurd (Memᴰ.not-nil m)
  keep-passes {a} p (x ∷ l) m = go (p x) refl m (keep-passes p l)
    where
      go : (t : Bool) → p x ≡ t → Memᴰ a (cond t (x ∷ keep p l) (keep p l)) → (Memᴰ a (keep p l) → p a ≡ true) → p a ≡ true
      go true e k ih = ⊎_elim (λ q. ap p q ∙ e) ih (Memᴰ.cases_cons k)
      go false e k ih = ih k

  pub keep-mem : {a : A} (p : A → Bool) {l : List A} → Memᴰ a l → p a ≡ true → Memᴰ a (keep p l)
  keep-mem p (Memᴰ.head {x = x} {xs = l} q) e = rw (keep-yes p x l (ap p (sym q) ∙ e)) (Memᴰ.head q)
  keep-mem {a} p (Memᴰ.tail {x = x} {xs = l} m) e = go (p x) refl (keep-mem p m e)
    where
      go : (t : Bool) → p x ≡ t → Memᴰ a (keep p l) → Memᴰ a (keep p (x ∷ l))
      go true f ih = rw (keep-yes p x l f) (Memᴰ.tail ih)
      go false f ih = rw (keep-no p x l f) ih

  -- where no element passes, this one does not
  pub any-no : {a : A} (p : A → Bool) (l : List A) → any p l ≡ false → Memᴰ a l → p a ≡ false
  unfolding any
  any-no p [] h m = absurd (Memᴰ.not-nil m)
  any-no {a} p (x ∷ l) h m = go (p x) refl h (any-no p l)
    where
      go : (t : Bool) → p x ≡ t → (t || any p l) ≡ false → (any p l ≡ false → Memᴰ a l → p a ≡ false) → p a ≡ false
      go true e h ih = cc
      go false e h ih = ⊎_elim (λ q. ap p q ∙ e) (ih h) (Memᴰ.cases_cons m)

  -- where none of two lists together passes, none of the first does
  pub none-in-front : (p : A → Bool) (a b : List A) → any p (a ++ b) ≡ false → any p a ≡ false
  unfolding any
  none-in-front p [] b h = refl
  none-in-front p (x ∷ a) b h = rw (or_left (p x) (any p (a ++ b)) h) (none-in-front p a b (or_right (p x) (any p (a ++ b)) h))

  -- wherever an element is put in, it is tested with the others
  pub any-put-in : (p : A → Bool) (x : A) (n : ℕ) (l : List A) → any p (take n l ++ (x ∷ drop n l)) ≡ (p x || any p l)
  unfolding any
  any-put-in p x zero l = refl
  any-put-in p x (suc n) [] = refl
  any-put-in p x (suc n) (y ∷ l) = ap (λ (b : Bool). p y || b) (any-put-in p x n l) ∙ or-exchange (p y) (p x) (any p l)

  -- where each element passes, this one does
  pub all-mem : {a : A} (p : A → Bool) (l : List A) → all p l ≡ true → Memᴰ a l → p a ≡ true
  unfolding all
  all-mem p [] e m = absurd (Memᴰ.not-nil m)
  all-mem p (x ∷ l) e (Memᴰ.head q) = ap p q ∙ and_left (p x) (all p l) e
  all-mem p (x ∷ l) e (Memᴰ.tail m) = all-mem p l (and_right (p x) (all p l) e) m

  -- the first elements are elements
  pub mem-take : {a : A} (n : ℕ) (l : List A) → Memᴰ a (take n l) → Memᴰ a l
  mem-take zero l m = absurd (Memᴰ.not-nil m)
  mem-take (suc n) [] m = m
  mem-take (suc n) (x ∷ l) (Memᴰ.head e) = Memᴰ.head e
  mem-take (suc n) (x ∷ l) (Memᴰ.tail m) = Memᴰ.tail (mem-take n l m)

  -- the elements of a permutation are those of the list
  pub mem-perm : {a : A} {l m : List A} → Permᴰ l m → Memᴰ a m → Memᴰ a l
  mem-perm Permᴰ.nil k = k
  mem-perm (Permᴰ.cons e d) (Memᴰ.head p) = Memᴰ.head (p ∙ sym e)
  mem-perm (Permᴰ.cons e d) (Memᴰ.tail k) = Memᴰ.tail (mem-perm d k)
  mem-perm (Permᴰ.swap e f) (Memᴰ.head p) = Memᴰ.tail (Memᴰ.head (p ∙ sym f))
  mem-perm (Permᴰ.swap e f) (Memᴰ.tail (Memᴰ.head p)) = Memᴰ.head (p ∙ sym e)
  mem-perm (Permᴰ.swap e f) (Memᴰ.tail (Memᴰ.tail k)) = Memᴰ.tail (Memᴰ.tail k)
  mem-perm (Permᴰ.trans d e) k = mem-perm d (mem-perm e k)

  pub perm-length : {l m : List A} → Permᴰ l m → length l ≡ length m
  perm-length Permᴰ.nil = refl
  perm-length (Permᴰ.cons e d) = ap suc (perm-length d)
  perm-length (Permᴰ.swap e f) = refl
  perm-length (Permᴰ.trans d e) = perm-length d ∙ perm-length e

  pub keep-perm : (p : A → Bool) {l m : List A} → Permᴰ l m → Permᴰ (keep p l) (keep p m)
  unfolding keep
  keep-perm p Permᴰ.nil = Permᴰ.nil
  keep-perm p (Permᴰ.cons {a = a} {b = b} {l₁ = l} {l₂ = m} e d) = rw (← ap p e) (go (p a) (keep-perm p d))
    where
      go : (t : Bool) → Permᴰ (keep p l) (keep p m) → Permᴰ (cond t (a ∷ keep p l) (keep p l)) (cond t (b ∷ keep p m) (keep p m))
      go true ih = Permᴰ.cons e ih
      go false ih = ih
  keep-perm p (Permᴰ.swap {a = a} {b = b} {a' = a'} {b' = b'} {l = l} e f) = rw (← ap p e, ← ap p f) (go (p a) (p b) (keep p l))
    where
      go : (s t : Bool) (k : List A) → Permᴰ (cond s (a ∷ cond t (b ∷ k) k) (cond t (b ∷ k) k)) (cond t (a' ∷ cond s (b' ∷ k) k) (cond s (b' ∷ k) k))
      go true true k = Permᴰ.swap e f
      go true false k = Permᴰ.cons e (Permᴰ.refl k)
      go false true k = Permᴰ.cons f (Permᴰ.refl k)
      go false false k = Permᴰ.refl k
  keep-perm p (Permᴰ.trans d e) = Permᴰ.trans (keep-perm p d) (keep-perm p e)

  -- what passes and what does not, together
  pub parts-perm : (p : A → Bool) (l : List A) → Permᴰ (keep p l ++ keep (λ (x : A). not (p x)) l) l
  unfolding keep
  parts-perm p [] = Permᴰ.nil
  parts-perm p (x ∷ l) = go (p x) (parts-perm p l)
    where
      go : (t : Bool) → Permᴰ (keep p l ++ keep (λ (x : A). not (p x)) l) l → Permᴰ (cond t (x ∷ keep p l) (keep p l) ++ cond (not t) (x ∷ keep (λ (x : A). not (p x)) l) (keep (λ (x : A). not (p x)) l)) (x ∷ l)
      go true ih = Permᴰ.cons refl ih
      go false ih = Permᴰ.trans (Permᴰ.middle x (keep p l) (keep (λ (x : A). not (p x)) l)) (Permᴰ.cons refl ih)

  -- a sum with one element more
  pub total-end : (f : A → ℕ) (l : List A) (x : A) → total f (l ++ (x ∷ [])) ≡ total f l + f x
  unfolding total
  total-end f [] x = omega arith
  total-end f (y ∷ l) x = omega (arith, total-end f l x)

  pub total-append : (f : A → ℕ) (l m : List A) → total f (l ++ m) ≡ total f l + total f m
  unfolding total
  total-append f [] m = omega arith
  total-append f (x ∷ l) m = omega (arith, total-append f l m)

  -- and of one element of a list
  pub total-mem : {a : A} (f : A → ℕ) (l : List A) → Memᴰ a l → f a ≤ total f l
  unfolding total
  total-mem f [] m = absurd (Memᴰ.not-nil m)
  total-mem f (x ∷ l) (Memᴰ.head q) = rw q (omega arith)
  total-mem f (x ∷ l) (Memᴰ.tail m) = omega (arith, total-mem f l m)

  -- two lists in front change places
  perm-front : (a b l : List A) → Permᴰ (a ++ (b ++ l)) (b ++ (a ++ l))
  perm-front [] b l = Permᴰ.refl (b ++ l)
  perm-front (x ∷ a) b l = Permᴰ.trans (Permᴰ.cons refl (perm-front a b l)) (Permᴰ.symm (Permᴰ.middle x b (a ++ l)))

module _ {A B : Type 0} where
  pub flat_append : (f : A → List B) (l m : List A) → flat_map f (l ++ m) ≡ flat_map f l ++ flat_map f m
  unfolding flat_map
  flat_append f [] m = refl
  flat_append f (x ∷ l) m = ap (λ (r : List B). f x ++ r) (flat_append f l m) ∙ sym (append_assoc (f x) (flat_map f l) (flat_map f m))

  pub keep-map : (f : A → B) (p : B → Bool) (q : A → Bool) (l : List A) → ((x : A) → Memᴰ x l → q x ≡ p (f x)) → map f (keep q l) ≡ keep p (map f l)
  unfolding keep
  keep-map f p q [] h = refl
  keep-map f p q (x ∷ l) h = rw (← h x (Memᴰ.head refl)) (go (q x) (keep-map f p q l (λ y m. h y (Memᴰ.tail m))))
    where
      go : (t : Bool) → map f (keep q l) ≡ keep p (map f l) → map f (cond t (x ∷ keep q l) (keep q l)) ≡ cond t (f x ∷ keep p (map f l)) (keep p (map f l))
      go true ih = ap (λ (r : List B). f x ∷ r) ih
      go false ih = ih

  pub mem-flat : {b : B} (f : A → List B) (l : List A) → Memᴰ b (flat_map f l) → (a : A) × Memᴰ a l × Memᴰ b (f a)
  unfolding flat_map
  mem-flat f [] m = absurd (Memᴰ.not-nil m)
  mem-flat {b} f (x ∷ l) m = ⊎_elim (λ k. (x, Memᴰ.head refl, k)) (λ k. let r = mem-flat f l k in (r.0, Memᴰ.tail r.1, r.2)) (Memᴰ.append_cases (f x) m)

  pub flat-perm : (f : A → List B) {l m : List A} → Permᴰ l m → Permᴰ (flat_map f l) (flat_map f m)
  unfolding flat_map
  flat-perm f Permᴰ.nil = Permᴰ.nil
  flat-perm f (Permᴰ.cons {a = a} {l₂ = m} e d) = rw (← e) (Permᴰ.append_left (f a) (flat-perm f d))
  flat-perm f (Permᴰ.swap {a = a} {b = b} {l = l} e₁ e₂) = rw (← e₁, ← e₂) (perm-front (f a) (f b) (flat_map f l))
  flat-perm f (Permᴰ.trans d e) = Permᴰ.trans (flat-perm f d) (flat-perm f e)

  -- an element that comes of two lists side by side, the second of which is a map of the first
  pub zip-map : {C : Type 0} (f : A → B → C) (g : A → B) (h : A → C) → ((a : A) → f a (g a) ≡ h a) → (l : List A) → zip_with f l (map g l) ≡ map h l
  unfolding zip_with
  zip-map f g h e [] = refl
  zip-map f g h e (x ∷ l) = (λ k. e x k ∷ zip-map f g h e l k)

  pub zip-at : {C : Type 0} (f : A → B → C) (l : List A) (m : List B) (i : ℕ) (a : A) (b : B) (c : C) → i < length l → i < length m → get_or (zip_with f l m) i c ≡ f (get_or l i a) (get_or m i b)
  unfolding zip_with
  zip-at f [] m i a b c h k = absurd (omega arith)
  zip-at f (x ∷ l) [] i a b c h k = absurd (omega arith)
  zip-at f (x ∷ l) (y ∷ m) zero a b c h k = refl
  zip-at f (x ∷ l) (y ∷ m) (suc i) a b c h k = zip-at f l m i a b c (omega arith) (omega arith)

  pub length-zip : {C : Type 0} (f : A → B → C) (l : List A) (m : List B) → length l ≡ length m → length (zip_with f l m) ≡ length l
  unfolding zip_with
  length-zip f [] m e = refl
  length-zip f (x ∷ l) [] e = absurd (omega arith)
  length-zip f (x ∷ l) (y ∷ m) e = ap suc (length-zip f l m (omega arith))
