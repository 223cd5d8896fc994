-- How many numbers are below a key. Assumes nothing.
--     below-past, below-here    of numbers in order: one that is below the key stands before that place, one that is not stands behind it
--     parted, below-point       std's search by halves finds that place
--     below-rise                from one key to a higher one: those between them
--     between                   of numbers in order: those between two keys are one part
use mathlib.Core.Path.{◌≡◌, refl, sym, ap, ap₂, ◌∙◌}
use mathlib.Core.Logic.{⊎_elim}
use mathlib.Core.Bool.{Bool, true, false, not, ◌&&◌}
use mathlib.Core.List.{List, [], ◌∷◌, ◌++◌, Memᴰ}
use Prim.Native.Nat.{ℕ, zero, suc, ◌+◌, ◌-◌, ◌≤◌, ◌<◌}
use native.Mathlib.Nat.{le_trans}
use native.Mathlib.Omega.{arith}
use borrow.Author.Tests.{leb-true, lt-leb, ltb-true, ltb-false, lt-ltb, le-ltb}
use lib.Dec.{leb, ltb}
use lib.ListN.{length, take, drop, get_or, length-append}
use lib.Seq.{take_at, drop_at}
use Rattle.std.specs.List.{AllWithin}
use Rattle.std.specs.List.Sorted.{IsPartitionedBy, IsPartitionPoint}
use Rattle.std.proofs.lemmas.List.Sorted.{IsPartitionedBy-ltb}
use Rattle.laws.specs.Lists.{keep}
use Rattle.laws.specs.Order.{sorted, Below, Ordered}
use Rattle.laws.proofs.Tests.{le-or-lt}
use Rattle.laws.proofs.Lists.{keep-yes, keep-no, keep-none, keep_all, keep_append, keep-passes, keep-both, keep-at-most}
use Rattle.laws.proofs.Order.{keep-in_order, in_order-parts, in_order-ordered, length-in_order, mem-in_order}
use Rattle.laws.proofs.Sorting.{non_decreasing}
use Rattle.laws.proofs.ByKey.{by_number}
use Rattle.order.specs.groups.Groups.{below}

-- what is the same once sorted is in order
pub sorted-ordered : (l : List ℕ) → sorted l ≡ l → Ordered leb l
sorted-ordered l e = rw e at (in_order-ordered leb by_number l)

pub below-most : (key : ℕ) (l : List ℕ) → below key l ≤ length l
unfolding below
below-most key l = keep-at-most (λ (x : ℕ). ltb x key) l

below-yes : (key x : ℕ) (l : List ℕ) → x < key → below key (x ∷ l) ≡ suc (below key l)
unfolding below
below-yes key x l h = ap length (keep-yes (λ (x : ℕ). ltb x key) x l (lt-ltb x key h))

below_none : (key x : ℕ) (l : List ℕ) → key ≤ x → Below leb x l → below key (x ∷ l) ≡ 0
unfolding below keep
below_none key x l h o =
    ap length (keep-no (λ (x : ℕ). ltb x key) x l (le-ltb x key h) ∙ keep-none (λ (x : ℕ). ltb x key) l (λ y m. le-ltb y key (le_trans h (leb-true x y (o y m)))))

mem-at : (l : List ℕ) (i : ℕ) → i < length l → Memᴰ (get_or l i 0) l
mem-at [] i h = absurd (omega arith)
mem-at (x ∷ l) zero h = Memᴰ.head refl
mem-at (x ∷ l) (suc i) h = Memᴰ.tail (mem-at l i (omega arith))

-- ---- the turns of a search
module _ (key : ℕ) where
  pub below-past : (l : List ℕ) → Ordered leb l → (i : ℕ) → i < length l → get_or l i 0 < key → suc i ≤ below key l
  below-past [] o i h k = absurd (omega arith)
  below-past (x ∷ l) o zero h k = omega (arith, below-yes key x l k)
  below-past (x ∷ l) o (suc i) h k =
      let up : x ≤ get_or l i 0 = leb-true x (get_or l i 0) (o.0 (get_or l i 0) (mem-at l i (omega arith))) in
      omega (arith, below-yes key x l (omega arith), below-past l o.1 i (omega arith) k)

  pub below-here : (l : List ℕ) → Ordered leb l → (i : ℕ) → i < length l → key ≤ get_or l i 0 → below key l ≤ i
  below-here [] o i h k = absurd (omega arith)
  below-here (x ∷ l) o zero h k = omega (arith, below_none key x l k o.0)
  below-here (x ∷ l) o (suc i) h k = ⊎_elim (λ (m : key ≤ x). omega (arith, below_none key x l m o.0)) (λ (m : x < key). omega (arith, below-yes key x l m, below-here l o.1 i (omega arith) k)) (le-or-lt key x)

-- std's search by halves, of numbers in order
module _ (key : ℕ) (l : List ℕ) (o : sorted l ≡ l) where
  pub parted : IsPartitionedBy (λ (x : ℕ). ltb x key) l
  parted = IsPartitionedBy-ltb (λ (x : ℕ). x) l key (non_decreasing l (sorted-ordered l o))

  pub below-point : (i : ℕ) → i ≤ length l → IsPartitionPoint (λ (x : ℕ). ltb x key ≡ true) (λ (x : ℕ). ltb x key ≡ false) l i → i ≡ below key l
  below-point i h p = ⊎_elim at-end within (le-or-lt (length l) i)
    where
      low : i ≤ below key l
      low = go i h p.0
        where
          go : (n : ℕ) → n ≤ length l → AllWithin (λ (x : ℕ). ltb x key ≡ true) l 0 n → n ≤ below key l
          go zero m q = omega arith
          go (suc n) m q = below-past key l (sorted-ordered l o) n m (ltb-true (get_or l n 0) key (q n 0 (omega arith) (omega arith)))

      at-end : length l ≤ i → i ≡ below key l
      at-end m = omega (arith, low, below-most key l)

      within : i < length l → i ≡ below key l
      within m = omega (arith, low, below-here key l (sorted-ordered l o) i m (ltb-false (get_or l i 0) key (p.1 i 0 (omega arith) m)))

-- ---- between two keys
-- from a on, and below b
abbrev pub amid : ℕ → ℕ → ℕ → Bool
amid a b x = ltb x b && not (ltb x a)

module _ (a b : ℕ) (h : a ≤ b) (l : List ℕ) where
  -- the numbers in order are those below a, then the others
  parts : sorted l ≡ sorted (keep (λ (x : ℕ). ltb x a) l) ++ sorted (keep (λ (x : ℕ). not (ltb x a)) l)
  parts = in_order-parts leb by_number (λ (x : ℕ). ltb x a) (λ x y e f. lt-leb x y (omega (arith, ltb-false x a e, ltb-true y a f))) l

  below-low : below a (sorted l) ≡ length (sorted (keep (λ (x : ℕ). ltb x a) l))
  unfolding below
  below-low = ap length (keep-in_order leb by_number (λ (x : ℕ). ltb x a) l)

  -- those below a are below b
  low-low : keep (λ (x : ℕ). ltb x b) (sorted (keep (λ (x : ℕ). ltb x a) l)) ≡ sorted (keep (λ (x : ℕ). ltb x a) l)
  low-low =
      keep_all (λ (x : ℕ). ltb x b) (sorted (keep (λ (x : ℕ). ltb x a) l))
      (λ y m. lt-ltb y b (omega (arith, ltb-true y a (keep-passes (λ (x : ℕ). ltb x a) l (mem-in_order leb (keep (λ (x : ℕ). ltb x a) l) m)))))

  high : keep (λ (x : ℕ). ltb x b) (sorted (keep (λ (x : ℕ). not (ltb x a)) l)) ≡ sorted (keep (amid a b) l)
  high =
      keep-in_order leb by_number (λ (x : ℕ). ltb x b) (keep (λ (x : ℕ). not (ltb x a)) l)
      ∙ ap sorted (keep-both (λ (x : ℕ). ltb x b) (λ (x : ℕ). not (ltb x a)) l)

  below-sorted : below b (sorted l) ≡ below a (sorted l) + length (sorted (keep (amid a b) l))
  unfolding below
  below-sorted =
      ap (λ (r : List ℕ). length (keep (λ (x : ℕ). ltb x b) r)) parts
      ∙ ap length (keep_append (λ (x : ℕ). ltb x b) (sorted (keep (λ (x : ℕ). ltb x a) l)) (sorted (keep (λ (x : ℕ). not (ltb x a)) l)))
      ∙ length-append (keep (λ (x : ℕ). ltb x b) (sorted (keep (λ (x : ℕ). ltb x a) l))) (keep (λ (x : ℕ). ltb x b) (sorted (keep (λ (x : ℕ). not (ltb x a)) l)))
      ∙ ap₂ (λ (s t : List ℕ). length s + length t) (low-low ∙ sym (keep-in_order leb by_number (λ (x : ℕ). ltb x a) l)) high

  pub below-rise : below b (sorted l) ≡ below a (sorted l) + length (keep (amid a b) l)
  below-rise = below-sorted ∙ ap (λ (n : ℕ). below a (sorted l) + n) (length-in_order leb (keep (amid a b) l))

  -- of those from a on: first those below b
  rest-parts : sorted (keep (λ (x : ℕ). not (ltb x a)) l) ≡ sorted (keep (amid a b) l) ++ sorted (keep (λ (x : ℕ). not (ltb x b)) (keep (λ (x : ℕ). not (ltb x a)) l))
  rest-parts =
      in_order-parts leb by_number (λ (x : ℕ). ltb x b) (λ x y e f. lt-leb x y (omega (arith, ltb-false x b e, ltb-true y b f))) (keep (λ (x : ℕ). not (ltb x a)) l)
      ∙ ap (λ (r : List ℕ). sorted r ++ sorted (keep (λ (x : ℕ). not (ltb x b)) (keep (λ (x : ℕ). not (ltb x a)) l))) (keep-both (λ (x : ℕ). ltb x b) (λ (x : ℕ). not (ltb x a)) l)

  pub between : take (below b (sorted l) - below a (sorted l)) (drop (below a (sorted l)) (sorted l)) ≡ sorted (keep (amid a b) l)
  between =
      ap (take (below b (sorted l) - below a (sorted l))) (ap (drop (below a (sorted l))) parts ∙ drop_at (sorted (keep (λ (x : ℕ). ltb x a) l)) (sorted (keep (λ (x : ℕ). not (ltb x a)) l)) (below a (sorted l)) (sym below-low) ∙ rest-parts)
      ∙ take_at (sorted (keep (amid a b) l)) (sorted (keep (λ (x : ℕ). not (ltb x b)) (keep (λ (x : ℕ). not (ltb x a)) l))) (below b (sorted l) - below a (sorted l)) (omega (arith, below-sorted))
