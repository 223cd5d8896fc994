-- What stands where after a list was written into a list. Assumes nothing.
use mathlib.Core.Path.{◌≡◌, refl, sym, ap, ap₂, ◌∙◌}
use mathlib.Core.Logic.{◌⊎◌, inl, inr, ⊎_elim}
use mathlib.Core.List.{List, [], ◌∷◌, ◌++◌, append_assoc}
use Prim.Native.Nat.{ℕ, zero, suc, ◌+◌, ◌≤◌, ◌<◌}
use native.Mathlib.Numerals.{add-one}
use native.Mathlib.Nat.{add-zero, suc-add, zero-add}
use native.Mathlib.Omega.{arith}
use lib.ListN.{length, take, drop, get_or, set, replicate, length-append, length-set, length-drop, length-replicate, replicate-append-replicate}
use lib.Seq.{get_or-set_same, get_or-set_other, set_comm, take-set-le, drop-set-lt, length-take-le, sets, sets-eq, take_at, drop_at, take-nil, take-suc, get_or-take, get_or-drop, take-take, drop-drop}
use Rattle.laws.specs.Overlay.{overlay, part, Laid}

-- ---- no law up to the next heading asks that `ys` fits

pub length-overlay : (xs : List ℕ) (at : ℕ) (ys : List ℕ) → length (overlay xs at ys) ≡ length xs
unfolding overlay
length-overlay xs at [] = refl
length-overlay xs at (y ∷ ys) = length-overlay (set xs at y) (at + 1) ys ∙ length-set xs at y

-- what stands before the place, or from the end of what was written on, is as it was
pub overlay-before : (xs : List ℕ) (at : ℕ) (ys : List ℕ) (j : ℕ) → j < at → get_or (overlay xs at ys) j 0 ≡ get_or xs j 0
unfolding overlay
overlay-before xs at [] j h = refl
overlay-before xs at (y ∷ ys) j h =
    overlay-before (set xs at y) (at + 1) ys j (omega arith) ∙ get_or-set_other xs at j y 0 (λ e. omega arith)

pub overlay-after : (xs : List ℕ) (at : ℕ) (ys : List ℕ) (j : ℕ) → at + length ys ≤ j → get_or (overlay xs at ys) j 0 ≡ get_or xs j 0
unfolding overlay
overlay-after xs at [] j h = refl
overlay-after xs at (y ∷ ys) j h =
    overlay-after (set xs at y) (at + 1) ys j (omega arith) ∙ get_or-set_other xs at j y 0 (λ e. omega arith)

-- two lists one after the other
pub overlay-append : (xs : List ℕ) (at : ℕ) (ys zs : List ℕ) → overlay xs at (ys ++ zs) ≡ overlay (overlay xs at ys) (at + length ys) zs
unfolding overlay
overlay-append xs at [] zs = rw add-zero
overlay-append xs at (y ∷ ys) zs =
    overlay-append (set xs at y) (at + 1) ys zs ∙ ap (λ (k : ℕ). overlay (overlay (set xs at y) (at + 1) ys) k zs) (omega arith)

-- a single store and a run of stores elsewhere may change places
pub overlay-set : (xs : List ℕ) (i y at : ℕ) (ys : List ℕ) → (i < at) ⊎ (at + length ys ≤ i)
    → overlay (set xs i y) at ys ≡ set (overlay xs at ys) i y
unfolding overlay
overlay-set xs i y at [] h = refl
overlay-set xs i y at (z ∷ ys) h =
    ap (λ (l : List ℕ). overlay l (at + 1) ys) (set_comm xs i at y z (λ e. ⊎_elim (λ (g : i < at). omega arith) (λ (g : at + length (z ∷ ys) ≤ i). omega arith) h))
    ∙ overlay-set (set xs at z) i y (at + 1) ys (⊎_elim (λ (g : i < at). inl (omega arith)) (λ (g : at + length (z ∷ ys) ≤ i). inr (omega arith)) h)

-- two runs that do not touch may change places
pub overlay-comm : (xs : List ℕ) (a : ℕ) (ys : List ℕ) (b : ℕ) (zs : List ℕ) → a + length ys ≤ b
    → overlay (overlay xs a ys) b zs ≡ overlay (overlay xs b zs) a ys
unfolding overlay
overlay-comm xs a [] b zs h = refl
overlay-comm xs a (y ∷ ys) b zs h =
    overlay-comm (set xs a y) (a + 1) ys b zs (omega arith)
    ∙ ap (λ (l : List ℕ). overlay l (a + 1) ys) (overlay-set xs a y b zs (inl (omega arith)))

pub take-overlay : (n : ℕ) (xs : List ℕ) (at : ℕ) (ys : List ℕ) → n ≤ at → take n (overlay xs at ys) ≡ take n xs
unfolding overlay
take-overlay n xs at [] h = refl
take-overlay n xs at (y ∷ ys) h = take-overlay n (set xs at y) (at + 1) ys (omega arith) ∙ take-set-le n xs at y h

pub drop-overlay : (n : ℕ) (xs : List ℕ) (at : ℕ) (ys : List ℕ) → at + length ys ≤ n → drop n (overlay xs at ys) ≡ drop n xs
unfolding overlay
drop-overlay n xs at [] h = refl
drop-overlay n xs at (y ∷ ys) h =
    drop-overlay n (set xs at y) (at + 1) ys (omega arith) ∙ drop-set-lt n xs at y (omega arith)

pub take-drop : (n i : ℕ) (l : List ℕ) → drop i (take (i + n) l) ≡ take n (drop i l)
take-drop n zero l = rw zero-add
take-drop n (suc i) [] = rw (suc-add, take-nil)
take-drop n (suc i) (x ∷ l) = rw suc-add (take-drop n i l)

-- a part that ends before the run, or begins behind it, is as it was
pub part-before : (xs : List ℕ) (at : ℕ) (ys : List ℕ) (i n : ℕ) → i + n ≤ at → part (overlay xs at ys) i n ≡ part xs i n
unfolding part
part-before xs at ys i n h = sym (take-drop n i (overlay xs at ys)) ∙ ap (drop i) (take-overlay (i + n) xs at ys h) ∙ take-drop n i xs

pub part-after : (xs : List ℕ) (at : ℕ) (ys : List ℕ) (i n : ℕ) → at + length ys ≤ i → part (overlay xs at ys) i n ≡ part xs i n
unfolding part
part-after xs at ys i n h = ap (take n) (drop-overlay i xs at ys h)

-- ---- where `ys` fits

-- the run as parts of the list
pub overlay-parts : (xs : List ℕ) (at : ℕ) (ys : List ℕ) → at + length ys ≤ length xs
    → overlay xs at ys ≡ take at xs ++ ys ++ drop (at + length ys) xs
unfolding overlay
overlay-parts xs at ys h = to-sets xs at ys ∙ sets-eq ys xs at h
  where
    to-sets : (xs : List ℕ) (at : ℕ) (ys : List ℕ) → overlay xs at ys ≡ sets xs at ys
    to-sets xs at [] = refl
    to-sets xs at (y ∷ ys) = rw add-one (to-sets (set xs at y) (suc at) ys)

-- what was written is read
pub part_same : (xs : List ℕ) (at : ℕ) (ys : List ℕ) (n : ℕ) → at + length ys ≤ length xs → length ys ≡ n → part (overlay xs at ys) at n ≡ ys
unfolding part
part_same xs at ys n h e =
    ap (λ (l : List ℕ). take n (drop at l)) (overlay-parts xs at ys h ∙ append_assoc (take at xs) ys (drop (at + length ys) xs))
    ∙ ap (take n) (drop_at (take at xs) (ys ++ drop (at + length ys) xs) at (length-take-le at xs (omega arith)))
    ∙ take_at ys (drop (at + length ys) xs) n e

pub overlay-inside : (xs : List ℕ) (at : ℕ) (ys : List ℕ) (k : ℕ) → at + length ys ≤ length xs → k < length ys
    → get_or (overlay xs at ys) (at + k) 0 ≡ get_or ys k 0
unfolding overlay
overlay-inside xs at [] k h b = omega arith
overlay-inside xs at (y ∷ ys) zero h b =
    ap (λ (j : ℕ). get_or (overlay (set xs at y) (at + 1) ys) j 0) (add-zero at)
    ∙ overlay-before (set xs at y) (at + 1) ys at (omega arith)
    ∙ get_or-set_same xs at y 0 (omega arith)
overlay-inside xs at (y ∷ ys) (suc k) h b =
    ap (λ (j : ℕ). get_or (overlay (set xs at y) (at + 1) ys) j 0) (omega arith)
    ∙ overlay-inside (set xs at y) (at + 1) ys k (rw length-set (omega arith)) (omega arith)

-- ---- a turn of a loop that copies, and of one that fills

pub overlay-snoc : (xs : List ℕ) (at : ℕ) (ys : List ℕ) (y n : ℕ) → length ys ≡ n → set (overlay xs at ys) (at + n) y ≡ overlay xs at (ys ++ (y ∷ []))
unfolding overlay
overlay-snoc xs at ys y n e = ap (λ (k : ℕ). set (overlay xs at ys) (at + k) y) (sym e) ∙ sym (overlay-append xs at ys (y ∷ []))

pub overlay-none : (xs : List ℕ) (at : ℕ) → xs ≡ overlay xs at []
unfolding overlay
overlay-none xs at = refl

pub copy_more : (xs : List ℕ) (at : ℕ) (ys : List ℕ) (i : ℕ) → i < length ys
    → set (overlay xs at (take i ys)) (at + i) (get_or ys i 0) ≡ overlay xs at (take (i + 1) ys)
copy_more xs at ys i h =
    overlay-snoc xs at (take i ys) (get_or ys i 0) i (length-take-le i ys (omega arith))
    ∙ ap (overlay xs at) (sym (take-suc ys i 0 h) ∙ ap (λ (k : ℕ). take k ys) (sym (add-one i)))

pub fill_more : (xs : List ℕ) (at y i : ℕ) → set (overlay xs at (replicate i y)) (at + i) y ≡ overlay xs at (replicate (i + 1) y)
fill_more xs at y i =
    overlay-snoc xs at (replicate i y) y i (length-replicate i y) ∙ ap (overlay xs at) (replicate-append-replicate i 1 y)

-- ---- an element of a part

pub part_at : (xs : List ℕ) (at n i : ℕ) → i < n → get_or (part xs at n) i 0 ≡ get_or xs (at + i) 0
unfolding part
part_at xs at n i h = rw (get_or-take, get_or-drop)

-- a part within the list has its length
pub length_part : (xs : List ℕ) (at n : ℕ) → at + n ≤ length xs → length (part xs at n) ≡ n
unfolding part
length_part xs at n h = length-take-le n (drop at xs) (omega (arith, length-drop at xs))

-- a part of a part
pub part-part : (xs : List ℕ) (at n i k : ℕ) → i + k ≤ n → part (part xs at n) i k ≡ part xs (at + i) k
unfolding part
part-part xs at n i k h =
    sym (take-drop k i (take n (drop at xs)))
    ∙ ap (drop i) (take-take (i + k) n (drop at xs) h)
    ∙ take-drop k i (drop at xs)
    ∙ ap (take k) (drop-drop i at xs)

-- a list whose last element is written first
pub overlay-last : (xs : List ℕ) (at : ℕ) (ys : List ℕ) (y : ℕ) → overlay xs at (ys ++ (y ∷ [])) ≡ overlay (set xs (at + length ys) y) at ys
overlay-last xs at ys y = sym (overlay-snoc xs at ys y (length ys) refl) ∙ sym (overlay-set xs (at + length ys) y at ys (inr (omega arith)))

-- ---- calls that write one behind the other
pub laid_then : {o o₁ o₂ a b : List ℕ} {at m n : ℕ} → Laid o at a o₁ m → Laid o₁ m b o₂ n → Laid o at (a ++ b) o₂ n
laid_then {o} {o₁} {o₂} {a} {b} {at} {m} {n} p q =
    record {
      bytes = q.bytes ∙ ap₂ (λ (d : List ℕ) (k : ℕ). overlay d k b) p.bytes p.ends ∙ sym (overlay-append o at a b);
      ends = omega (arith, length-append a b);
    }

pub laid-length : {o l o₁ : List ℕ} {at n : ℕ} → Laid o at l o₁ n → length o₁ ≡ length o
laid-length {o} {l} {o₁} {at} p = ap length p.bytes ∙ length-overlay o at l

-- what was laid is found there
pub laid-part : {o l o₁ : List ℕ} {at n : ℕ} → at + length l ≤ length o → Laid o at l o₁ n → part o₁ at (length l) ≡ l
laid-part {o} {l} {o₁} {at} h p = ap (λ (x : List ℕ). part x at (length l)) p.bytes ∙ part_same o at l (length l) h refl

-- what was laid from the start on stands in front
pub laid-front : {o l o₁ : List ℕ} {n : ℕ} → length l ≤ length o → Laid o 0 l o₁ n → take n o₁ ≡ l
unfolding part
laid-front {o} {l} {o₁} h p = ap (λ (k : ℕ). take k o₁) (p.ends ∙ zero-add (length l)) ∙ laid-part (omega arith) p

-- ---- room for what is left to write
pub record Room (o : List ℕ) (at : ℕ) (t : List ℕ) : Type 0 where
  pub fits : at + length t ≤ length o

-- for the first list of two, for a first element, and once a list is written, for the rest
pub room-first : (a t : List ℕ) {o : List ℕ} {at : ℕ} → Room o at (a ++ t) → at + length a ≤ length o
room-first a t r = omega (arith, r.fits, length-append a t)

pub room-byte : {y : ℕ} {t o : List ℕ} {at : ℕ} → Room o at (y ∷ t) → at < length o
room-byte r = omega (arith, r.fits)

pub room_next : (t : List ℕ) {o a o₁ : List ℕ} {at m : ℕ} → Room o at (a ++ t) → Laid o at a o₁ m → Room o₁ m t
room_next t {o} {a} r l = record { fits = omega (arith, r.fits, laid-length l, l.ends, length-append a t) }
