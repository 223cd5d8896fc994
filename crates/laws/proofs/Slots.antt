-- Reading a slot after a slot was written, for any head and width. Assumes nothing.
use mathlib.Core.Path.{◌≡◌, refl, sym, ap, ap₂, ◌∙◌}
use mathlib.Core.List.{List, [], ◌∷◌, ◌++◌, append_assoc, append-nil, flat_map}
use Prim.Native.Nat.{ℕ, zero, suc, ◌+◌, ◌-◌, ◌*◌, ◌≤◌, ◌<◌}
use native.Mathlib.Numerals.{add-one}
use native.Mathlib.Nat.{zero-add, suc-mul, zero-mul, mul-le-mul_right}
use native.Mathlib.Decide.{dec_le}
use native.Mathlib.Omega.{arith}
use lib.ListN.{length, take, drop, get_or, set, replicate, length-append, length-replicate, length-take, length-drop, take-append-drop}
use lib.Seq.{take-add, take_at, drop_at, drop-append-add, take-suc, take-take, take_all, length-take-le, drop-cons}
use Rattle.laws.specs.Overlay.{overlay, part}
use Rattle.laws.specs.Slots.{slot_at, slot_of, held_in}
use Rattle.laws.proofs.Overlay.{part_same, part-before, part-after, overlay-append, overlay-none, overlay-parts}
use Rattle.laws.proofs.Lists.{flat_append}

-- a lower slot ends before a higher one begins
pub slots_apart : (width : ℕ) {j k : ℕ} → j < k → j * width + width ≤ k * width
slots_apart width {j} {k} h = omega (arith, suc-mul j width, mul-le-mul_right width h)

-- a slot within the list is as long as the slots are wide
pub slot_whole : (head width : ℕ) (xs : List ℕ) (k : ℕ) → head + k * width + width ≤ length xs → length (slot_at head width xs k) ≡ width
unfolding slot_at part
slot_whole head width xs k h = length-take-le width (drop (head + k * width) xs) (rw length-drop (omega arith))

-- what was written in a slot is read there
pub slot_same : (head width : ℕ) (xs : List ℕ) (k : ℕ) (ys : List ℕ) → head + k * width + width ≤ length xs → length ys ≡ width
    → slot_at head width (overlay xs (head + k * width) ys) k ≡ ys
unfolding slot_at
slot_same head width xs k ys fits e = part_same xs (head + k * width) ys width (omega arith) e

-- and every other slot is as it was
pub slot-lower : (head width : ℕ) (xs : List ℕ) (j k : ℕ) (ys : List ℕ) → j < k
    → slot_at head width (overlay xs (head + k * width) ys) j ≡ slot_at head width xs j
unfolding slot_at
slot-lower head width xs j k ys h = part-before xs (head + k * width) ys (head + j * width) width (omega (arith, slots_apart width h))

pub slot-higher : (head width : ℕ) (xs : List ℕ) (j k : ℕ) (ys : List ℕ) → k < j → length ys ≡ width
    → slot_at head width (overlay xs (head + k * width) ys) j ≡ slot_at head width xs j
unfolding slot_at
slot-higher head width xs j k ys h e = part-after xs (head + k * width) ys (head + j * width) width (omega (arith, slots_apart width h))

pub slot-other : (head width : ℕ) (xs : List ℕ) (j k : ℕ) (ys : List ℕ) → (j ≡ k → ⊥) → length ys ≡ width
    → slot_at head width (overlay xs (head + k * width) ys) j ≡ slot_at head width xs j
slot-other head width xs j k ys ne e =
    elim (dec_le j k) [ yes h ↦ slot-lower head width xs j k ys (omega arith) | no h ↦ slot-higher head width xs j k ys (omega arith) e ]

-- a write in the head changes no slot
pub slot-head : (head width : ℕ) (xs : List ℕ) (k at : ℕ) (ys : List ℕ) → at + length ys ≤ head
    → slot_at head width (overlay xs at ys) k ≡ slot_at head width xs k
unfolding slot_at
slot-head head width xs k at ys h = part-after xs at ys (head + k * width) width (omega arith)

-- ---- a slot that holds a length byte, so many bytes, and zeros
pub length-slot : (width : ℕ) (bytes : List ℕ) → length bytes < width → length (slot_of width bytes) ≡ width
unfolding slot_of
length-slot width bytes h = simp (length-append, length-replicate) (omega arith)

pub held-slot : (width : ℕ) (bytes : List ℕ) → held_in (slot_of width bytes) ≡ bytes
unfolding slot_of held_in
held-slot width bytes = take_at bytes _ _ refl

-- a length byte, then the bytes, then zeros, written one after the other, are the slot
pub slot-written : (width : ℕ) (xs : List ℕ) (at : ℕ) (bytes d : List ℕ) → d ≡ overlay (set xs at (length bytes)) (at + 1) bytes
    → overlay d (at + 1 + length bytes) (replicate (width - 1 - length bytes) 0) ≡ overlay xs at (slot_of width bytes)
unfolding slot_of overlay
slot-written width xs at bytes d e =
    ap (λ (l : List ℕ). overlay l (at + 1 + length bytes) (replicate (width - 1 - length bytes) 0)) e
    ∙ sym (overlay-append (set xs at (length bytes)) (at + 1) bytes (replicate (width - 1 - length bytes) 0))

-- a slot within the buffer: its first byte, and the bytes behind it
slot-split : (w : ℕ) (xs : List ℕ) (at : ℕ) → at + suc w ≤ length xs → part xs at (suc w) ≡ get_or xs at 0 ∷ take w (drop (at + 1) xs)
unfolding part
slot-split w xs at h = rw (drop-cons xs at 0 (omega arith), add-one)

-- the m bytes behind the first byte of a slot are its bytes, where m is what the first byte says
pub held-short : (width : ℕ) (xs : List ℕ) (at n m : ℕ) → at + width ≤ length xs → n ≡ get_or xs at 0 → n < width → m ≡ n
    → take m (drop (at + 1) xs) ≡ held_in (part xs at width)
unfolding held_in
held-short zero xs at n m fits e h em = absurd (omega arith)
held-short (suc w) xs at n m fits e h em =
    ap (λ (k : ℕ). take k (drop (at + 1) xs)) (em ∙ e)
    ∙ sym (take-take (get_or xs at 0) w (drop (at + 1) xs) (omega arith))
    ∙ sym (ap held_in (slot-split w xs at fits))

-- or all that stand there, where it says more
pub held-long : (width : ℕ) (xs : List ℕ) (at n m : ℕ) → at + width ≤ length xs → n ≡ get_or xs at 0 → width ≤ n → m + 1 ≡ width
    → take m (drop (at + 1) xs) ≡ held_in (part xs at width)
unfolding held_in
held-long zero xs at n m fits e h em = absurd (omega arith)
held-long (suc w) xs at n m fits e h em =
    let all : m ≡ w = omega arith in
    ap (λ (k : ℕ). take k (drop (at + 1) xs)) all
    ∙ sym (take_all (get_or xs at 0) (take w (drop (at + 1) xs)) (rw length-take (omega arith)))
    ∙ sym (ap held_in (slot-split w xs at fits))

-- ---- slots that are written one behind the other: each is read at its place
module _ {A : Type 0} (width : ℕ) (f : A → List ℕ) (each : (x : A) → length (f x) ≡ width) where
  pub slot-flat : (head : List ℕ) (l : List A) (rest : List ℕ) (i : ℕ) (d : A) → i < length l
      → slot_at (length head) width (head ++ (flat_map f l ++ rest)) i ≡ f (get_or l i d)
  unfolding slot_at part flat_map
  slot-flat head [] rest i d h = absurd (omega arith)
  slot-flat head (x ∷ l) rest zero d h =
      let at : length head + 0 * width ≡ length head = rw zero-mul (omega arith) in
      ap₂ (λ (k : ℕ) (r : List ℕ). take width (drop k (head ++ r))) at (append_assoc (f x) (flat_map f l) rest)
      ∙ ap (take width) (drop_at head (f x ++ (flat_map f l ++ rest)) (length head) refl)
      ∙ take_at (f x) (flat_map f l ++ rest) width (each x)
  slot-flat head (x ∷ l) rest (suc i) d h =
      let on : length head + suc i * width ≡ length (head ++ f x) + i * width = omega (arith, suc-mul i width, length-append head (f x), each x) in
      ap₂ (λ (k : ℕ) (r : List ℕ). take width (drop k r)) on
      (ap (λ (r : List ℕ). head ++ r) (append_assoc (f x) (flat_map f l) rest) ∙ sym (append_assoc head (f x) (flat_map f l ++ rest)))
      ∙ slot-flat (head ++ f x) l rest i d (omega arith)

  pub length-flat : (l : List A) → length (flat_map f l) ≡ length l * width
  unfolding flat_map
  length-flat [] = sym (zero-mul width)
  length-flat (x ∷ l) = omega (arith, length-append (f x) (flat_map f l), each x, length-flat l, suc-mul (length l) width)

  -- a turn of the loop that writes them
  pub flat-next : (xs : List ℕ) (at : ℕ) (l : List A) (i : ℕ) (d : A) → i < length l
      → overlay (overlay xs at (flat_map f (take i l))) (at + i * width) (f (get_or l i d)) ≡ overlay xs at (flat_map f (take (i + 1) l))
  unfolding flat_map
  flat-next xs at l i d h =
      let size : i * width ≡ length (flat_map f (take i l)) = sym (length-flat (take i l) ∙ ap (λ (n : ℕ). n * width) (length-take-le i l (omega arith))) in
      let one : flat_map f (get_or l i d ∷ []) ≡ f (get_or l i d) = append-nil (f (get_or l i d)) in
      ap (λ (n : ℕ). overlay (overlay xs at (flat_map f (take i l))) (at + n) (f (get_or l i d))) size
      ∙ sym (overlay-append xs at (flat_map f (take i l)) (f (get_or l i d)))
      ∙ ap (overlay xs at)
      (ap (λ (r : List ℕ). flat_map f (take i l) ++ r) (sym one)
      ∙ sym (flat_append f (take i l) (get_or l i d ∷ []))
      ∙ ap (flat_map f) (sym (take-suc l i d h) ∙ ap (λ (k : ℕ). take k l) (sym (add-one i))))

  pub flat-none : (xs : List ℕ) (at : ℕ) (l : List A) → xs ≡ overlay xs at (flat_map f (take 0 l))
  unfolding flat_map
  flat-none xs at l = overlay-none xs at

-- ---- two lists whose first n slots are equal, and what stands behind these
take-slots : (width : ℕ) (a b : List ℕ) (n : ℕ) → ((k : ℕ) → k < n → slot_at 0 width a k ≡ slot_at 0 width b k) → take (n * width) a ≡ take (n * width) b
unfolding slot_at part
take-slots width a b zero h = rw zero-mul
take-slots width a b (suc n) h =
    let split : (l : List ℕ) → take (suc n * width) l ≡ take (n * width) l ++ take width (drop (n * width) l) =
    λ l. ap (λ (m : ℕ). take m l) (suc-mul n width) ∙ take-add (n * width) width l in
    let one : take width (drop (n * width) a) ≡ take width (drop (n * width) b) = rw zero-add at (h n (omega arith)) in
    split a ∙ ap₂ (λ (l m : List ℕ). l ++ m) (take-slots width a b n (λ k u. h k (omega arith))) one ∙ sym (split b)

pub same-slots : (width : ℕ) (a b : List ℕ) (n : ℕ) → ((k : ℕ) → k < n → slot_at 0 width a k ≡ slot_at 0 width b k) → drop (n * width) a ≡ drop (n * width) b → a ≡ b
same-slots width a b n h e =
    sym (take-append-drop (n * width) a) ∙ ap₂ (λ (l m : List ℕ). l ++ m) (take-slots width a b n h) e ∙ take-append-drop (n * width) b

-- ---- slots given as a list, each of the width, laid from the start on: each is read at its place
abbrev joined : List (List ℕ) → List ℕ
joined l = flat_map (λ (s : List ℕ). s) l

module _ (width : ℕ) where
  pub length-joined : (l : List (List ℕ)) → ((k : ℕ) → k < length l → length (get_or l k []) ≡ width) → length (joined l) ≡ length l * width
  unfolding flat_map
  length-joined [] each = sym (zero-mul width)
  length-joined (x ∷ l) each =
      omega (arith, length-append x (joined l), each 0 (omega arith), length-joined l (λ k h. each (suc k) (omega arith)), suc-mul (length l) width)

  slot-joined : (l : List (List ℕ)) (rest : List ℕ) → ((k : ℕ) → k < length l → length (get_or l k []) ≡ width) → (i : ℕ) → i < length l → slot_at 0 width (joined l ++ rest) i ≡ get_or l i []
  unfolding slot_at part flat_map
  slot-joined [] rest each i h = absurd (omega arith)
  slot-joined (x ∷ l) rest each zero h =
      ap₂ (λ (k : ℕ) (r : List ℕ). take width (drop k r)) (zero-add (0 * width) ∙ zero-mul width) (append_assoc x (joined l) rest)
      ∙ take_at x (joined l ++ rest) width (each 0 (omega arith))
  slot-joined (x ∷ l) rest each (suc i) h =
      let on : 0 + suc i * width ≡ length x + (0 + i * width) = omega (arith, suc-mul i width, each 0 (omega arith)) in
      ap₂ (λ (k : ℕ) (r : List ℕ). take width (drop k r)) on (append_assoc x (joined l) rest)
      ∙ ap (take width) (drop-append-add x (joined l ++ rest) (0 + i * width))
      ∙ slot-joined l rest (λ k u. each (suc k) (omega arith)) i (omega arith)

  pub slot-laid : (xs : List ℕ) (l : List (List ℕ)) → ((k : ℕ) → k < length l → length (get_or l k []) ≡ width) → length l * width ≤ length xs → (i : ℕ) → i < length l
      → slot_at 0 width (overlay xs 0 (joined l)) i ≡ get_or l i []
  slot-laid xs l each fits i h =
      ap (λ (r : List ℕ). slot_at 0 width r i) (overlay-parts xs 0 (joined l) (omega (arith, length-joined l each)))
      ∙ slot-joined l (drop (0 + length (joined l)) xs) each i h
