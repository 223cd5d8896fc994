-- What copying a run of bytes leaves, as far as there is room. Assumes nothing.
use mathlib.Core.Path.{◌≡◌, refl, sym, ap, ◌∙◌}
use mathlib.Core.List.{List, [], ◌∷◌, ◌++◌, append_assoc}
use mathlib.Core.Logic.{⊎_elim}
use Prim.Native.Nat.{ℕ, ◌+◌, ◌-◌, ◌≤◌, ◌<◌, min}
use native.Mathlib.Omega.{arith}
use lib.ListN.{length, take, drop, take-append-drop, length-append}
use lib.Seq.{length-take-le, set_out, take_all, drop-drop}
use borrow.Rule.Slice.PartMut.{put_mid}
use Rattle.laws.specs.Overlay.{overlay}
use Rattle.laws.proofs.Overlay.{overlay-append, overlay-none, overlay-parts, length-overlay}
use Rattle.laws.proofs.Tests.{le-or-lt}
use Rattle.desk.specs.Desk.{Copied, path_of}

-- what would begin behind the end is not written
pub overlay-out : (xs : List ℕ) (at : ℕ) (ys : List ℕ) → length xs ≤ at → overlay xs at ys ≡ xs
unfolding overlay
overlay-out xs at [] h = refl
overlay-out xs at (y ∷ ys) h = ap (λ (l : List ℕ). overlay l (at + 1) ys) (set_out xs at y h) ∙ overlay-out xs (at + 1) ys (omega arith)

-- where the first i bytes fill the buffer, they are all that is written
pub full-after : (xs : List ℕ) (at : ℕ) (ys : List ℕ) (i : ℕ) → i ≤ length ys → length xs ≤ at + i → overlay xs at (take i ys) ≡ overlay xs at ys
full-after xs at ys i h full =
    sym (overlay-out (overlay xs at (take i ys)) (at + length (take i ys)) (drop i ys) (omega (arith, length-overlay xs at (take i ys), length-take-le i ys h)))
    ∙ sym (overlay-append xs at (take i ys) (drop i ys))
    ∙ ap (overlay xs at) (take-append-drop i ys)

-- as many bytes as there is room for, written as a part of the buffer
pub copied-run : (xs ys new : List ℕ) (at from n w : ℕ) → from ≡ min at (length xs) → n ≡ min (length ys) (length xs - from) → w ≡ n → new ≡ take n ys
    → put_mid from w xs new ≡ overlay xs at ys
copied-run xs ys new at from n w e f g h =
    let fits : length (take n ys) ≡ n = length-take-le n ys (omega (arith, f)) in
    let parts : put_mid from w xs new ≡ overlay xs from (take n ys) =
    rw (g, h) (sym (overlay-parts xs from (take n ys) (omega (arith, fits, e, f)) ∙ rw (fits, append_assoc, drop-drop) refl)) in
    parts
    ∙ ⊎_elim
    (λ (b : at ≤ length xs).
    let same : from ≡ at = omega (arith, e) in
    ap (λ (k : ℕ). overlay xs k (take n ys)) same
    ∙ ⊎_elim
    (λ (a : length ys ≤ n). ap (overlay xs at) (take_all n ys a))
    (λ (a : n < length ys). full-after xs at ys n (omega arith) (omega (arith, e, f)))
    (le-or-lt (length ys) n))
    (λ (b : length xs < at).
    let none : n ≡ 0 = omega (arith, e, f) in
    rw none (sym (overlay-none xs from)) ∙ sym (overlay-out xs at ys (omega arith)))
    (le-or-lt at (length xs))

-- one run behind the other, from where the first ended
pub copied-then : {o a b o₁ o₂ : List ℕ} {at m n : ℕ} → Copied o at a o₁ m → Copied o₁ m b o₂ n → Copied o at (a ++ b) o₂ n
copied-then {o} {a} {b} {o₁} {o₂} {at} {m} {n} p q =
    let long : length o₁ ≡ length o = ap length p.bytes ∙ length-overlay o at a in
    let here : overlay o₁ m b ≡ overlay o₁ (at + length a) b =
    ⊎_elim
    (λ (h : at + length a ≤ length o). ap (λ (k : ℕ). overlay o₁ k b) (p.ends ∙ omega arith))
    (λ (h : length o < at + length a). overlay-out o₁ m b (omega (arith, p.ends)) ∙ sym (overlay-out o₁ (at + length a) b (omega arith)))
    (le-or-lt (at + length a) (length o)) in
    record {
      bytes = q.bytes ∙ here ∙ ap (λ (l : List ℕ). overlay l (at + length a) b) p.bytes ∙ sym (overlay-append o at a b);
      ends = omega (arith, p.ends, q.ends, length-append a b);
    }

pub path-none : (f n o : List ℕ) (r : ℕ) → length f ≡ 0 → r ≡ min 0 (length o) → Copied o 0 (path_of f n) o r
path-none [] n o r e h = record { bytes = overlay-none o 0; ends = h }
path-none (b ∷ f) n o r e h = absurd (omega arith)

-- ---- a path: with no folder nothing is written, else the folder, a slash and the name, one behind the other
pub path-copied : (f : List ℕ) {n o o₁ o₂ o₃ : List ℕ} {a b r : ℕ} → (length f ≡ 0 → ⊥) → Copied o 0 f o₁ a → Copied o₁ a (47 ∷ []) o₂ b → Copied o₂ b n o₃ r → Copied o 0 (path_of f n) o₃ r
path-copied [] some p q s = absurd (some refl)
path-copied (x ∷ f) some p q s = copied-then p (copied-then q s)
