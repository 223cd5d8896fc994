-- A loop that adds up the digits before the first comma. Assumes nothing.
--     run-start            what is to be found is the run of all bytes behind 1, at most 11 digits long
--     run_on               a digit: the run goes on behind it
--     run-ended            a byte that is no digit ends it
--     run_behind           behind 11 digits only a comma ends it
--     run_none, run_none_behind     no byte is left
use Rattle.std.specs.Prelude.{Some, None}
use Rattle.std.specs.Char.{is_ascii_digit}
use Rattle.std.specs.Prelude.{slice_get}
use mathlib.Core.Path.{◌≡◌, refl, sym, ap, ◌∙◌}
use mathlib.Core.Logic.{⊎_elim}
use mathlib.Core.Bool.{Bool, true, false, cond, ◌&&◌}
use mathlib.Core.List.{List, [], ◌∷◌}
use Prim.Native.Nat.{min, ℕ, suc, ◌+◌, ◌-◌, ◌*◌, ◌<◌, ◌≤◌}
use native.Mathlib.Numerals.{add-one}
use native.Mathlib.Omega.{arith}
use borrow.Author.Tests.{ne_eqb, le-leb, lt-leb, leb-true}
use lib.Dec.{eqb, leb}
use lib.ListN.{length, get_or, drop, length-drop, drop_of_length-le}
use lib.Seq.{drop-cons}
use Rattle.laws.specs.Lists.{all}
use Rattle.laws.specs.Digits.{is_digit, all_digits, spelt}
use Rattle.laws.specs.Split.{before, split, piece_of}
use Rattle.laws.proofs.Tests.{le-or-lt}
use Rattle.laws.proofs.Digits.{digit_low}
use Rattle.text.specs.Spelt.{spells, digits_of}
use Rattle.fields.specs.Number.{digits_from, digits_field_of}
use Rattle.rules.specs.Records.{field_digits}

-- the digits before the first comma, behind n, where they are at most k; 1 where they are not
unfoldable pub run : ℕ → ℕ → List ℕ → ℕ
run n k s = cond (leb (length (piece_of 44 s 0)) k && all_digits (piece_of 44 s 0)) (spelt n (piece_of 44 s 0)) 1

piece-comma : (b : ℕ) (s : List ℕ) → eqb b 44 ≡ true → piece_of 44 (b ∷ s) 0 ≡ []
unfolding split before
piece-comma b s e = rw e

piece-on : (b : ℕ) (s : List ℕ) → eqb b 44 ≡ false → piece_of 44 (b ∷ s) 0 ≡ b ∷ piece_of 44 s 0
unfolding split
piece-on b s e = rw e (go (split 44 s))
  where
    go : (fs : List (List ℕ)) → get_or (before false b fs) 0 [] ≡ b ∷ get_or fs 0 []
    go [] = unfold before in refl
    go (f ∷ fs) = unfold before in refl

-- std's word for a digit
pub ascii_digit : (b : ℕ) → is_ascii_digit b ≡ is_digit b
unfolding is_digit
ascii_digit b = refl

-- a comma is no digit
no-comma : (b : ℕ) → is_digit b ≡ true → eqb b 44 ≡ false
no-comma b d = ne_eqb b 44 (λ e. omega (arith, digit_low b d))

and-false : (t : Bool) → (t && false) ≡ false
and-false true = refl
and-false false = refl

suc-leb : (m k : ℕ) → leb (suc m) (suc k) ≡ leb m k
suc-leb m k = ⊎_elim (λ (h : m ≤ k). le-leb (suc m) (suc k) (omega arith) ∙ sym (le-leb m k h)) (λ (h : k < m). lt-leb (suc m) (suc k) (omega arith) ∙ sym (lt-leb m k h)) (le-or-lt m k)

-- ---- one byte in front
run-digit : (n k b : ℕ) (s : List ℕ) → is_digit b ≡ true → run n (suc k) (b ∷ s) ≡ run (n * 10 + (b - 48)) k s
unfolding run all spelt
run-digit n k b s d = rw (piece-on b s (no-comma b d), d, suc-leb (length (piece_of 44 s 0)) k)

run-full : (n b : ℕ) (s : List ℕ) → run n 0 (b ∷ s) ≡ cond (eqb b 44) n 1
run-full n b s = go (eqb b 44) refl
  where
    go : (t : Bool) → eqb b 44 ≡ t → run n 0 (b ∷ s) ≡ cond t n 1
    go true e = unfold run all spelt in rw (piece-comma b s e)
    go false e = unfold run in rw (piece-on b s e, lt-leb (suc (length (piece_of 44 s 0))) 0 (omega arith))

run-stop : (n k b : ℕ) (s : List ℕ) → is_digit b ≡ false → run n k (b ∷ s) ≡ cond (eqb b 44) n 1
run-stop n k b s d = go (eqb b 44) refl
  where
    go : (t : Bool) → eqb b 44 ≡ t → run n k (b ∷ s) ≡ cond t n 1
    go true e = unfold run all spelt in rw (piece-comma b s e, le-leb 0 k (omega arith))
    go false e = unfold run all in rw (piece-on b s e, d, and-false (leb (suc (length (piece_of 44 s 0))) k))

-- ---- the loop
pub run-start : (s : List ℕ) → field_digits (digits_field_of (piece_of 44 s 0)) ≡ run 1 11 s
unfolding run digits_field_of digits_from digits_of spells
run-start s = go (leb (length (piece_of 44 s 0)) 11) (all_digits (piece_of 44 s 0)) refl
  where
    f : List ℕ
    f = piece_of 44 s 0

    go : (t d : Bool) → leb (length f) 11 ≡ t → field_digits (cond t (digits_from (cond (leb (length f) 18) (cond d (Some (spelt 1 f)) None) None)) None) ≡ cond (t && d) (spelt 1 f) 1
    go true true e = unfold digits_from in rw (le-leb (length f) 18 (omega (arith, leb-true (length f) 11 e)))
    go true false e = unfold digits_from in rw (le-leb (length f) 18 (omega (arith, leb-true (length f) 11 e)))
    go false d e = refl

module _ (s : List ℕ) (n i : ℕ) (h : i < length s) where
  at_byte : drop i s ≡ get_or s i 0 ∷ drop (i + 1) s
  at_byte = rw (add-one, drop-cons s i 0 h)

  pub run_on : i < 11 → is_digit (get_or s i 0) ≡ true → run n (11 - i) (drop i s) ≡ run (n * 10 + (get_or s i 0 - 48)) (11 - (i + 1)) (drop (i + 1) s)
  run_on k d =
      let e : 11 - i ≡ suc (11 - (i + 1)) = omega arith in
      rw (at_byte, e) (run-digit n (11 - (i + 1)) (get_or s i 0) (drop (i + 1) s) d)

  pub run-ended : is_digit (get_or s i 0) ≡ false → run n (11 - i) (drop i s) ≡ cond (eqb (get_or s i 0) 44) n 1
  run-ended d = rw at_byte (run-stop n (11 - i) (get_or s i 0) (drop (i + 1) s) d)

-- behind 11 digits only a comma ends it
pub run_behind : (s : List ℕ) (n m b : ℕ) → m ≡ min (length s) 11 → Some b ≡ slice_get (drop m s) 0 → run n (11 - m) (drop m s) ≡ cond (eqb b 44) n 1
run_behind s n m b least e = go (drop m s) refl e
  where
    go : (left : List ℕ) → drop m s ≡ left → Some b ≡ slice_get left 0 → run n (11 - m) left ≡ cond (eqb b 44) n 1
    go [] q e = absurd (let z : ◌≡◌ {A = ℕ} 0 1 = cc in omega arith)
    go (x ∷ left) q e =
        let full : 11 - m ≡ 0 = omega (arith, ap length q, length-drop m s) in
        let same : x ≡ b = cc in
        rw full (run-full n x left) ∙ ap (λ (y : ℕ). cond (eqb y 44) n 1) same

-- no byte is left
pub run_none_behind : (n k : ℕ) (left : List ℕ) → None ≡ slice_get left 0 → run n k left ≡ n
unfolding run split all spelt
run_none_behind n k [] e = rw (le-leb 0 k (omega arith))
run_none_behind n k (x ∷ left) e = absurd (let z : ◌≡◌ {A = ℕ} 0 1 = cc in omega arith)

pub run_none : (s : List ℕ) (n i : ℕ) → length s ≤ i → run n (11 - i) (drop i s) ≡ n
unfolding run split all spelt
run_none s n i h = rw (drop_of_length-le s h, le-leb 0 (11 - i) (omega arith))

-- ---- a correction that is too short has no field behind its head
pub head-only : (s : List ℕ) → length s < 6 → field_digits (digits_field_of (piece_of 44 (drop 6 s) 0)) ≡ 1
head-only s h = let l : length s ≤ 6 = omega arith in rw (drop_of_length-le s l) (run-start [] ∙ run_none [] 1 0 (omega arith))
