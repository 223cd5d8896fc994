-- The names of files: what the code's tests and stores say of the definitions. Assumes nothing.
use Rattle.std.specs.Prelude.{Result, Ok, Err}
use Rattle.records.specs.declared.names.written.NotWritten.{NotWritten}
use Rattle.std.specs.Prelude.{Some, None}
use Prim.Native.Nat.{ℕ, ◌-◌, ◌/◌, ◌<◌, ◌≤◌}
use native.Mathlib.Omega.{arith}
use mathlib.Core.Path.{◌≡◌, refl, sym, ap, ap₂, ◌∙◌}
use mathlib.Core.Bool.{Bool, true, false, ◌&&◌}
use mathlib.Core.List.{List, [], ◌∷◌}
use lib.Dec.{eqb}
use lib.ListN.{length, take, drop, length-drop}
use borrow.Author.Tests.{le-ltb, lt-leb, le-leb}
use lib.Pointwise.{pointwise}
use Rattle.laws.specs.Lists.{same_lists}
use Rattle.records.proofs.Bytes.{pointwise_same, same_turned}
use Rattle.laws.specs.Overlay.{overlay, Laid}
use Rattle.laws.specs.Digits.{digits}
use Rattle.laws.proofs.Tests.{and_left, and_right}
use Rattle.laws.proofs.Same.{numbers-equal}
use Rattle.laws.proofs.Digits.{length_digits}
use Rattle.laws.proofs.Overlay.{laid_then, laid-length}
use Rattle.calendar.specs.Answers.{full_year, date_of}
use Rattle.calendar.specs.declared.dates.Date.{Date}
use Rattle.records.specs.names.Kind.{letter_of}
use Rattle.records.specs.declared.names.name.Name.{Name}
use Rattle.records.specs.names.Written.{Wrote}
use Rattle.records.specs.names.Name.{ending, framed, day_of_six, six_of, spelling, name_text, name_answer}

-- ---- the frame
pub framed-ending : (s : List ℕ) → framed s ≡ true → drop 8 s ≡ ending
unfolding framed
framed-ending s p = numbers-equal (drop 8 s) ending (and_right (same_lists eqb (take 1 s) (49 ∷ [])) (same_lists eqb (drop 8 s) ending) p)

pub framed-first : (s : List ℕ) → framed s ≡ true → take 1 s ≡ 49 ∷ []
unfolding framed
framed-first s p = numbers-equal (take 1 s) (49 ∷ []) (and_left (same_lists eqb (take 1 s) (49 ∷ [])) (same_lists eqb (drop 8 s) ending) p)

pub framed-length : (s : List ℕ) → framed s ≡ true → length s ≡ 12
framed-length s p = omega (arith, length-drop 8 s, ap length (framed-ending s p))

pub framed-not : (s : List ℕ) → (length s ≡ 12 → ⊥) → false ≡ framed s
framed-not s n = go (framed s) refl
  where
    go : (t : Bool) → framed s ≡ t → false ≡ t
    go true e = absurd (n (framed-length s e))
    go false e = refl

-- what the library's tests of its beginning and of its end answer
pub framed-tests : (s : List ℕ) (a b : Bool) → length s ≡ 12 → a ≡ pointwise eqb (49 ∷ []) (take 1 s) → b ≡ pointwise eqb ending (drop (length s - 4) s) → (a && b) ≡ framed s
unfolding framed
framed-tests s a b h p q =
    let k : length s - 4 ≡ 8 = omega arith in
    ap₂ ◌&&◌ (p ∙ pointwise_same (49 ∷ []) (take 1 s) ∙ same_turned (49 ∷ []) (take 1 s)) (q ∙ ap (λ (n : ℕ). pointwise eqb ending (drop n s)) k ∙ pointwise_same ending (drop 8 s) ∙ same_turned ending (drop 8 s))

-- ---- the day
pub six-long : (n : ℕ) → 999999 < n → None ≡ day_of_six n
unfolding day_of_six full_year
six-long n h =
    let big : 100 ≤ n / 10000 = omega arith in
    rw (le-ltb (n / 10000) 50 (omega arith), le-ltb (n / 10000) 98 (omega arith), lt-leb (n / 10000) 99 (omega arith))

-- ---- the bytes, laid one behind the other
pub laid-name : {o o₁ o₂ o₃ o₄ : List ℕ} {a b c e : ℕ} (letter n : ℕ) → Laid o 0 (49 ∷ []) o₁ a → Laid o₁ a (letter ∷ []) o₂ b → Laid o₂ b (digits 6 n) o₃ c → Laid o₃ c ending o₄ e → Laid o 0 (spelling letter n) o₄ e
unfolding spelling
laid-name letter n p q r s = laid_then p (laid_then q (laid_then r s))

-- ---- the writer
-- what a writer answers and leaves is settled
pub wrote_one : {w : Result ℕ NotWritten} {text before a b : List ℕ} {r s : Result ℕ NotWritten} → Wrote w text before a r → Wrote w text before b s → (a ≡ b) × (r ≡ s)
wrote_one p q = (p.bytes ∙ sym q.bytes, p.answer ∙ sym q.answer)

module _ (m : Name) (before : List ℕ) where
  pub wrote_none : date_of m.day.0 ≡ None → Wrote (name_answer m (length before)) (name_text m) before before (Err (NotWritten.Fault 0))
  unfolding name_answer name_text
  wrote_none e = record { answer = rw e; bytes = rw e }

  pub wrote-short : (x : Date) → date_of m.day.0 ≡ Some x → length before < 12 → Wrote (name_answer m (length before)) (name_text m) before before (Err NotWritten.Long)
  unfolding name_answer name_text
  wrote-short x e h = record { answer = rw (e, lt-leb 12 (length before) h); bytes = rw (e, lt-leb 12 (length before) h) }

  pub wrote-name : (x : Date) (after : List ℕ) → date_of m.day.0 ≡ Some x → 12 ≤ length before → after ≡ overlay before 0 (spelling (letter_of m.kind) (six_of x))
      → Wrote (name_answer m (length before)) (name_text m) before after (Ok 12)
  unfolding name_answer name_text
  wrote-name x after e h p = record { answer = rw (e, le-leb 12 (length before) h); bytes = rw (e, le-leb 12 (length before) h) p }

-- what the functions on names need
pub ruleset frames = (framed-length, framed-not)

pub ruleset long_days = (six-long)

pub ruleset writes = (wrote_none, wrote-short, wrote-name)

pub ruleset laid_names = (laid-length, length_digits)
