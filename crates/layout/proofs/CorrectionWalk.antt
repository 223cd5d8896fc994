-- A walk through a correction's pieces: which way its reader goes. What follows the second colon is read whole, for no part has a colon. Assumes nothing.
use Rattle.layout.specs.declared.correction.Correction.{Correction}
use Rattle.std.specs.Prelude.{Option, Some, None}
use Rattle.std.specs.Prelude.{Option, Some, None}
use Prim.Native.Nat.{ℕ, ◌+◌, ◌-◌, ◌<◌, ◌≤◌}
use native.Mathlib.Omega.{arith}
use mathlib.Core.Path.{◌≡◌, refl, sym, ap, ◌∙◌}
use mathlib.Core.Bool.{Bool, true, false, cond}
use mathlib.Core.Logic.{⊎_elim}
use mathlib.Core.List.{List, [], ◌∷◌}
use lib.Dec.{eqb}
use lib.ListN.{length, get_or, take, drop, length-drop}
use lib.Seq.{take_all}
use Rattle.laws.specs.Split.{split, joined, piece_of, between, end_of}
use Rattle.laws.proofs.Split.{split-some, split_one, joined-split}
use Rattle.laws.proofs.Tests.{le-or-lt}
use Rattle.text.proofs.Passing.{Passed, passed_none, passed-more, next-piece, count-last}
use Rattle.fields.specs.declared.correction_code.CorrectionCode.{CorrectionCode}
use Rattle.layout.specs.declared.part.Part.{Part}
use Rattle.layout.specs.Part.{part_of}
use Rattle.layout.specs.Correction.{head_of, reported_of, sound_of, three_of, correction_of}
use Rattle.layout.proofs.PartTrip.{part-back}
use Rattle.layout.proofs.RecordBytes.{lacks-part}
use Rattle.layout.proofs.CorrectionLaws.{correction-count, correction-three, three-1, three-2, three-3, three-4}

-- a single piece is the whole
single : (t : List ℕ) (fs : List (List ℕ)) → length fs ≡ 1 → joined 58 fs ≡ t → get_or fs 0 [] ≡ t
single t [] l e = absurd (omega arith)
single t (f ∷ []) l e = e
single t (f ∷ g ∷ fs) l e = absurd (omega arith)

pub part-rest : (s : List ℕ) (at : ℕ) {r : Option Part} → part_of (take (length s - at) (drop at s)) ≡ r → part_of (drop at s) ≡ r
part-rest s at p = ap part_of (sym (take_all (length s - at) (drop at s) (omega (arith, length-drop at s)))) ∙ p

module _ (s : List ℕ) where
  fault-any : three_of (piece_of 58 s 0) (piece_of 58 s 1) (piece_of 58 s 2) ≡ None → correction_of s ≡ None
  unfolding correction_of
  fault-any p = rw p (go (eqb (length (split 58 s)) 3))
    where
      go : (t : Bool) → cond {A = Option Correction} t None None ≡ None
      go true = refl
      go false = refl

  module _ {a : ℕ} (q₁ : a ≡ end_of 58 s 0) where
    pub colon-1 : length s ≤ a → correction_of s ≡ None
    colon-1 h = correction-count s (λ e. omega (arith, count-last (passed_none 58 s) q₁ h))

    pub head-1 : head_of (between s 0 a) ≡ None → correction_of s ≡ None
    head-1 p = fault-any (three-1 _ _ _ (ap head_of (next-piece (passed_none 58 s) q₁) ∙ p))

    module _ (h₁ : a < length s) {code : CorrectionCode} (p₁ : head_of (between s 0 a) ≡ Some code) {b : ℕ} (q₂ : b ≡ end_of 58 s (a + 1)) where
      pub one : Passed 58 s 1 (a + 1)
      one = passed-more (passed_none 58 s) q₁ h₁

      head : head_of (piece_of 58 s 0) ≡ Some code
      head = ap head_of (next-piece (passed_none 58 s) q₁) ∙ p₁

      pub colon-2 : length s ≤ b → correction_of s ≡ None
      colon-2 h = correction-count s (λ e. omega (arith, count-last one q₂ h))

      pub reported-2 : reported_of (between s (a + 1) b) ≡ None → correction_of s ≡ None
      reported-2 p = fault-any (three-2 _ _ _ head (ap reported_of (next-piece one q₂) ∙ p))

      module _ (h₂ : b < length s) {u : Part} (p₂ : reported_of (between s (a + 1) b) ≡ Some u) where
        two : Passed 58 s 2 (b + 1)
        two = passed-more one q₂ h₂

        reported : reported_of (piece_of 58 s 1) ≡ Some u
        reported = ap reported_of (next-piece one q₂) ∙ p₂

        last : length (split 58 (drop (b + 1) s)) ≡ 1 → piece_of 58 s 2 ≡ drop (b + 1) s
        last l = two.pieces 0 ∙ single (drop (b + 1) s) (split 58 (drop (b + 1) s)) l (joined-split 58 (drop (b + 1) s))

        pub part-3 : part_of (drop (b + 1) s) ≡ None → correction_of s ≡ None
        part-3 p =
            ⊎_elim
            (λ (h : 2 ≤ length (split 58 (drop (b + 1) s))). correction-count s (λ e. omega (arith, two.count)))
            (λ (h : length (split 58 (drop (b + 1) s)) < 2). fault-any (three-3 _ _ _ head reported (ap part_of (last (omega (arith, split-some 58 (drop (b + 1) s)))) ∙ p)))
            (le-or-lt 2 (length (split 58 (drop (b + 1) s))))

        pub part-4 : {k : Part} → part_of (drop (b + 1) s) ≡ Some k → correction_of s ≡ sound_of code u k
        part-4 {k} p =
            let l : length (split 58 (drop (b + 1) s)) ≡ 1 = ap length (split_one 58 (drop (b + 1) s) (rw (part-back (drop (b + 1) s) k p).0 at (lacks-part k))) in
            correction-three s (omega (arith, two.count)) ∙ three-4 _ _ _ head reported (ap part_of (last l) ∙ p)

-- what the reader needs
pub ruleset walks = (part-rest, one, colon-1, head-1, colon-2, reported-2, part-3, part-4)
