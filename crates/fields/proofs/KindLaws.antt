-- The kind: reading and writing undo each other. Assumes nothing.
use Rattle.std.specs.Prelude.{Option, Some, None}
use Prim.Native.Nat.{ℕ}
use native.Mathlib.Omega.{arith}
use mathlib.Core.Path.{◌≡◌, refl, sym, ap, ◌∙◌}
use mathlib.Core.Bool.{Bool, true, false, cond}
use mathlib.Core.List.{List, [], ◌∷◌}
use lib.Dec.{eqb}
use lib.ListN.{length}
use borrow.Author.Tests.{eqb-true, ne_eqb}
use Rattle.fields.specs.declared.kind.Kind.{Kind}
use Rattle.fields.specs.declared.kind.Kind.TheVariants.{P, L, Z}
use Rattle.fields.specs.Kind.{kind_by, kind_of, kind_fits, kind_text, maybe_kind_of, maybe_kind_text}
use Rattle.fields.specs.Field.{Trips, IsFixed, maybe_fits}
use Rattle.fields.proofs.ByteLaws.{bytes-kind}
use Rattle.fields.proofs.FieldLaws.{maybe_trips}

pub length-kind : (k : Kind) → length (kind_text k) ≡ 1
length-kind P = refl
length-kind L = refl
length-kind Z = refl

-- what was written is read back
pub kind-trip : (k : Kind) → kind_of (kind_text k) ≡ Some k
unfolding kind_of kind_by
kind-trip P = refl
kind-trip L = refl
kind-trip Z = refl

kind-same : (j k : Kind) → Some j ≡ Some k → j ≡ k
kind-same j k e = cc

-- what was read is written again
pub kind-back : (f : List ℕ) (k : Kind) → kind_of f ≡ Some k → kind_text k ≡ f
unfolding kind_of kind_by
kind-back [] k e = absurd (let z : ◌≡◌ {A = ℕ} 0 1 = cc in omega arith)
kind-back (b ∷ []) k e = go (eqb b 80) (eqb b 76) (eqb b 90) refl refl refl e
  where
    letter : (m : ℕ) (j : Kind) → kind_text j ≡ m ∷ [] → b ≡ m → j ≡ k → kind_text k ≡ b ∷ []
    letter m j t p q = ap kind_text (sym q) ∙ t ∙ ap (λ (x : ℕ). x ∷ []) (sym p)

    go : (p l z : Bool) → eqb b 80 ≡ p → eqb b 76 ≡ l → eqb b 90 ≡ z → cond p (Some P) (cond l (Some L) (cond z (Some Z) None)) ≡ Some k → kind_text k ≡ b ∷ []
    go true l z p q r e =
        let w : P ≡ k = kind-same P k e in
        letter 80 P refl (eqb-true b 80 p) w
    go false true z p q r e =
        let w : L ≡ k = kind-same L k e in
        letter 76 L refl (eqb-true b 76 q) w
    go false false true p q r e =
        let w : Z ≡ k = kind-same Z k e in
        letter 90 Z refl (eqb-true b 90 r) w
    go false false false p q r e = absurd (let z : ◌≡◌ {A = ℕ} 0 1 = cc in omega arith)
kind-back (b ∷ b' ∷ f) k e =
    let w : None ≡ Some k = rw (ne_eqb (length (b ∷ b' ∷ f)) 1 (λ h. omega arith)) at e in
    absurd (let z : ◌≡◌ {A = ℕ} 0 1 = cc in omega arith)

-- ---- every kind can be written; a field that may be empty
pub kind-always : (k : Option Kind) → maybe_fits kind_fits k ≡ true
kind-always (Some k) = refl
kind-always None = refl

pub kinds : Trips kind_of kind_fits kind_text
kinds = record { trip = λ k h. kind-trip k; back = λ f k e. (kind-back f k e, refl) }

pub kind-fixed : IsFixed 1 kind_text
kind-fixed = record { some = omega arith; size = length-kind; bytes = bytes-kind }

pub maybe-kind-trip : (k : Option Kind) → maybe_kind_of (maybe_kind_text k) ≡ Some k
maybe-kind-trip k = (maybe_trips kinds kind-fixed).trip k (kind-always k)

pub maybe-kind-back : (f : List ℕ) (k : Option Kind) → maybe_kind_of f ≡ Some k → maybe_kind_text k ≡ f
maybe-kind-back f k e = ((maybe_trips kinds kind-fixed).back f k e).0
