-- A field that may be empty: reading and writing undo each other, and what a plain word gives fits. Assumes nothing.
use Rattle.std.specs.Prelude.{Option, Some, None}
use Prim.Native.Nat.{ℕ}
use native.Mathlib.Omega.{arith}
use mathlib.Core.Path.{◌≡◌, refl, ap}
use mathlib.Core.Bool.{Bool, true, false, cond}
use mathlib.Core.List.{List, [], ◌∷◌}
use lib.Dec.{eqb}
use lib.ListN.{length}
use borrow.Author.Tests.{ne_eqb}
use Rattle.fields.specs.Field.{Trips, IsFixed, maybe_from, maybe_of, maybe_fits, maybe_of_word, maybe_text}

module _ {A : Type 0} {of : List ℕ → Option A} {fits : A → Bool} {text : A → List ℕ} (t : Trips of fits text) where
  -- no value of a fixed width is spelt in no bytes
  maybe-trip : {k : ℕ} → IsFixed k text → (x : Option A) → maybe_fits fits x ≡ true → maybe_of of (maybe_text text x) ≡ Some x
  unfolding maybe_of maybe_from
  maybe-trip w (Some x) h =
      rw (ne_eqb (length (text x)) 0 (λ z. omega (arith, w.size x, w.some))) (ap maybe_from (t.trip x h))
  maybe-trip w None h = refl

  maybe-back : (f : List ℕ) (x : Option A) → maybe_of of f ≡ Some x → (maybe_text text x ≡ f) × (maybe_fits fits x ≡ true)
  unfolding maybe_of maybe_from
  maybe-back [] x h =
      let e : None ≡ x = cc in
      (rw (← e), rw (← e))
  maybe-back (b ∷ f) x h = go (of (b ∷ f)) refl (rw (ne_eqb (length (b ∷ f)) 0 (λ z. omega arith)) at h)
    where
      go : (r : Option A) → of (b ∷ f) ≡ r → maybe_from r ≡ Some x → (maybe_text text x ≡ b ∷ f) × (maybe_fits fits x ≡ true)
      go (Some y) q e =
          let w : Some y ≡ x = cc in
          rw (← w) (t.back (b ∷ f) y q)
      go None q e = absurd (let z : ◌≡◌ {A = ℕ} 0 1 = cc in omega arith)

  pub maybe_trips : {k : ℕ} → IsFixed k text → Trips (maybe_of of) (maybe_fits fits) (maybe_text text)
  maybe_trips w = record { trip = maybe-trip w; back = maybe-back }

pub maybe-word : {A : Type 0} (none : ℕ) {of : ℕ → Option A} {fits : A → Bool} → ((w : ℕ) (x : A) → of w ≡ Some x → fits x ≡ true)
    → (w : ℕ) (x : Option A) → maybe_of_word none of w ≡ Some x → maybe_fits fits x ≡ true
unfolding maybe_of_word maybe_from
maybe-word {A = A} none {of = of} {fits = fits} good w x h = go (eqb w none) (of w) refl h
  where
    go : (t : Bool) (r : Option A) → of w ≡ r → cond t (Some None) (maybe_from r) ≡ Some x → maybe_fits fits x ≡ true
    go true r q e = let same : None ≡ x = cc in rw (← same)
    go false (Some y) q e = let same : Some y ≡ x = cc in rw (← same) (good w y q)
    go false None q e = absurd (let z : ◌≡◌ {A = ℕ} 0 1 = cc in omega arith)
