-- A field whose width is known, a date or a code, is empty or ends where its comma must stand, or the part is a fault. Assumes nothing.
use Rattle.std.specs.Prelude.{Option, Some, None}
use Prim.Native.Nat.{ℕ, suc, ◌+◌, ◌-◌, ◌<◌, ◌≤◌}
use native.Mathlib.Omega.{arith}
use mathlib.Core.Path.{◌≡◌, refl, sym, ap, ◌∙◌}
use mathlib.Core.Bool.{Bool, true, not}
use mathlib.Core.Logic.{⊎_elim}
use mathlib.Core.List.{List, [], ◌∷◌, ◌++◌}
use lib.Dec.{eqb}
use lib.ListN.{length, get_or, take, drop, length-drop, take-append-drop, drop_of_length-le}
use lib.Seq.{drop-cons, drop-drop, get_or-drop, length-take-le, take_all}
use borrow.Author.Tests.{eq-eqb, ne_eqb, eqb-true, lt-ltb, not-true}
use Rattle.laws.specs.Digits.{is_digit}
use Rattle.laws.specs.Lists.{all, first_at}
use Rattle.laws.specs.Split.{between, end_of, is_sep, is_not, lacks}
use Rattle.laws.proofs.Firsts.{any-first, first_passes}
use Rattle.laws.proofs.Loops.{first_on, first-here}
use Rattle.laws.proofs.Split.{ends_at, length-between, lacks-by}
use Rattle.laws.proofs.Tests.{and_left, and_right, le-or-lt}
use Rattle.fields.specs.Bytes.{field_byte}
use Rattle.fields.specs.Field.{Trips, IsFixed, maybe_from, maybe_of}
use Rattle.layout.specs.Walk.{found_at}
use Rattle.layout.proofs.WalkLaws.{end-from, found-none, found-some}

-- ---- where a field ends
first-append : (f r : List ℕ) → lacks 44 f ≡ true → first_at (is_sep 44) (f ++ 44 ∷ r) ≡ length f
unfolding all is_not is_sep
first-append [] r h = refl
first-append (b ∷ f) r h =
    rw (not-true (eqb b 44) (and_left (not (eqb b 44)) (lacks 44 f) h)) (ap suc (first-append f r (and_right (not (eqb b 44)) (lacks 44 f) h)))

module _ (s : List ℕ) (at : ℕ) where
  end_is : (e : ℕ) → at ≤ e → e < length s → get_or s e 0 ≡ 44 → lacks 44 (between s at e) ≡ true → end_of 44 s at ≡ e
  unfolding end_of
  end_is e l h comma none =
      let n : at + (e - at) ≡ e = omega arith in
      let behind : drop (e - at) (drop at s) ≡ 44 ∷ drop (suc e) s = drop-drop (e - at) at s ∙ ap (λ (i : ℕ). drop i s) n ∙ drop-cons s e 0 h ∙ ap (λ (b : ℕ). b ∷ drop (suc e) s) comma in
      let cut : between s at e ++ 44 ∷ drop (suc e) s ≡ drop at s = ap (λ (t : List ℕ). between s at e ++ t) (sym behind) ∙ take-append-drop (e - at) (drop at s) in
      let size : length (between s at e) ≡ e - at = length-take-le (e - at) (drop at s) (simp length-drop (omega arith)) in
      let first : first_at (is_sep 44) (drop at s) ≡ length (between s at e) = ap (first_at (is_sep 44)) (sym cut) ∙ first-append (between s at e) (drop (suc e) s) none in
      omega arith

  end-comma : end_of 44 s at < length s → get_or s (end_of 44 s at) 0 ≡ 44
  unfolding end_of is_sep
  end-comma h =
      let k : ℕ = first_at (is_sep 44) (drop at s) in
      let some = any-first (is_sep 44) (drop at s) ∙ lt-ltb k (length (drop at s)) (omega (arith, length-drop at s)) in
      sym (get_or-drop at s k 0) ∙ eqb-true _ _ (first_passes (is_sep 44) (drop at s) 0 some)

  end-here : at < length s → get_or s at 0 ≡ 44 → end_of 44 s at ≡ at
  unfolding end_of is_sep
  end-here h e = first-here (is_sep 44) 0 s at h (eq-eqb (get_or s at 0) 44 e)

  end-past : at < length s → (get_or s at 0 ≡ 44 → ⊥) → at < end_of 44 s at
  unfolding end_of is_sep
  end-past h n = omega (arith, first_on (is_sep 44) 0 s at h (ne_eqb (get_or s at 0) 44 n))

-- ---- a field of k bytes or none, whatever it is
module _ {A : Type 0} {of : List ℕ → Option A} {fits : A → Bool} {text : A → List ℕ} {k : ℕ} (t : Trips of fits text) (w : IsFixed k text) where
  -- what is read has k bytes, and no comma among them
  wide : (f : List ℕ) {x : A} → of f ≡ Some x → length f ≡ k
  wide f {x} r = ap length (sym (t.back f x r).0) ∙ w.size x

  clean : (f : List ℕ) {x : A} → of f ≡ Some x → lacks 44 f ≡ true
  unfolding field_byte is_digit
  clean f {x} r = rw (t.back f x r).0 at (lacks-by field_byte 44 refl (text x) (w.bytes x))

  filled : (f : List ℕ) → (length f ≡ 0 → ⊥) → {r : Option A} → of f ≡ r → maybe_of of f ≡ maybe_from r
  unfolding maybe_of
  filled f z p = rw (ne_eqb (length f) 0 z, p)

  -- the ways that a reader goes, which looks for an empty field first
  module _ (s : List ℕ) (at : ℕ) where
    pub past : length s ≤ at → found_at (maybe_of of) s at ≡ None
    past h = found-none (maybe_of of) s at (end_of 44 s at) refl (omega (arith, end-from s at))

    module _ (h : at < length s) where
      pub empty-here : get_or s at 0 ≡ 44 → found_at (maybe_of of) s at ≡ Some (None, at + 1)
      unfolding maybe_of
      empty-here e =
          let none : at - at ≡ 0 = omega arith in
          found-some (maybe_of of) s at at (sym (end-here s at h e)) h {r = Some None} (rw none refl)

      module _ (n : get_or s at 0 ≡ 44 → ⊥) where
        -- a field with a comma behind it that is read ends k bytes on
        ends : {x : A} → end_of 44 s at < length s → of (between s at (end_of 44 s at)) ≡ Some x → end_of 44 s at ≡ at + k
        ends b r =
            let l : length (between s at (end_of 44 s at)) ≡ end_of 44 s at - at = length-between (ends_at 44 s at (omega (arith, end-from s at))) in
            omega (arith, l, wide (between s at (end_of 44 s at)) r, end-past s at h n)

        -- so it is a fault where that can't be
        fault : ((x : A) → end_of 44 s at < length s → of (between s at (end_of 44 s at)) ≡ Some x → ⊥) → found_at (maybe_of of) s at ≡ None
        unfolding maybe_from
        fault never = ⊎_elim
            (λ (b : length s ≤ end_of 44 s at). found-none (maybe_of of) s at (end_of 44 s at) refl b)
            (λ (b : end_of 44 s at < length s). go b (of (between s at (end_of 44 s at))) refl)
            (le-or-lt (length s) (end_of 44 s at))
          where
            go : end_of 44 s at < length s → (r : Option A) → of (between s at (end_of 44 s at)) ≡ r → found_at (maybe_of of) s at ≡ None
            go b (Some x) r = absurd (never x b r)
            go b None r =
                let l : length (between s at (end_of 44 s at)) ≡ end_of 44 s at - at = length-between (ends_at 44 s at (omega (arith, end-from s at))) in
                found-some (maybe_of of) s at (end_of 44 s at) refl b {r = None} (filled (between s at (end_of 44 s at)) (λ z. omega (arith, l, z, end-past s at h n)) r)

        pub short : length s ≤ at + k → found_at (maybe_of of) s at ≡ None
        short b = fault (λ x l r. omega (arith, ends l r))

        module _ (b : at + k < length s) where
          pub unended : (get_or s (at + k) 0 ≡ 44 → ⊥) → found_at (maybe_of of) s at ≡ None
          unended m = fault (λ x l r. m (ap (λ (i : ℕ). get_or s i 0) (sym (ends l r)) ∙ end-comma s at l))

          pub unread : of (between s at (at + k)) ≡ None → found_at (maybe_of of) s at ≡ None
          unread none = fault (λ x l r. some-none (sym (ap (λ (i : ℕ). of (between s at i)) (ends l r)) ∙ r) none)
            where
              some-none : {x : A} → of (between s at (at + k)) ≡ Some x → of (between s at (at + k)) ≡ None → ⊥
              some-none p q = cc

          pub read : get_or s (at + k) 0 ≡ 44 → {x : A} → of (between s at (at + k)) ≡ Some x → found_at (maybe_of of) s at ≡ Some (Some x, at + k + 1)
          unfolding maybe_from
          read comma {x} r =
              let f : List ℕ = between s at (at + k) in
              let e : end_of 44 s at ≡ at + k = end_is s at (at + k) (omega arith) b comma (clean f r) in
              found-some (maybe_of of) s at (at + k) (sym e) b {r = Some (Some x)} (filled f (λ z. omega (arith, z, wide f r, w.some)) r)

-- a width by another name
pub fixed_as : {A : Type 0} {text : A → List ℕ} {j k : ℕ} → IsFixed k text → j ≡ k → IsFixed j text
fixed_as w e = rw e w

-- ---- the last field
module _ {A : Type 0} (of : List ℕ → Option A) (s : List ℕ) (at : ℕ) where
  pub last-empty : length s ≤ at → maybe_of of (drop at s) ≡ Some None
  unfolding maybe_of
  last-empty h = rw (drop_of_length-le s h) refl

  pub last-read : at < length s → {r : Option A} → of (take (length s - at) (drop at s)) ≡ r → maybe_of of (drop at s) ≡ maybe_from r
  unfolding maybe_of
  last-read h {r} e =
      let whole : take (length s - at) (drop at s) ≡ drop at s = take_all (length s - at) (drop at s) (omega (arith, length-drop at s)) in
      let found : of (drop at s) ≡ r = rw whole at e in
      rw (ne_eqb (length (drop at s)) 0 (λ z. omega (arith, length-drop at s)), found)

pub ruleset last_ones = (last-empty, last-read)
