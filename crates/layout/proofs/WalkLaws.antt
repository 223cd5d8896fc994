-- A walk through a part's fields: what the reader of each gives, and that the walk reads what the six pieces between commas say. Assumes nothing.
use Rattle.layout.specs.declared.part.Part.{Part}
use Rattle.fields.specs.declared.kind.Kind.{Kind}
use Rattle.calendar.specs.declared.dates.CalendarDays.{CalendarDays}
use Rattle.fields.specs.declared.code.Code.{Code}
use Rattle.std.specs.Prelude.{Option, Some, None}
use Prim.Native.Nat.{ℕ, ◌+◌, ◌-◌, ◌<◌, ◌≤◌}
use native.Mathlib.Omega.{arith}
use mathlib.Core.Path.{◌≡◌, refl, sym, ap, ◌∙◌}
use mathlib.Core.Bool.{cond}
use mathlib.Core.Logic.{⊎_elim}
use mathlib.Core.List.{List, [], ◌∷◌, ◌++◌}
use lib.Dec.{eqb}
use lib.ListN.{length, get_or, drop, length-append, drop_of_length-le}
use lib.Seq.{take-nil}
use borrow.Author.Tests.{lt-ltb, le-ltb, ne_eqb}
use Rattle.laws.specs.Split.{split, joined, between, end_of}
use Rattle.laws.proofs.Split.{split-some, ends_at, ends_more, ends_last, joined-split}
use Rattle.laws.proofs.Tests.{le-or-lt}
use Rattle.fields.specs.declared.number.Digits.{Digits}
use Rattle.fields.specs.declared.number.Number.{Number}
use Rattle.fields.specs.Code.{maybe_code_of}
use Rattle.fields.specs.Date.{maybe_date_of}
use Rattle.fields.specs.Field.{maybe_from, maybe_of}
use Rattle.fields.specs.Kind.{kind_by, kind_of, maybe_kind_of}
use Rattle.fields.specs.Number.{digits_field_of, number_of}
use Rattle.layout.specs.Part.{on, on_kind, six_of, part_of}
use Rattle.layout.specs.Walk.{then_next, found_at}

pub end-from : (s : List ℕ) (at : ℕ) → at ≤ end_of 44 s at
unfolding end_of
end-from s at = omega arith

-- the field that starts at a place is the last, or others follow its comma
last-here : (s : List ℕ) (at : ℕ) → length s ≤ end_of 44 s at → split 44 (drop at s) ≡ between s at (end_of 44 s at) ∷ []
unfolding split
last-here s at h = ⊎_elim (λ (l : length s ≤ at). rw (drop_of_length-le s l, take-nil (end_of 44 s at - at))) (λ (l : at < length s). ends_last (ends_at 44 s at (omega arith)) h) (le-or-lt (length s) at)

more-here : (s : List ℕ) (at : ℕ) → end_of 44 s at < length s → split 44 (drop at s) ≡ between s at (end_of 44 s at) ∷ split 44 (drop (end_of 44 s at + 1) s)
more-here s at h = ends_more (ends_at 44 s at (omega (arith, end-from s at))) h

-- ---- any field that a comma follows, whatever it holds: a reader of the pieces goes as one does that starts at a place of the line. A piece alone is the last
-- field, which no comma follows
abbrev on_next : {X : Type 0} → Option (X × ℕ) → (X → ℕ → Option Part) → Option Part
on_next (Some (x, next)) k = k x next
on_next None k = None

stops : {X : Type 0} (r : Option X) (k : X → Option Part) → ((x : X) → k x ≡ None) → on r None k ≡ None
stops (Some x) k h = h x
stops None k h = refl

goes : {X : Type 0} (r : Option X) (k : X → ℕ → Option Part) (next : ℕ) → on r None (λ x. k x next) ≡ on_next (then_next r next) k
goes (Some x) k next = refl
goes None k next = refl

module _ {X : Type 0} (of : List ℕ → Option X) where
  unfoldable headed : (X → List (List ℕ) → Option Part) → List (List ℕ) → Option Part
  headed K [] = None
  headed K (f ∷ fs) = on (of f) None λ x. K x fs

  module _ (s : List ℕ) (at e : ℕ) (q : e ≡ end_of 44 s at) where
    pub found-none : length s ≤ e → found_at of s at ≡ None
    unfolding found_at
    found-none h = rw (← q, le-ltb e (length s) h)

    pub found-some : e < length s → {r : Option X} → of (between s at e) ≡ r → found_at of s at ≡ then_next r (e + 1)
    unfolding found_at
    found-some h p = rw (← q, lt-ltb e (length s) h, p)

  headed-at : (K : X → List (List ℕ) → Option Part) → ((x : X) → K x [] ≡ None) → (s : List ℕ) (at : ℕ) → headed K (split 44 (drop at s)) ≡ on_next (found_at of s at) (λ x next. K x (split 44 (drop next s)))
  unfolding headed
  headed-at K none s at =
      let e : ℕ = end_of 44 s at in
      let k : X → ℕ → Option Part = λ x next. K x (split 44 (drop next s)) in
      ⊎_elim
      (λ (h : length s ≤ e). ap (headed K) (last-here s at h) ∙ stops (of (between s at e)) (λ x. K x []) none ∙ sym (ap (λ (r : Option (X × ℕ)). on_next r k) (found-none s at e refl h)))
      (λ (h : e < length s). ap (headed K) (more-here s at h) ∙ goes (of (between s at e)) k (e + 1) ∙ ap (λ (r : Option (X × ℕ)). on_next r k) (sym (found-some s at e refl h refl)))
      (le-or-lt (length s) e)

-- ---- the kind, which ends the part
abbrev kind_last : Number → Option CalendarDays → Option Code → Option Code → List (List ℕ) → Option Part
kind_last number date gaining losing [] = None
kind_last number date gaining losing (f ∷ []) = on_kind (maybe_kind_of f) None λ kind. Some (record { number = number; date = date; gaining = gaining; losing = losing; kind = kind })
kind_last number date gaining losing (f ∷ g ∷ fs) = None

-- no kind has a comma
kind-comma : (f t : List ℕ) → maybe_kind_of (f ++ 44 ∷ t) ≡ None
unfolding maybe_of maybe_from kind_of kind_by
kind-comma [] [] = refl
kind-comma [] (x ∷ t) = rw (ne_eqb (length (44 ∷ x ∷ t)) 0 (λ e. omega arith), ne_eqb (length (44 ∷ x ∷ t)) 1 (λ e. omega arith))
kind-comma (y ∷ f) t =
    rw (ne_eqb (length (y ∷ (f ++ 44 ∷ t))) 0 (λ e. omega arith), ne_eqb (length (y ∷ (f ++ 44 ∷ t))) 1 (λ e. omega (arith, length-append f (44 ∷ t))))

kind_at : (number : Number) (date : Option CalendarDays) (gaining losing : Option Code) (t : List ℕ)
    → kind_last number date gaining losing (split 44 t) ≡ on_kind (maybe_kind_of t) None λ kind. Some (record { number = number; date = date; gaining = gaining; losing = losing; kind = kind })
kind_at number date gaining losing t = go (split 44 t) (split-some 44 t) (joined-split 44 t)
  where
    k : Option (Option Kind) → Option Part
    k r = on_kind r None λ kind. Some (record { number = number; date = date; gaining = gaining; losing = losing; kind = kind })

    go : (fs : List (List ℕ)) → 1 ≤ length fs → joined 44 fs ≡ t → kind_last number date gaining losing fs ≡ k (maybe_kind_of t)
    go [] h e = absurd (omega arith)
    go (f ∷ []) h e = ap (λ (l : List ℕ). k (maybe_kind_of l)) e
    go (f ∷ g ∷ fs) h e = ap k (sym (kind-comma f (joined 44 (g ∷ fs)))) ∙ ap (λ (l : List ℕ). k (maybe_kind_of l)) e

-- ---- the six of them, from each on
abbrev from_losing : Number → Option CalendarDays → Option Code → List (List ℕ) → Option Part
from_losing number date gaining fs = headed maybe_code_of (λ losing. kind_last number date gaining losing) fs

abbrev from_gaining : Number → Option CalendarDays → List (List ℕ) → Option Part
from_gaining number date fs = headed maybe_code_of (λ gaining. from_losing number date gaining) fs

abbrev from_date : Number → List (List ℕ) → Option Part
from_date number fs = headed maybe_date_of (λ date. from_gaining number date) fs

abbrev from_last : Digits → List (List ℕ) → Option Part
from_last first fs = headed (number_of first) (λ number. from_date number) fs

abbrev from_first : List (List ℕ) → Option Part
from_first fs = headed digits_field_of (λ first. from_last first) fs

-- no more and no fewer
kind-count : (number : Number) (date : Option CalendarDays) (gaining losing : Option Code) (fs : List (List ℕ)) → (length fs ≡ 1 → ⊥) → kind_last number date gaining losing fs ≡ None
kind-count number date gaining losing [] n = refl
kind-count number date gaining losing (f ∷ []) n = absurd (n refl)
kind-count number date gaining losing (f ∷ g ∷ fs) n = refl

losing-count : (number : Number) (date : Option CalendarDays) (gaining : Option Code) (fs : List (List ℕ)) → (length fs ≡ 2 → ⊥) → from_losing number date gaining fs ≡ None
unfolding headed
losing-count number date gaining [] n = refl
losing-count number date gaining (f ∷ fs) n = stops (maybe_code_of f) _ (λ x. kind-count number date gaining x fs (λ e. n (omega arith)))

gaining-count : (number : Number) (date : Option CalendarDays) (fs : List (List ℕ)) → (length fs ≡ 3 → ⊥) → from_gaining number date fs ≡ None
unfolding headed
gaining-count number date [] n = refl
gaining-count number date (f ∷ fs) n = stops (maybe_code_of f) _ (λ x. losing-count number date x fs (λ e. n (omega arith)))

date-count : (number : Number) (fs : List (List ℕ)) → (length fs ≡ 4 → ⊥) → from_date number fs ≡ None
unfolding headed
date-count number [] n = refl
date-count number (f ∷ fs) n = stops (maybe_date_of f) _ (λ x. gaining-count number x fs (λ e. n (omega arith)))

last-count : (first : Digits) (fs : List (List ℕ)) → (length fs ≡ 5 → ⊥) → from_last first fs ≡ None
unfolding headed
last-count first [] n = refl
last-count first (f ∷ fs) n = stops (number_of first f) _ (λ x. date-count x fs (λ e. n (omega arith)))

first_count : (fs : List (List ℕ)) → (length fs ≡ 6 → ⊥) → from_first fs ≡ None
unfolding headed
first_count [] n = refl
first_count (f ∷ fs) n = stops (digits_field_of f) _ (λ x. last-count x fs (λ e. n (omega arith)))

part-pieces : (fs : List (List ℕ)) → cond (eqb (length fs) 6) (six_of (get_or fs 0 []) (get_or fs 1 []) (get_or fs 2 []) (get_or fs 3 []) (get_or fs 4 []) (get_or fs 5 [])) None ≡ from_first fs
unfolding six_of headed
part-pieces [] = sym (first_count [] (λ q. omega arith))
part-pieces (a ∷ []) = sym (first_count (a ∷ []) (λ q. omega arith))
part-pieces (a ∷ b ∷ []) = sym (first_count (a ∷ b ∷ []) (λ q. omega arith))
part-pieces (a ∷ b ∷ c ∷ []) = sym (first_count (a ∷ b ∷ c ∷ []) (λ q. omega arith))
part-pieces (a ∷ b ∷ c ∷ d ∷ []) = sym (first_count (a ∷ b ∷ c ∷ d ∷ []) (λ q. omega arith))
part-pieces (a ∷ b ∷ c ∷ d ∷ e ∷ []) = sym (first_count (a ∷ b ∷ c ∷ d ∷ e ∷ []) (λ q. omega arith))
part-pieces (a ∷ b ∷ c ∷ d ∷ e ∷ f ∷ []) = refl
part-pieces (a ∷ b ∷ c ∷ d ∷ e ∷ f ∷ g ∷ fs) =
    rw (ne_eqb (length (a ∷ b ∷ c ∷ d ∷ e ∷ f ∷ g ∷ fs)) 6 (λ q. omega arith)) (sym (first_count (a ∷ b ∷ c ∷ d ∷ e ∷ f ∷ g ∷ fs) (λ q. omega arith)))

-- ---- which way the walk goes
module _ (s : List ℕ) where
  from-0 : part_of s ≡ on_next (found_at digits_field_of s 0) (λ first next. from_last first (split 44 (drop next s)))
  unfolding part_of headed
  from-0 = part-pieces (split 44 s) ∙ headed-at digits_field_of _ (λ first. refl) s 0

  pub walk_1 : found_at digits_field_of s 0 ≡ None → part_of s ≡ None
  walk_1 p₁ = from-0 ∙ rw p₁

  module _ {first : Digits} {a : ℕ} (p₁ : found_at digits_field_of s 0 ≡ Some (first, a)) where
    from-1 : part_of s ≡ on_next (found_at (number_of first) s a) (λ number next. from_date number (split 44 (drop next s)))
    unfolding headed
    from-1 = from-0 ∙ rw p₁ (headed-at (number_of first) _ (λ number. refl) s a)

    pub walk_2 : found_at (number_of first) s a ≡ None → part_of s ≡ None
    walk_2 p₂ = from-1 ∙ rw p₂

    module _ {number : Number} {b : ℕ} (p₂ : found_at (number_of first) s a ≡ Some (number, b)) where
      from-2 : part_of s ≡ on_next (found_at maybe_date_of s b) (λ date next. from_gaining number date (split 44 (drop next s)))
      unfolding headed
      from-2 = from-1 ∙ rw p₂ (headed-at maybe_date_of _ (λ date. refl) s b)

      pub walk_3 : found_at maybe_date_of s b ≡ None → part_of s ≡ None
      walk_3 p₃ = from-2 ∙ rw p₃

      module _ {date : Option CalendarDays} {c : ℕ} (p₃ : found_at maybe_date_of s b ≡ Some (date, c)) where
        from-3 : part_of s ≡ on_next (found_at maybe_code_of s c) (λ gaining next. from_losing number date gaining (split 44 (drop next s)))
        unfolding headed
        from-3 = from-2 ∙ rw p₃ (headed-at maybe_code_of _ (λ gaining. refl) s c)

        pub walk_4 : found_at maybe_code_of s c ≡ None → part_of s ≡ None
        walk_4 p₄ = from-3 ∙ rw p₄

        module _ {gaining : Option Code} {d : ℕ} (p₄ : found_at maybe_code_of s c ≡ Some (gaining, d)) where
          from-4 : part_of s ≡ on_next (found_at maybe_code_of s d) (λ losing next. kind_last number date gaining losing (split 44 (drop next s)))
          from-4 = from-3 ∙ rw p₄ (headed-at maybe_code_of _ (λ losing. refl) s d)

          pub walk_5 : found_at maybe_code_of s d ≡ None → part_of s ≡ None
          walk_5 p₅ = from-4 ∙ rw p₅

          module _ {losing : Option Code} {e : ℕ} (p₅ : found_at maybe_code_of s d ≡ Some (losing, e)) where
            from-5 : part_of s ≡ on_kind (maybe_kind_of (drop e s)) None λ kind. Some (record { number = number; date = date; gaining = gaining; losing = losing; kind = kind })
            from-5 = from-4 ∙ rw p₅ (kind_at number date gaining losing (drop e s))

            pub walk_6 : maybe_kind_of (drop e s) ≡ None → part_of s ≡ None
            walk_6 p₆ = from-5 ∙ rw p₆

            pub walk-7 : {kind : Option Kind} → maybe_kind_of (drop e s) ≡ Some kind → part_of s ≡ Some (record { number = number; date = date; gaining = gaining; losing = losing; kind = kind })
            walk-7 p₆ = from-5 ∙ rw p₆

pub ruleset walks = (walk_1, walk_2, walk_3, walk_4, walk_5, walk_6, walk-7)
