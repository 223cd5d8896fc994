-- A given line, field by field, as the code reads it; and a line that is given is well formed. Assumes nothing.
use Rattle.std.specs.Prelude.{Option, Some, None}
use mathlib.Core.Path.{◌≡◌, refl, ap, ◌∙◌}
use mathlib.Core.Bool.{Bool, true, false, cond}
use mathlib.Core.List.{List}
use Prim.Native.Nat.{ℕ, ◌-◌}
use native.Mathlib.Omega.{arith}
use lib.Dec.{eqb}
use lib.ListN.{length}
use borrow.Author.Tests.{eq-eqb, ne_eqb}
use Rattle.laws.specs.Split.{split, piece_of}
use Rattle.calendar.specs.Dates.{in_calendar}
use Rattle.calendar.specs.declared.dates.CalendarDays.{CalendarDays}
use Rattle.fields.specs.Code.{code_of, code_fits}
use Rattle.fields.specs.Date.{date_field_of}
use Rattle.fields.specs.Number.{digits_field_of, digits_fits, is_empty, number_of, number_fits}
use Rattle.fields.specs.declared.code.Code.{Code}
use Rattle.fields.specs.declared.number.Digits.{Digits}
use Rattle.fields.specs.declared.number.Number.{Number}
use Rattle.fields.proofs.CodeLaws.{code-back}
use Rattle.fields.proofs.DateLaws.{date-field-back}
use Rattle.fields.proofs.NumberLaws.{digits-back, number-back}
use Rattle.store.specs.numbers.Lines.{good_line}
use Rattle.store.specs.declared.numbers.lines.Line.{Line}
use Rattle.starting.specs.tables.Given.{on_digits, on_number, on_code, on_date, four_of, line_given}

-- ---- how many fields there are
module _ (l : List ℕ) where
  pub line-count : (length (split 44 l) - 1 ≡ 3 → ⊥) → line_given l ≡ None
  unfolding line_given
  line-count n = rw (ne_eqb (length (split 44 l)) 4 (λ e. n (omega arith)))

  pub line-four : length (split 44 l) - 1 ≡ 3 → line_given l ≡ four_of (piece_of 44 l 0) (piece_of 44 l 1) (piece_of 44 l 2) (piece_of 44 l 3)
  unfolding line_given
  line-four e = rw (eq-eqb (length (split 44 l)) 4 (omega arith))

-- ---- which way the four fields go
module _ (a b c d : List ℕ) where
  pub four-1 : digits_field_of a ≡ None → four_of a b c d ≡ None
  unfolding four_of
  four-1 p₁ = rw p₁

  module _ {first : Digits} (p₁ : digits_field_of a ≡ Some first) where
    pub four-empty : is_empty first ≡ true → four_of a b c d ≡ None
    unfolding four_of
    four-empty p₀ = rw (p₁, p₀)

    module _ (p₀ : is_empty first ≡ false) where
      pub four-2 : number_of first b ≡ None → four_of a b c d ≡ None
      unfolding four_of
      four-2 p₂ = rw (p₁, p₀, p₂)

      module _ {number : Number} (p₂ : number_of first b ≡ Some number) where
        pub four-3 : code_of c ≡ None → four_of a b c d ≡ None
        unfolding four_of
        four-3 p₃ = rw (p₁, p₀, p₂, p₃)

        module _ {owner : Code} (p₃ : code_of c ≡ Some owner) where
          pub four-4 : date_field_of d ≡ None → four_of a b c d ≡ None
          unfolding four_of
          four-4 p₄ = rw (p₁, p₀, p₂, p₃, p₄)

          pub four-5 : {setup : CalendarDays} → date_field_of d ≡ Some setup → four_of a b c d ≡ Some (record { number = number; owner = owner; setup = setup })
          unfolding four_of
          four-5 p₄ = rw (p₁, p₀, p₂, p₃, p₄)

-- ---- a line that is given is well formed
no-fault : (x : Line) → None ≡ Some x → ⊥
no-fault x e = let z : ◌≡◌ {A = ℕ} 0 1 = cc in omega arith

abbrev when_day : Number → Code → CalendarDays → Option Line
when_day number owner setup = Some (record { number = number; owner = owner; setup = setup })

abbrev when_owner : List ℕ → Number → Code → Option Line
when_owner d number owner = on_date (date_field_of d) (when_day number owner)

abbrev when_number : List ℕ → List ℕ → Number → Option Line
when_number c d number = on_code (code_of c) (when_owner d number)

abbrev when_digits : List ℕ → List ℕ → List ℕ → Digits → Option Line
when_digits b c d first = cond (is_empty first) None (on_number (number_of first b) (when_number c d))

module _ (x : Line) where
  by-day : (d : List ℕ) (number : Number) (owner : Code) → number_fits number ≡ true → is_empty number.first ≡ false → code_fits owner ≡ true
      → when_owner d number owner ≡ Some x → good_line x ≡ true
  unfolding good_line
  by-day d number owner n i o e = go (date_field_of d) refl e
    where
      go : (r : Option CalendarDays) → date_field_of d ≡ r → on_date r (when_day number owner) ≡ Some x → good_line x ≡ true
      go (Some s) p q =
          let same : ◌≡◌ {A = Line} (record { number = number; owner = owner; setup = s }) x = cc in
          let day : in_calendar s.0 ≡ true = (date-field-back d s p).1 in
          rw (← same, n, i, o, day)
      go None p q = absurd (no-fault x q)

  by-owner : (c d : List ℕ) (number : Number) → number_fits number ≡ true → is_empty number.first ≡ false → when_number c d number ≡ Some x → good_line x ≡ true
  by-owner c d number n i e = go (code_of c) refl e
    where
      go : (r : Option Code) → code_of c ≡ r → on_code r (when_owner d number) ≡ Some x → good_line x ≡ true
      go (Some o) p q = by-day d number o n i (code-back c o p).1 q
      go None p q = absurd (no-fault x q)

  by_number : (b c d : List ℕ) (first : Digits) → digits_fits first ≡ true → is_empty first ≡ false → on_number (number_of first b) (when_number c d) ≡ Some x → good_line x ≡ true
  by_number b c d first f i e = go (number_of first b) refl e
    where
      go : (r : Option Number) → number_of first b ≡ r → on_number r (when_number c d) ≡ Some x → good_line x ≡ true
      go (Some n) p q =
          let back = number-back first b n f p in
          by-owner c d n back.2 (ap is_empty back.0 ∙ i) q
      go None p q = absurd (no-fault x q)

  by_digits : (b c d : List ℕ) (first : Digits) → digits_fits first ≡ true → when_digits b c d first ≡ Some x → good_line x ≡ true
  by_digits b c d first f e = go (is_empty first) refl e
    where
      go : (t : Bool) → is_empty first ≡ t → cond t None (on_number (number_of first b) (when_number c d)) ≡ Some x → good_line x ≡ true
      go true p q = absurd (no-fault x q)
      go false p q = by_number b c d first f p q

  four-good : (a b c d : List ℕ) → four_of a b c d ≡ Some x → good_line x ≡ true
  unfolding four_of
  four-good a b c d e = go (digits_field_of a) refl e
    where
      go : (r : Option Digits) → digits_field_of a ≡ r → on_digits r (when_digits b c d) ≡ Some x → good_line x ≡ true
      go (Some first) p q = by_digits b c d first (digits-back a first p).1 q
      go None p q = absurd (no-fault x q)

  pub line-good : (l : List ℕ) → line_given l ≡ Some x → good_line x ≡ true
  unfolding line_given
  line-good l e = go (eqb (length (split 44 l)) 4) e
    where
      go : (t : Bool) → cond t (four_of (piece_of 44 l 0) (piece_of 44 l 1) (piece_of 44 l 2) (piece_of 44 l 3)) None ≡ Some x → good_line x ≡ true
      go true q = four-good (piece_of 44 l 0) (piece_of 44 l 1) (piece_of 44 l 2) (piece_of 44 l 3) q
      go false q = absurd (no-fault x q)
