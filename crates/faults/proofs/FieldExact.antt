-- One field is right exactly if it is read, or is empty where it may be. Assumes nothing.
--     alone-right                  for any form of a field whose values are as long as the form asks and made of characters of 4.4.1
--     field-right, field-bytes     the same for values made of the bytes of fields; a field of such a form that is right is made of them
--     needed                       the same where the field must not be empty
--     digits-right, date-right, code-right, kind-right, correction-code-right, mark-right, nothing_right     each form
--     digits-bytes, date-bytes, code-bytes, kind-bytes                                                       its bytes
--     correction-code-made                                                                                   a correction's code: its length and bytes
use Rattle.std.specs.List.{list_all}
use Rattle.std.specs.Prelude.{Result, Ok, Err, is_ok, is_some, ⊤}
use Rattle.fields.specs.declared.number.Digits.{Digits}
use Rattle.fields.specs.declared.kind.Kind.{Kind}
use Rattle.calendar.specs.declared.dates.CalendarDays.{CalendarDays}
use Rattle.fields.specs.declared.correction_code.CorrectionCode.{CorrectionCode}
use Rattle.fields.specs.declared.code.Code.{Code}
use Rattle.std.specs.Prelude.{Option, Some, None}
use Prim.Native.Nat.{ℕ}
use native.Mathlib.Omega.{arith}
use mathlib.Core.Path.{◌≡◌, refl, sym, ap, ◌∙◌}
use mathlib.Core.Bool.{Bool, true, false, cond, ◌&&◌, ◌||◌}
use mathlib.Core.List.{List, [], ◌∷◌}
use lib.Dec.{eqb, leb}
use lib.ListN.{length}
use borrow.Author.Tests.{eq-eqb, ne_eqb, eqb-true, leb-true, le-leb}
use Rattle.laws.specs.Lists.{all, same_lists}
use Rattle.laws.specs.Digits.{is_digit}
use Rattle.laws.proofs.Tests.{and_left, and_right, and-true, never, either, chosen}
use Rattle.laws.proofs.Tables.{all_weaker}
use Rattle.laws.proofs.Digits.{length_digits}
use Rattle.laws.proofs.Same.{numbers-equal}
use Rattle.fields.specs.Bytes.{field_byte}
use Rattle.fields.specs.Code.{code_of}
use Rattle.fields.specs.CorrectionCode.{correction_code_of}
use Rattle.fields.specs.Date.{date_field_of}
use Rattle.fields.specs.Kind.{kind_of}
use Rattle.fields.specs.Number.{digits_field_of, digits_size}
use Rattle.fields.proofs.ByteLaws.{bytes-digits, bytes-code, bytes-maybe-date, bytes-maybe-kind}
use Rattle.fields.proofs.CodeLaws.{code-back, length-code}
use Rattle.fields.proofs.CorrectionCodeLaws.{correction-code-back}
use Rattle.fields.proofs.DateLaws.{date-field-back, length-date}
use Rattle.fields.proofs.KindLaws.{kind-back, length-kind}
use Rattle.fields.proofs.NumberLaws.{digits-back, digits-counted, fits-size}
use Rattle.faults.specs.declared.cause.Cause.{Cause}
use Rattle.faults.specs.declared.cause.Cause.TheVariants.{Character, Length, Value}
use Rattle.faults.specs.Field.{is_character, alone, digits_alone, date_alone, code_alone, kind_alone, correction_code_alone, mark_alone, nothing_alone}

-- ---- std's word for the test of each element
pub list_all-all : {A : Type 0} (p : A → Bool) (xs : List A) → list_all p xs ≡ all p xs
unfolding all
list_all-all p [] = refl
list_all-all p (x ∷ xs) = ap (λ (t : Bool). p x && t) (list_all-all p xs)

-- ---- the bytes of fields are characters of 4.4.1
between-character : (b : ℕ) → leb 32 b ≡ true → leb b 126 ≡ true → is_character b ≡ true
unfolding is_character
between-character b p q = go (eqb b 9) (eqb b 10) (eqb b 13)
  where
    go : (s t u : Bool) → (s || (t || (u || ((leb 32 b && leb b 126) || (leb 192 b && leb b 255))))) ≡ true
    go true t u = refl
    go false true u = refl
    go false false true = refl
    go false false false = rw (p, q)

byte-character : (b : ℕ) → field_byte b ≡ true → is_character b ≡ true
unfolding field_byte is_digit
byte-character b h =
    either (leb 48 b && leb b 57) _ h digit
    (λ h₁. either (eqb b 68) _ h₁ (letter 68 refl refl) (λ h₂. either (eqb b 80) _ h₂ (letter 80 refl refl) (λ h₃. either (eqb b 76) _ h₃ (letter 76 refl refl) (letter 90 refl refl))))
  where
    letter : (n : ℕ) → leb 32 n ≡ true → leb n 126 ≡ true → eqb b n ≡ true → is_character b ≡ true
    letter n p q e = ap is_character (eqb-true b n e) ∙ between-character n p q

    digit : (leb 48 b && leb b 57) ≡ true → is_character b ≡ true
    digit e =
        between-character b
        (le-leb 32 b (omega (arith, leb-true 48 b (and_left (leb 48 b) (leb b 57) e))))
        (le-leb b 126 (omega (arith, leb-true b 57 (and_right (leb 48 b) (leb b 57) e))))

-- ---- any form: what is read is as long as the form asks, and made of characters
pub alone-right : (empty : Result ⊤ Cause) (long good : Bool) (cause : Cause) (f : List ℕ) → (good ≡ true → (long ≡ true) × (all is_character f ≡ true))
    → is_ok (alone empty long good cause f) ≡ cond (eqb (length f) 0) (is_ok empty) good
unfolding alone all
alone-right empty long good cause [] h = refl
alone-right empty long true cause (b ∷ f) h = rw ((h refl).1, (h refl).0, ne_eqb (length (b ∷ f)) 0 (λ z. omega arith))
alone-right empty long false cause (b ∷ f) h = rw (ne_eqb (length (b ∷ f)) 0 (λ z. omega arith)) (go (all is_character (b ∷ f)) long)
  where
    go : (s t : Bool) → is_ok {T = ⊤} (cond s (cond t (Err cause) (Err Length)) (Err Character)) ≡ false
    go true true = refl
    go true false = refl
    go false t = refl

-- where nothing is no value of the form, a field that must not be empty is right exactly if it is read
pub needed : (good : List ℕ → Bool) → good [] ≡ false → (f : List ℕ) → cond (eqb (length f) 0) false (good f) ≡ good f
needed good none [] = sym none
needed good none (b ∷ f) = rw (ne_eqb (length (b ∷ f)) 0 (λ z. omega arith))

-- a form whose values are made of the bytes of fields
module _ (empty : Result ⊤ Cause) (long good : Bool) (cause : Cause) (f : List ℕ) (read : good ≡ true → (long ≡ true) × (all field_byte f ≡ true)) where
  pub field-right : is_ok (alone empty long good cause f) ≡ cond (eqb (length f) 0) (is_ok empty) good
  field-right = alone-right empty long good cause f (λ g. ((read g).0, all_weaker field_byte is_character byte-character f (read g).1))

  pub field-bytes : is_ok (alone empty long good cause f) ≡ true → all field_byte f ≡ true
  field-bytes r = go f read (sym field-right ∙ r)
    where
      go : (f : List ℕ) → (good ≡ true → (long ≡ true) × (all field_byte f ≡ true)) → cond (eqb (length f) 0) (is_ok empty) good ≡ true → all field_byte f ≡ true
      go [] h e = unfold all in refl
      go (b ∷ f) h e = (h (rw (ne_eqb (length (b ∷ f)) 0 (λ z. omega arith)) at e)).1

-- ---- what each form's values are made of
module _ (f : List ℕ) where
  digits-made : is_some (digits_field_of f) ≡ true → (leb (length f) 11 ≡ true) × (all field_byte f ≡ true)
  digits-made h = go (digits_field_of f) refl h
    where
      go : (r : Option Digits) → digits_field_of f ≡ r → is_some r ≡ true → (leb (length f) 11 ≡ true) × (all field_byte f ≡ true)
      go (Some d) q e =
          let b = digits-back f d q in
          (le-leb (length f) 11 (omega (arith, digits-counted f d q, fits-size d b.1)), rw b.0 at (bytes-digits (digits_size d) d.0))
      go None q e = never e

  date-made : is_some (date_field_of f) ≡ true → (eqb (length f) 8 ≡ true) × (all field_byte f ≡ true)
  date-made h = go (date_field_of f) refl h
    where
      go : (r : Option CalendarDays) → date_field_of f ≡ r → is_some r ≡ true → (eqb (length f) 8 ≡ true) × (all field_byte f ≡ true)
      go (Some d) q e =
          let b = date-field-back f d q in
          (eq-eqb (length f) 8 (rw b.0 at (length-date d)), rw b.0 at (bytes-maybe-date (Some d)))
      go None q e = never e

  code-made : is_some (code_of f) ≡ true → (eqb (length f) 4 ≡ true) × (all field_byte f ≡ true)
  code-made h = go (code_of f) refl h
    where
      go : (r : Option Code) → code_of f ≡ r → is_some r ≡ true → (eqb (length f) 4 ≡ true) × (all field_byte f ≡ true)
      go (Some c) q e =
          let b = code-back f c q in
          (eq-eqb (length f) 4 (ap length (sym b.0) ∙ length-code c), ap (all field_byte) (sym b.0) ∙ bytes-code c)
      go None q e = never e

  kind-made : is_some (kind_of f) ≡ true → (eqb (length f) 1 ≡ true) × (all field_byte f ≡ true)
  kind-made h = go (kind_of f) refl h
    where
      go : (r : Option Kind) → kind_of f ≡ r → is_some r ≡ true → (eqb (length f) 1 ≡ true) × (all field_byte f ≡ true)
      go (Some k) q e =
          let b = kind-back f k q in
          (eq-eqb (length f) 1 (ap length (sym b) ∙ length-kind k), ap (all field_byte) (sym b) ∙ bytes-maybe-kind (Some k))
      go None q e = never e

  pub correction-code-made : is_some (correction_code_of f) ≡ true → (eqb (length f) 4 ≡ true) × (all field_byte f ≡ true)
  correction-code-made h = go (correction_code_of f) refl h
    where
      go : (r : Option CorrectionCode) → correction_code_of f ≡ r → is_some r ≡ true → (eqb (length f) 4 ≡ true) × (all field_byte f ≡ true)
      go (Some c) q e =
          let b = correction-code-back f c q in
          (eq-eqb (length f) 4 (ap length (sym b.0) ∙ length_digits 4 c.0), ap (all field_byte) (sym b.0) ∙ bytes-digits 4 c.0)
      go None q e = never e

  -- ---- each form: right exactly if it is read, or is empty where it may be
  module _ (empty : Result ⊤ Cause) where
    pub digits-right : is_ok (digits_alone empty f) ≡ cond (eqb (length f) 0) (is_ok empty) (is_some (digits_field_of f))
    unfolding digits_alone
    digits-right = field-right empty _ _ Value f digits-made

    pub digits-bytes : is_ok (digits_alone empty f) ≡ true → all field_byte f ≡ true
    unfolding digits_alone
    digits-bytes = field-bytes empty _ _ Value f digits-made

    pub date-right : is_ok (date_alone empty f) ≡ cond (eqb (length f) 0) (is_ok empty) (is_some (date_field_of f))
    unfolding date_alone
    date-right = field-right empty _ _ Cause.Date f date-made

    pub date-bytes : is_ok (date_alone empty f) ≡ true → all field_byte f ≡ true
    unfolding date_alone
    date-bytes = field-bytes empty _ _ Cause.Date f date-made

    pub code-right : is_ok (code_alone empty f) ≡ cond (eqb (length f) 0) (is_ok empty) (is_some (code_of f))
    unfolding code_alone
    code-right = field-right empty _ _ Cause.Code f code-made

    pub code-bytes : is_ok (code_alone empty f) ≡ true → all field_byte f ≡ true
    unfolding code_alone
    code-bytes = field-bytes empty _ _ Cause.Code f code-made

    pub kind-right : is_ok (kind_alone empty f) ≡ cond (eqb (length f) 0) (is_ok empty) (is_some (kind_of f))
    unfolding kind_alone
    kind-right = field-right empty _ _ Value f kind-made

    pub kind-bytes : is_ok (kind_alone empty f) ≡ true → all field_byte f ≡ true
    unfolding kind_alone
    kind-bytes = field-bytes empty _ _ Value f kind-made

  pub correction-code-right : is_ok (correction_code_alone f) ≡ cond (eqb (length f) 0) false (is_some (correction_code_of f))
  unfolding correction_code_alone
  correction-code-right = field-right (Err Length) _ _ Value f correction-code-made

  -- a letter and a colon
  pub mark-right : (letter : ℕ) → is_character letter ≡ true → is_ok (mark_alone letter f) ≡ same_lists eqb f (letter ∷ 58 ∷ [])
  unfolding mark_alone all
  mark-right letter c = alone-right (Err Length) _ _ Value f made ∙ needed (λ g. same_lists eqb g (letter ∷ 58 ∷ [])) (unfold same_lists in refl) f
    where
      made : same_lists eqb f (letter ∷ 58 ∷ []) ≡ true → (eqb (length f) 2 ≡ true) × (all is_character f ≡ true)
      made e =
          let s = numbers-equal f (letter ∷ 58 ∷ []) e in
          (ap (λ (g : List ℕ). eqb (length g) 2) s, ap (all is_character) s ∙ and-true _ _ c (and-true _ _ (between-character 58 refl refl) refl))

  pub nothing_right : is_ok (nothing_alone f) ≡ eqb (length f) 0
  unfolding nothing_alone
  nothing_right = alone-right (Ok tt) false false Length f (λ e. never e) ∙ chosen (λ t. t) true false refl refl (eqb (length f) 0)
