-- A part: what was written is read back, what was read is written again, and how long it can be. Assumes nothing.
use Rattle.fields.specs.declared.kind.Kind.{Kind}
use Rattle.calendar.specs.declared.dates.CalendarDays.{CalendarDays}
use Rattle.fields.specs.declared.code.Code.{Code}
use Rattle.std.specs.Prelude.{Option, Some, None}
use Prim.Native.Nat.{ℕ, ◌≤◌}
use native.Mathlib.Omega.{arith}
use mathlib.Core.Path.{◌≡◌, refl, sym, ap, ◌∙◌}
use mathlib.Core.Bool.{Bool, true, false, cond, ◌&&◌}
use mathlib.Core.List.{List, [], ◌∷◌}
use lib.Dec.{eqb}
use lib.ListN.{length, get_or}
use borrow.Author.Tests.{eqb-true}
use Rattle.laws.specs.Lists.{all}
use Rattle.laws.specs.Digits.{is_digit}
use Rattle.laws.specs.Split.{split, joined, lacks}
use Rattle.laws.proofs.Tests.{and_left, and_right, and-true}
use Rattle.laws.proofs.Split.{split-joined, joined-split, lacks-by}
use Rattle.fields.specs.declared.number.Digits.{Digits}
use Rattle.fields.specs.declared.number.Number.{Number}
use Rattle.fields.specs.Bytes.{field_byte}
use Rattle.fields.specs.Code.{maybe_code_of, maybe_code_of_word, maybe_code_fits, maybe_code_text}
use Rattle.fields.specs.Date.{maybe_date_of, maybe_date_of_word, maybe_date_fits, maybe_date_text}
use Rattle.fields.specs.Kind.{maybe_kind_of, maybe_kind_of_word, maybe_kind_text}
use Rattle.fields.specs.Number.{digits_field_of, digits_size, digits_text, number_of, number_fits}
use Rattle.fields.proofs.ByteLaws.{bytes-digits, bytes-maybe-code, bytes-maybe-date, bytes-maybe-kind}
use Rattle.fields.proofs.CodeLaws.{maybe-code-trip, maybe-code-back}
use Rattle.fields.proofs.DateLaws.{maybe-date-trip, maybe-date-back}
use Rattle.fields.proofs.KindLaws.{maybe-kind-trip, maybe-kind-back}
use Rattle.fields.proofs.WordLaws.{maybe-code-word, maybe-date-word}
use Rattle.fields.proofs.NumberLaws.{digits-trip, digits-back, fits-size, first_fits, last-size, number-trip, number-back}
use Rattle.layout.specs.declared.part.Part.{Part}
use Rattle.layout.specs.Part.{on_digits, on_number, on_date, on_code, on_kind, six_of, part_of, part_fits, fields_of, part_text, rest_of_words, number_of_words, part_of_words}
use Rattle.layout.proofs.PartLaws.{six-known, length_part, date-short, code-short, kind-short}

-- ---- no field has a comma or a colon in it
module _ (sep : ℕ) (none : field_byte sep ≡ false) (p : Part) where
  pub fields-lack : all (lacks sep) (fields_of p) ≡ true
  unfolding all
  fields-lack =
      rw (
        lacks-by field_byte sep none (digits_text p.number.first) (bytes-digits (digits_size p.number.first) p.number.first.0),
        lacks-by field_byte sep none (digits_text p.number.last) (bytes-digits (digits_size p.number.last) p.number.last.0),
        lacks-by field_byte sep none (maybe_date_text p.date) (bytes-maybe-date p.date),
        lacks-by field_byte sep none (maybe_code_text p.gaining) (bytes-maybe-code p.gaining),
        lacks-by field_byte sep none (maybe_code_text p.losing) (bytes-maybe-code p.losing),
        lacks-by field_byte sep none (maybe_kind_text p.kind) (bytes-maybe-kind p.kind),
      )

module _ (p : Part) where
  comma-none : field_byte 44 ≡ false
  unfolding field_byte is_digit
  comma-none = refl

  pub split-part : split 44 (part_text p) ≡ fields_of p
  unfolding part_text
  split-part = split-joined 44 _ _ (fields-lack 44 comma-none p)

  -- what was written is read back
  pub part-trip : part_fits p ≡ true → part_of (part_text p) ≡ Some p
  unfolding part_of part_fits
  part-trip h =
      let n = and_left (number_fits p.number) _ h in
      let h₁ = and_right (number_fits p.number) _ h in
      let d = and_left (maybe_date_fits p.date) _ h₁ in
      let h₂ = and_right (maybe_date_fits p.date) _ h₁ in
      let g = and_left (maybe_code_fits p.gaining) _ h₂ in
      let l = and_right (maybe_code_fits p.gaining) _ h₂ in
      rw split-part
      (six-known _ _ _ _ _ _
      (digits-trip p.number.first (first_fits p.number n))
      (number-trip p.number n)
      (maybe-date-trip p.date d)
      (maybe-code-trip p.gaining g)
      (maybe-code-trip p.losing l)
      (maybe-kind-trip p.kind))

-- ---- what was read is written again
part_same : (q p : Part) → Some q ≡ Some p → q ≡ p
part_same q p h = cc

never : (p : Part) → None ≡ Some p → ⊥
never p h = let z : ◌≡◌ {A = ℕ} 0 1 = cc in omega arith

-- where a field's reader leads to a part, it found a value
module _ {p : Part} where
  digits-on : (r : Option Digits) (k : Digits → Option Part) → on_digits r None k ≡ Some p → (x : Digits) × (r ≡ Some x) × (k x ≡ Some p)
  digits-on (Some x) k h = (x, refl, h)
  digits-on None k h = absurd (never p h)

  number-on : (r : Option Number) (k : Number → Option Part) → on_number r None k ≡ Some p → (x : Number) × (r ≡ Some x) × (k x ≡ Some p)
  number-on (Some x) k h = (x, refl, h)
  number-on None k h = absurd (never p h)

  date-on : (r : Option (Option CalendarDays)) (k : Option CalendarDays → Option Part) → on_date r None k ≡ Some p → (x : Option CalendarDays) × (r ≡ Some x) × (k x ≡ Some p)
  date-on (Some x) k h = (x, refl, h)
  date-on None k h = absurd (never p h)

  code-on : (r : Option (Option Code)) (k : Option Code → Option Part) → on_code r None k ≡ Some p → (x : Option Code) × (r ≡ Some x) × (k x ≡ Some p)
  code-on (Some x) k h = (x, refl, h)
  code-on None k h = absurd (never p h)

  kind-on : (r : Option (Option Kind)) (k : Option Kind → Option Part) → on_kind r None k ≡ Some p → (x : Option Kind) × (r ≡ Some x) × (k x ≡ Some p)
  kind-on (Some x) k h = (x, refl, h)
  kind-on None k h = absurd (never p h)

module _ (a b c d e f : List ℕ) (p : Part) where
  six-back : six_of a b c d e f ≡ Some p → (fields_of p ≡ a ∷ b ∷ c ∷ d ∷ e ∷ f ∷ []) × (part_fits p ≡ true)
  unfolding six_of part_fits
  six-back h =
      let x₁ = digits-on (digits_field_of a) _ h in
      let x₂ = number-on (number_of x₁.0 b) _ x₁.2 in
      let x₃ = date-on (maybe_date_of c) _ x₂.2 in
      let x₄ = code-on (maybe_code_of d) _ x₃.2 in
      let x₅ = code-on (maybe_code_of e) _ x₄.2 in
      let x₆ = kind-on (maybe_kind_of f) _ x₅.2 in
      let same = part_same _ p x₆.2 in
      let b₁ = digits-back a x₁.0 x₁.1 in
      let b₂ = number-back x₁.0 b x₂.0 b₁.1 x₂.1 in
      let b₃ = maybe-date-back c x₃.0 x₃.1 in
      let b₄ = maybe-code-back d x₄.0 x₄.1 in
      let b₅ = maybe-code-back e x₅.0 x₅.1 in
      let b₆ = maybe-kind-back f x₆.0 x₆.1 in
      let t₁ : digits_text x₂.0.first ≡ a = ap digits_text b₂.0 ∙ b₁.0 in (
        ap fields_of (sym same) ∙ (λ i. t₁ i ∷ b₂.1 i ∷ b₃.0 i ∷ b₄.0 i ∷ b₅.0 i ∷ b₆ i ∷ []),
        ap part_fits (sym same) ∙ and-true _ _ b₂.2 (and-true _ _ b₃.1 (and-true _ _ b₄.1 b₅.1)),
      )

list_back : (fs : List (List ℕ)) (p : Part) → length fs ≡ 6 → six_of (get_or fs 0 []) (get_or fs 1 []) (get_or fs 2 []) (get_or fs 3 []) (get_or fs 4 []) (get_or fs 5 []) ≡ Some p → (fields_of p ≡ fs) × (part_fits p ≡ true)
list_back [] p l h = absurd (omega arith)
list_back (a ∷ []) p l h = absurd (omega arith)
list_back (a ∷ b ∷ []) p l h = absurd (omega arith)
list_back (a ∷ b ∷ c ∷ []) p l h = absurd (omega arith)
list_back (a ∷ b ∷ c ∷ d ∷ []) p l h = absurd (omega arith)
list_back (a ∷ b ∷ c ∷ d ∷ e ∷ []) p l h = absurd (omega arith)
list_back (a ∷ b ∷ c ∷ d ∷ e ∷ f ∷ []) p l h = six-back a b c d e f p h
list_back (a ∷ b ∷ c ∷ d ∷ e ∷ f ∷ g ∷ fs) p l h = absurd (omega arith)

pub part-back : (s : List ℕ) (p : Part) → part_of s ≡ Some p → (part_text p ≡ s) × (part_fits p ≡ true)
unfolding part_of part_text
part-back s p h = go (eqb (length (split 44 s)) 6) refl h
  where
    fs : List (List ℕ)
    fs = split 44 s

    go : (t : Bool) → eqb (length fs) 6 ≡ t → cond t (six_of (get_or fs 0 []) (get_or fs 1 []) (get_or fs 2 []) (get_or fs 3 []) (get_or fs 4 []) (get_or fs 5 [])) None ≡ Some p → (part_text p ≡ s) × (part_fits p ≡ true)
    go true q e =
        let b = list_back fs p (eqb-true (length fs) 6 q) e in
        (ap (joined 44) b.0 ∙ joined-split 44 s, b.1)
    go false q e = absurd (never p e)

-- ---- how long it can be
pub part-longest : (p : Part) → part_fits p ≡ true → length (part_text p) ≤ 44
unfolding part_fits
part-longest p h =
    let n = and_left (number_fits p.number) _ h in
    omega (arith, length_part p, fits-size p.number.first (first_fits p.number n), last-size p.number n, date-short p.date, code-short p.gaining, code-short p.losing, kind-short p.kind)

-- ---- what is made of words fits
pub part-words : (w : List ℕ) (p : Part) → part_of_words w ≡ Some p → part_fits p ≡ true
unfolding part_of_words rest_of_words part_fits
part-words w p h = go (eqb (length w) 6) (number_fits (number_of_words w)) refl h
  where
    go : (s t : Bool) → number_fits (number_of_words w) ≡ t → cond (s && t) (rest_of_words (number_of_words w) (get_or w 2 0) (get_or w 3 0) (get_or w 4 0) (get_or w 5 0)) None ≡ Some p → part_fits p ≡ true
    go true true n e =
        let x₁ = date-on (maybe_date_of_word (get_or w 2 0)) _ e in
        let x₂ = code-on (maybe_code_of_word (get_or w 3 0)) _ x₁.2 in
        let x₃ = code-on (maybe_code_of_word (get_or w 4 0)) _ x₂.2 in
        let x₄ = kind-on (maybe_kind_of_word (get_or w 5 0)) _ x₃.2 in
        let same = part_same _ p x₄.2 in
        ap part_fits (sym same)
        ∙ and-true _ _ n (and-true _ _ (maybe-date-word (get_or w 2 0) x₁.0 x₁.1) (and-true _ _ (maybe-code-word (get_or w 3 0) x₂.0 x₂.1) (maybe-code-word (get_or w 4 0) x₃.0 x₃.1)))
    go true false n e = absurd (never p e)
    go false t n e = absurd (never p e)
