-- A request: what was written is read back, what was read is written again, and how long it can be. Assumes nothing.
use Rattle.calendar.specs.declared.dates.CalendarDays.{CalendarDays}
use Rattle.std.specs.Prelude.{Option, Some, None}
use Prim.Native.Nat.{ℕ, ◌≤◌}
use native.Mathlib.Omega.{arith}
use mathlib.Core.Path.{◌≡◌, refl, sym, ap, ◌∙◌}
use mathlib.Core.Bool.{Bool, true, false, cond}
use mathlib.Core.List.{List, [], ◌∷◌}
use lib.Dec.{eqb}
use lib.ListN.{length, get_or}
use borrow.Author.Tests.{eqb-true}
use Rattle.laws.specs.Lists.{all}
use Rattle.laws.specs.Digits.{is_digit}
use Rattle.laws.specs.Split.{split, joined, lacks}
use Rattle.laws.proofs.Tests.{and_left, and_right, and-true}
use Rattle.laws.proofs.Split.{split-joined, joined-split, lacks-by}
use Rattle.fields.specs.declared.code.Code.{Code}
use Rattle.fields.specs.Bytes.{field_byte}
use Rattle.fields.specs.Code.{code_of, code_of_word, code_fits, code_text}
use Rattle.fields.specs.Date.{maybe_date_of, maybe_date_of_word, maybe_date_text}
use Rattle.fields.proofs.ByteLaws.{bytes-code, bytes-maybe-date}
use Rattle.fields.proofs.CodeLaws.{code-trip, code-back}
use Rattle.fields.proofs.DateLaws.{maybe-date-trip, maybe-date-back}
use Rattle.fields.proofs.WordLaws.{code-word, maybe-date-word}
use Rattle.layout.specs.declared.request.Request.{Request}
use Rattle.layout.specs.Part.{on_date}
use Rattle.layout.specs.Request.{on_sender, three_of, request_of, request_fits, request_text, request_of_words}
use Rattle.layout.proofs.PartLaws.{date-short}
use Rattle.layout.proofs.RequestLaws.{three-4, length-request}

abbrev pieces_of : Request → List (List ℕ)
pieces_of r = code_text r.code ∷ maybe_date_text r.from ∷ [] ∷ []

module _ (r : Request) where
  pieces-lack : all (lacks 44) (pieces_of r) ≡ true
  unfolding all field_byte is_digit
  pieces-lack =
      rw (lacks-by field_byte 44 refl (code_text r.code) (bytes-code r.code), lacks-by field_byte 44 refl (maybe_date_text r.from) (bytes-maybe-date r.from))

  split-request : split 44 (request_text r) ≡ pieces_of r
  unfolding request_text
  split-request = split-joined 44 _ _ pieces-lack

  -- what was written is read back
  pub request-trip : request_fits r ≡ true → request_of (request_text r) ≡ Some r
  unfolding request_of request_fits
  request-trip h =
      rw split-request
      (three-4 _ _ _ (code-trip r.code (and_left (code_fits r.code) _ h)) (maybe-date-trip r.from (and_right (code_fits r.code) _ h)) refl)

  pub request-longest : length (request_text r) ≤ 14
  request-longest = omega (arith, length-request r, date-short r.from)

-- ---- what was read is written again
never : (r : Request) → None ≡ Some r → ⊥
never r h = let z : ◌≡◌ {A = ℕ} 0 1 = cc in omega arith

request-same : (q r : Request) → Some q ≡ Some r → q ≡ r
request-same q r h = cc

module _ {r : Request} where
  sender-on : (x : Option Code) (k : Code → Option Request) → on_sender x k ≡ Some r → (c : Code) × (x ≡ Some c) × (k c ≡ Some r)
  sender-on (Some c) k h = (c, refl, h)
  sender-on None k h = absurd (never r h)

  date-on : (x : Option (Option CalendarDays)) (k : Option CalendarDays → Option Request) → on_date x None k ≡ Some r → (d : Option CalendarDays) × (x ≡ Some d) × (k d ≡ Some r)
  date-on (Some d) k h = (d, refl, h)
  date-on None k h = absurd (never r h)

  nothing-on : (t : Bool) (q : Request) → cond t (Some q) None ≡ Some r → (t ≡ true) × (q ≡ r)
  nothing-on true q h = (refl, request-same q r h)
  nothing-on false q h = absurd (never r h)

empty : (c : List ℕ) → eqb (length c) 0 ≡ true → [] ≡ c
empty [] e = refl
empty (b ∷ c) e = absurd (omega (arith, eqb-true (length (b ∷ c)) 0 e))

three_back : (a b c : List ℕ) (r : Request) → three_of a b c ≡ Some r → (pieces_of r ≡ a ∷ b ∷ c ∷ []) × (request_fits r ≡ true)
unfolding three_of request_fits
three_back a b c r h =
    let x₁ = sender-on (code_of a) _ h in
    let x₂ = date-on (maybe_date_of b) _ x₁.2 in
    let x₃ = nothing-on (eqb (length c) 0) _ x₂.2 in
    let b₁ = code-back a x₁.0 x₁.1 in
    let b₂ = maybe-date-back b x₂.0 x₂.1 in
    let b₃ = empty c x₃.0 in
    (ap pieces_of (sym x₃.1) ∙ (λ i. b₁.0 i ∷ b₂.0 i ∷ b₃ i ∷ []), ap request_fits (sym x₃.1) ∙ and-true _ _ b₁.1 b₂.1)

list_back : (fs : List (List ℕ)) (r : Request) → length fs ≡ 3 → three_of (get_or fs 0 []) (get_or fs 1 []) (get_or fs 2 []) ≡ Some r → (pieces_of r ≡ fs) × (request_fits r ≡ true)
list_back [] r l h = absurd (omega arith)
list_back (a ∷ []) r l h = absurd (omega arith)
list_back (a ∷ b ∷ []) r l h = absurd (omega arith)
list_back (a ∷ b ∷ c ∷ []) r l h = three_back a b c r h
list_back (a ∷ b ∷ c ∷ d ∷ fs) r l h = absurd (omega arith)

pub request-back : (s : List ℕ) (r : Request) → request_of s ≡ Some r → (request_text r ≡ s) × (request_fits r ≡ true)
unfolding request_of request_text
request-back s r h = go (eqb (length (split 44 s)) 3) refl h
  where
    fs : List (List ℕ)
    fs = split 44 s

    go : (t : Bool) → eqb (length fs) 3 ≡ t → cond t (three_of (get_or fs 0 []) (get_or fs 1 []) (get_or fs 2 [])) None ≡ Some r → (request_text r ≡ s) × (request_fits r ≡ true)
    go true q e =
        let b = list_back fs r (eqb-true (length fs) 3 q) e in
        (ap (joined 44) b.0 ∙ joined-split 44 s, b.1)
    go false q e = absurd (never r e)

pub request-record : (s : List ℕ) (r : Request) → request_of s ≡ Some r → length s ≤ 14
request-record s r h = rw (request-back s r h).0 at (request-longest r)

-- what is made of words fits
pub request-words : (w : List ℕ) (r : Request) → request_of_words w ≡ Some r → request_fits r ≡ true
unfolding request_of_words request_fits
request-words w r h = go (eqb (length w) 2) h
  where
    go : (t : Bool) → cond t (on_sender (code_of_word (get_or w 0 0)) (λ code. on_date (maybe_date_of_word (get_or w 1 0)) None (λ from. Some (record { code = code; from = from })))) None ≡ Some r → request_fits r ≡ true
    go true e =
        let x₁ = sender-on (code_of_word (get_or w 0 0)) _ e in
        let x₂ = date-on (maybe_date_of_word (get_or w 1 0)) _ x₁.2 in
        ap request_fits (sym (request-same _ r x₂.2)) ∙ and-true _ _ (code-word (get_or w 0 0) x₁.0 x₁.1) (maybe-date-word (get_or w 1 0) x₂.0 x₂.1)
    go false e = absurd (never r e)
