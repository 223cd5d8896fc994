-- A request: which way its readers go, its text as it is written, and how long that is. Assumes nothing.
use Rattle.calendar.specs.declared.dates.CalendarDays.{CalendarDays}
use Rattle.std.specs.Prelude.{Option, Some, None}
use Prim.Native.Nat.{ℕ, ◌+◌, ◌≤◌}
use native.Mathlib.Omega.{arith}
use mathlib.Core.Path.{◌≡◌, sym}
use mathlib.Core.List.{List, [], ◌∷◌, ◌++◌, append_assoc}
use lib.ListN.{length, length-append}
use borrow.Author.Tests.{eq-eqb, ne_eqb}
use Rattle.laws.proofs.Overlay.{Room}
use Rattle.fields.specs.declared.code.Code.{Code}
use Rattle.fields.specs.Code.{code_of, code_text}
use Rattle.fields.specs.Date.{maybe_date_of, maybe_date_text}
use Rattle.fields.proofs.CodeLaws.{length-code}
use Rattle.layout.proofs.PartLaws.{date-short}
use Rattle.layout.specs.declared.request.Request.{Request}
use Rattle.layout.specs.Putting.{followed}
use Rattle.layout.specs.Request.{three_of, request_of_words, request_text}

pub three-4 : (a b c : List ℕ) {code : Code} {date : Option CalendarDays} → code_of a ≡ Some code → maybe_date_of b ≡ Some date → length c ≡ 0 → three_of a b c ≡ Some (record { code = code; from = date })
unfolding three_of
three-4 a b c p₁ p₂ e = rw (p₁, p₂, eq-eqb (length c) 0 e)

pub words-1 : (w : List ℕ) → (length w ≡ 2 → ⊥) → request_of_words w ≡ None
unfolding request_of_words
words-1 w n = rw (ne_eqb (length w) 2 n)

-- ---- the text as the calls of `write` lay it
module _ (r : Request) where
  pub whole : request_text r ≡ followed (code_text r.code) ++ followed (maybe_date_text r.from)
  unfolding request_text
  whole = sym (append_assoc (code_text r.code) (44 ∷ []) (followed (maybe_date_text r.from)))

  pub room-request : (o : List ℕ) (at : ℕ) → at + length (request_text r) ≤ length o → Room o at (followed (code_text r.code) ++ followed (maybe_date_text r.from))
  room-request o at h = record { fits = rw whole at h }

  pub length-request : length (request_text r) ≡ length (maybe_date_text r.from) + 6
  length-request = rw whole (simp length-append (omega (arith, length-code r.code)))

pub ruleset request_lengths = (length-request, date-short)
