-- What a writer answers, in the paper's numbers, and what it leaves in the lent buffer. Assumes nothing: these are definitions.
use Rattle.std.specs.Prelude.{Result, Ok, Err}
use Rattle.records.specs.declared.names.written.NotWritten.{NotWritten}
use Rattle.std.specs.Prelude.{ℕ, ◌≡◌, List, [], ◌∷◌}
use Rattle.laws.specs.Overlay.{overlay}
use Rattle.laws.specs.Told.{Told, told}

-- 0 with the length of what was written, 4 with the place of the first record that its layout can't hold, or 41
abbrev pub written_told : Result ℕ NotWritten → Told
written_told (Ok n) = told 0 (n ∷ [])
written_told (Err (NotWritten.Fault place)) = told 4 (place ∷ [])
written_told (Err NotWritten.Long) = told 41 []

abbrev pub written_number : Result ℕ NotWritten → ℕ
written_number w = (written_told w).number

-- the buffer after a writer that was to write `text`
abbrev pub after_writing : Result ℕ NotWritten → List ℕ → List ℕ → List ℕ
after_writing (Ok n) text before = overlay before 0 text
after_writing (Err why) text before = before

-- the writer answered `right`, and left in the buffer what that answer says
pub record Wrote (right : Result ℕ NotWritten) (text before after : List ℕ) (r : Result ℕ NotWritten) : Type 0 where
  pub answer : r ≡ right
  pub bytes : after ≡ after_writing right text before
