-- What writing a file tells other languages. Assumes nothing: these are definitions.
use Rattle.std.specs.Prelude.{Result}
use Rattle.records.specs.declared.names.written.NotWritten.{NotWritten}
use Rattle.std.specs.Prelude.{◌≡◌, List, ℕ}
use Rattle.laws.specs.Told.{value_at}
use Rattle.records.specs.names.Written.{written_told, after_writing}

-- beside the number: the length of what was written, or the place of the first record that can't be
pub record Writes (right : Result ℕ NotWritten) (text before after : List ℕ) (answer more : ℕ) : Type 0 where
  pub answers : answer ≡ (written_told right).number
  pub tells : more ≡ value_at 0 (written_told right)
  pub bytes : after ≡ after_writing right text before
