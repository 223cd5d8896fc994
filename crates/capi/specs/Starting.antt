-- What starting tells other languages. Assumes nothing: these are definitions.
use Rattle.std.specs.Prelude.{◌≡◌, List, ℕ}
use Rattle.laws.specs.Told.{value_at}
use Rattle.store.specs.Reads.{Buffers}
use Rattle.starting.specs.Start.{started_told, start_answer, start_buffers}

-- beside the number: how many lines the table has
pub record StartsAs (text : List ℕ) (before : Buffers) (answer more : ℕ) (after : Buffers) : Type 0 where
  pub answers : answer ≡ (started_told (start_answer text before)).number
  pub tells : more ≡ value_at 0 (started_told (start_answer text before))
  pub leaves : after ≡ start_buffers text before
