-- The buffers that reworking leads to, and filing from then on. Assumes nothing: these are definitions.
use Rattle.std.specs.Prelude.{Ok, List, ℕ, ◌≤◌, length}
use Rattle.std.specs.Prelude.{Result}
use Rattle.std.specs.Prelude.{List, ℕ, ◌≤◌, length}
use Rattle.store.specs.Reads.{Buffers, lent, held}
use Rattle.filing.specs.declared.entering.kind.Filable.{Filable}
use Rattle.filing.specs.declared.checking.answer.NotFiled.{NotFiled}
use Rattle.filing.specs.Effect.{Files}
use Rattle.reworking.specs.Reworking.{Reworks}

-- any bytes that reworking accepts, over all their files, and then whatever is offered for filing, whatever is answered: nothing is asked of the
-- entries before, which may have been worked out with another holiday list
pub data Resumed : Buffers → Type 0 where
  rework : {b : Buffers} {n count : ℕ} {list entries listed : List ℕ} → length (held b).files ≤ n → Reworks b n list (Ok count) entries listed
      → Resumed (lent b.table b.files b.regular b.corrections entries)
  file : {b after : Buffers} → Resumed b → {kind : Filable} {publisher : List ℕ} {day : ℕ} {text : List ℕ} {answer : Result ℕ NotFiled} → Files b kind publisher day text answer after → Resumed after
