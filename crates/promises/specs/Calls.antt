-- Each public function that is lent memory to change: the paper's number that it answered, and what it was lent, before and after. Assumes nothing:
-- these are definitions.
use Rattle.std.specs.Prelude.{Result, List, [], ◌∷◌, ℕ}
use Rattle.records.specs.declared.names.written.NotWritten.{NotWritten}
use Rattle.records.specs.names.Written.{Wrote}
use Rattle.store.specs.Reads.{Buffers}
use Rattle.starting.specs.declared.start.NotStarted.{NotStarted}
use Rattle.starting.specs.Start.{Starts}
use Rattle.filing.specs.declared.entering.kind.Filable.{Filable}
use Rattle.filing.specs.declared.checking.answer.NotFiled.{NotFiled}
use Rattle.filing.specs.Effect.{Files}
use Rattle.entries.specs.declared.entry.Entry.{Entry}
use Rattle.asking.specs.declared.answer.NotShown.{NotShown}
use Rattle.asking.specs.declared.answer.Unreadable.{Unreadable}
use Rattle.std.specs.Prelude.{Result}
use Rattle.reworking.specs.Reworking.{Reworks}
use Rattle.capi.specs.Starting.{StartsAs}
use Rattle.capi.specs.Offer.{FilesAs}
use Rattle.capi.specs.Again.{ReworksAs}
use Rattle.capi.specs.Writing.{Writes}
use Rattle.capi.specs.Show.{ShowsEntry}
use Rattle.promises.specs.Numbers.{started_number, filed_number, reworked_number, wrote_number}

-- all bytes of a store
abbrev pub bytes_of : Buffers → List (List ℕ)
bytes_of b = b.table ∷ b.files ∷ b.regular ∷ b.corrections ∷ b.entries ∷ []

-- the number, and each lent run of bytes or numbers: a call that ends in `-c` is what other languages call
pub data Call : ℕ → List (List ℕ) → List (List ℕ) → Type 0 where
  start : {text : List ℕ} {before after : Buffers} {answer : Result ℕ NotStarted} → Starts text before answer after → Call (started_number answer) (bytes_of before) (bytes_of after)
  start-c : {text : List ℕ} {before after : Buffers} {answer more : ℕ} → StartsAs text before answer more after → Call answer (bytes_of before) (bytes_of after)
  file : {b after : Buffers} {kind : Filable} {publisher : List ℕ} {day : ℕ} {text : List ℕ} {answer : Result ℕ NotFiled}
      → Files b kind publisher day text answer after → Call (filed_number answer) (bytes_of b) (bytes_of after)
  file-c : {b after : Buffers} {kind : ℕ} {publisher : List ℕ} {day : ℕ} {text : List ℕ} {answer more field cause : ℕ}
      → FilesAs b kind publisher day text answer more field cause after → Call answer (bytes_of b) (bytes_of after)
  -- reworking is lent the entries and the list
  rework : {b : Buffers} {n : ℕ} {list : List ℕ} {answer : Result ℕ Unreadable} {entries listed : List ℕ}
      → Reworks b n list answer entries listed → Call (reworked_number answer) (b.entries ∷ list ∷ []) (entries ∷ listed ∷ [])
  rework-c : {b : Buffers} {list : List ℕ} {answer more : ℕ} {entries listed : List ℕ}
      → ReworksAs b list answer more entries listed → Call answer (b.entries ∷ list ∷ []) (entries ∷ listed ∷ [])
  -- a file or the name of one is written, and an entry shown, into a lent buffer
  write : {right answer : Result ℕ NotWritten} {text before after : List ℕ} → Wrote right text before after answer → Call (wrote_number answer) (before ∷ []) (after ∷ [])
  write-c : {right : Result ℕ NotWritten} {text before after : List ℕ} {answer more : ℕ} → Writes right text before after answer more → Call answer (before ∷ []) (after ∷ [])
  show-c : {a : Result Entry NotShown} {before after : List ℕ} {answer : ℕ} → ShowsEntry a before answer after → Call answer (before ∷ []) (after ∷ [])
