-- The buffers that starting, filing and reworking lead to, in whatever order they are called. Assumes nothing: these are definitions.
use Rattle.std.specs.Prelude.{Result}
use Rattle.std.specs.Prelude.{Ok}
use Rattle.std.specs.Prelude.{List, ℕ, ◌≤◌}
use Rattle.store.specs.journals.Files.{file_count}
use Rattle.store.specs.Reads.{Buffers, lent}
use Rattle.starting.specs.Start.{Starts}
use Rattle.filing.specs.declared.entering.kind.Filable.{Filable}
use Rattle.filing.specs.declared.checking.answer.NotFiled.{NotFiled}
use Rattle.filing.specs.Effect.{Files}
use Rattle.asking.specs.declared.answer.Unreadable.{Unreadable}
use Rattle.std.specs.Prelude.{Result, Ok}
use Rattle.reworking.specs.Reworking.{Reworks}
use Rattle.capi.specs.Starting.{StartsAs}
use Rattle.capi.specs.Offer.{FilesAs}
use Rattle.capi.specs.Again.{ReworksAs}

-- the buffers with other entries
abbrev pub with_entries : Buffers → List ℕ → Buffers
with_entries b entries = lent b.table b.files b.regular b.corrections entries

-- A store in use: `start` is the library's function and `start-c` the one that other languages call, and so on
pub data InUse : Buffers → Type 0 where
  -- it was started
  start : {text : List ℕ} {before after : Buffers} {n : ℕ} → Starts text before (Ok n) after → InUse after
  start-c : {text : List ℕ} {before after : Buffers} {more : ℕ} → StartsAs text before 0 more after → InUse after
  -- a file was offered, whatever was answered
  file : {b after : Buffers} → InUse b → {kind : Filable} {publisher : List ℕ} {day : ℕ} {text : List ℕ} {answer : Result ℕ NotFiled}
      → Files b kind publisher day text answer after → InUse after
  file-c : {b after : Buffers} → InUse b → {kind : ℕ} {publisher : List ℕ} {day : ℕ} {text : List ℕ} {answer more field cause : ℕ}
      → FilesAs b kind publisher day text answer more field cause after → InUse after
  -- its entries were worked out again over all its files, whatever was answered
  rework : {b : Buffers} → InUse b → {n : ℕ} {list : List ℕ} {answer : Result ℕ Unreadable} {entries listed : List ℕ} → file_count b.files ≤ n
      → Reworks b n list answer entries listed → InUse (with_entries b entries)
  rework-c : {b : Buffers} → InUse b → {list : List ℕ} {answer more : ℕ} {entries listed : List ℕ}
      → ReworksAs b list answer more entries listed → InUse (with_entries b entries)
  -- or it was taken up again, from any bytes that reworking over all files accepts: their entries may have come from another holiday list
  resume : {b : Buffers} {n count : ℕ} {list entries listed : List ℕ} → file_count b.files ≤ n
      → Reworks b n list (Ok count) entries listed → InUse (with_entries b entries)
  resume-c : {b : Buffers} {more : ℕ} {list entries listed : List ℕ} → ReworksAs b list 0 more entries listed → InUse (with_entries b entries)
