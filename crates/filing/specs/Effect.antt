-- What filing leaves in the buffers, and its contract: answer and every byte, for every input. Assumes nothing: these are definitions.
use Rattle.std.specs.Prelude.{Err, Result}
use Rattle.std.specs.Prelude.{Ok}
use Rattle.std.specs.Prelude.{◌≡◌, List, [], ◌∷◌, ◌++◌, ℕ}
use Rattle.model.specs.Model.{Filed, Store, count_of}
use Rattle.rules.specs.Rules.{rules}
use Rattle.store.specs.Reads.{Buffers, Held, held}
use Rattle.filing.specs.declared.entering.kind.Filable.{Filable}
use Rattle.filing.specs.entering.Entering.{entered}
use Rattle.filing.specs.fitting.Renewing.{renewed_entries}
use Rattle.starting.specs.Start.{Starts}
use Rattle.filing.specs.declared.checking.answer.NotFiled.{NotFiled}
use Rattle.filing.specs.checking.Filing.{Decision, Refuse, Accept, decide}

-- ---- the buffers
-- the entries of the numbers that the file names, worked out afresh from all files held; every other byte stays
unfoldable pub renewed_in : Filed → Buffers → Buffers
renewed_in f b = record {
  table = b.table;
  files = b.files;
  regular = b.regular;
  corrections = b.corrections;
  entries = renewed_entries (held b).files f (held b).lines b.entries;
}

-- an accepted file: its records join their journal, then the entries of the numbers named are worked out
unfoldable pub filed_into : Filed → Buffers → Buffers
filed_into f b = renewed_in f (entered f b)

-- ---- the contract
-- 0 carries the count of the journal records, in both journals and after filing, whose number is named by some record of the file
abbrev pub answer_to : List Filed → Decision → Result ℕ NotFiled
answer_to files (Refuse a) = Err a
answer_to files (Accept f) = Ok (count_of rules (files ++ (f ∷ [])) f)

-- on every refusal no byte changes
abbrev pub buffers_after : Buffers → Decision → Buffers
buffers_after b (Refuse a) = b
buffers_after b (Accept f) = filed_into f b

pub record Files (b : Buffers) (kind : Filable) (publisher : List ℕ) (day : ℕ) (text : List ℕ) (answer : Result ℕ NotFiled) (after : Buffers) : Type 0 where
  pub answers : answer ≡ answer_to (held b).files (decide b kind publisher day text)
  pub leaves : after ≡ buffers_after b (decide b kind publisher day text)

-- what the part of filing says that enters an accepted file
pub record Accepted (f : Filed) (b : Buffers) (count : ℕ) (after : Buffers) : Type 0 where
  pub counted : count ≡ count_of rules ((held b).files ++ (f ∷ [])) f
  pub leaves : after ≡ filed_into f b

-- ---- the buffers that starting and filing lead to, whatever is answered on the way
pub data Came : Buffers → Type 0 where
  start : {text : List ℕ} {before after : Buffers} {n : ℕ} → Starts text before (Ok n) after → Came after
  file : {b after : Buffers} → Came b → {kind : Filable} {publisher : List ℕ} {day : ℕ} {text : List ℕ} {answer : Result ℕ NotFiled} → Files b kind publisher day text answer after → Came after

-- what they hold, as a store of the model under the paper's rules
abbrev pub store_of : Held → Store rules
store_of h = record { lines = h.lines; files = h.files; entries = h.entries }
