-- The limits, and the checks of filing in their order: paper 01, "What filing answers". Assumes nothing: these are definitions.
use Rattle.std.specs.Prelude.{Result, Ok, Err}
use Rattle.files.specs.declared.judge.Fault.{Fault}
use Rattle.fields.specs.declared.code.Code.{Code}
use Rattle.std.specs.Prelude.{Option, Some, None}
use Rattle.std.specs.Prelude.{Bool, cond, ◌&&◌, ℕ, eqb, leb, length}
use mathlib.Core.List.{List, [], ◌∷◌, ◌++◌, flat_map}
use Rattle.laws.specs.Lists.{any, keep, total}
use Rattle.calendar.specs.Dates.{in_calendar}
use Rattle.fields.specs.Code.{code_of}
use Rattle.files.specs.Judged.{judged_file}
use Rattle.model.specs.Model.{Filed, alike}
use Rattle.store.specs.Reads.{Buffers, held, is_readable}
use Rattle.filing.specs.declared.entering.kind.Filable.{Filable}
use Rattle.filing.specs.entering.Entering.{file_kind, filed_as}
use Rattle.filing.specs.declared.checking.answer.NotFiled.{NotFiled}
use Rattle.filing.specs.declared.checking.answer.NotFiled.TheVariants.{Unreadable, NoCode, NoDay, FiledAlready, Full}

-- ---- the limits
-- the records that the journal of a kind holds: the regular journal that of kind 0, the correction journal that of kind 1
unfoldable pub stored : ℕ → List Filed → List (List ℕ)
stored kind files = flat_map (λ (f : Filed). f.records) (keep (λ (f : Filed). eqb f.kind kind) files)

-- at most so many records, with at most so many bytes
unfoldable pub within : ℕ → ℕ → List (List ℕ) → Bool
within records bytes l = leb (length l) records && leb (total length l) bytes

unfoldable pub within_limits : List Filed → Bool
within_limits files = leb (length files) 1024 && (within 8192 1048576 (stored 0 files) && within 2048 262144 (stored 1 files))

-- ---- the checks, in the paper's order
pub data Decision : Type 0 where
  Refuse : NotFiled → Decision
  Accept : Filed → Decision

-- 4, then 5
abbrev pub judged_to : List Filed → Filed → Result ℕ Fault → Decision
judged_to files f (Err fault) = Refuse (NotFiled.Fault fault.at fault.cause)
judged_to files f (Ok m) = cond (within_limits (files ++ (f ∷ []))) (Accept f) (Refuse Full)

-- 3
unfoldable pub new_to : List Filed → Filed → Result ℕ Fault → Decision
new_to files f text = cond (any (alike f) files) (Refuse FiledAlready) (judged_to files f text)

-- 1, then 2
abbrev pub published_to : List Filed → Filable → Option Code → ℕ → List ℕ → Decision
published_to files kind None day text = Refuse NoCode
published_to files kind (Some c) day text = cond (in_calendar day) (new_to files (filed_as kind c.0 day text) (judged_file (file_kind kind) text)) (Refuse NoDay)

-- 44
unfoldable pub decide : Buffers → Filable → List ℕ → ℕ → List ℕ → Decision
decide b kind publisher day text = cond (is_readable b) (published_to (held b).files kind (code_of publisher) day text) (Refuse Unreadable)

-- ---- the same, as the code checks it over the list of files: what it comes to stands for a decision
abbrev pub decision_of : Filable → ℕ → List ℕ → Result (Code × ℕ) NotFiled → Decision
decision_of kind day text (Err a) = Refuse a
decision_of kind day text (Ok (c, m)) = Accept (filed_as kind c.0 day text)
