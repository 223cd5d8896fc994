-- How files were judged before a fault had a field and a cause: how many records a file has, or the place of its first fault. `proofs/AsBefore` shows
-- that which files are refused, and at which record, has stayed. Assumes nothing: these are definitions.
use Rattle.std.specs.Prelude.{Result, Ok, Err}
use Rattle.files.specs.declared.judge.Fault.{Fault as FileFault}
use Rattle.std.specs.Prelude.{eqb, ℕ, ◌+◌, Bool, cond, List, [], ◌∷◌}
use Rattle.laws.specs.Lists.{same_lists}
use Rattle.laws.specs.Split.{split}
use Rattle.records.specs.closing.Closing.{begins, closing_text}
use Rattle.records.specs.declared.names.kind.FileKind.{FileKind}
use Rattle.records.specs.names.Kind.{has_closing}
use Rattle.records.specs.Record.{is_record}
use Rattle.files.specs.Judged.{is_end}

pub data Former : Type 0 where
  Records : ℕ → Former
  Fault : ℕ → Former

abbrev pub former_closed : ℕ → List ℕ → List (List ℕ) → Former
former_closed i l more = cond (same_lists eqb l (closing_text (i + 1))) (cond (is_end more) (Former.Records i) (Former.Fault (i + 1))) (Former.Fault i)

unfoldable pub former_judged : (List ℕ → Bool) → ℕ → List (List ℕ) → Former
former_judged record? i [] = Former.Fault i
former_judged record? i (l ∷ []) = Former.Fault i
former_judged record? i (l ∷ m ∷ more) =
    cond (begins l) (former_closed i l (m ∷ more)) (cond (record? l) (former_judged record? (i + 1) (m ∷ more)) (Former.Fault i))

unfoldable pub former_one : (List ℕ → Bool) → List (List ℕ) → Former
former_one record? [] = Former.Fault 0
former_one record? (l ∷ []) = Former.Fault 0
former_one record? (l ∷ m ∷ more) = cond (record? l) (cond (is_end (m ∷ more)) (Former.Records 1) (Former.Fault 1)) (Former.Fault 0)

unfoldable pub former_file : FileKind → List ℕ → Former
former_file kind file = cond (has_closing kind) (former_judged (is_record kind) 0 (split 13 file)) (former_one (is_record kind) (split 13 file))

-- what was told of a file before: the record, without field and cause
abbrev pub formerly : Result ℕ FileFault → Former
formerly (Ok n) = Former.Records n
formerly (Err fault) = Former.Fault fault.at.place
