-- Kinds by number, and what the checks come to as a number. Assumes nothing: these are definitions.
use Rattle.filing.specs.declared.checking.answer.NotFiled.{NotFiled}
use Rattle.std.specs.Prelude.{Err, Ok, Result}
use Rattle.fields.specs.declared.code.Code.{Code}
use Rattle.std.specs.Prelude.{cond, ℕ, eqb}
use Rattle.filing.specs.declared.entering.kind.Filable.{Filable}
use Rattle.filing.specs.declared.entering.kind.Filable.TheVariants.{Default, Correction}

-- 0 default, any other correction
unfoldable pub filable_by : ℕ → Filable
filable_by kind = cond (eqb kind 0) Default Correction

-- how many records a file has that passed; 0 where it did not
abbrev pub passed : Result (Code × ℕ) NotFiled → ℕ
passed (Err a) = 0
passed (Ok (c, m)) = m
