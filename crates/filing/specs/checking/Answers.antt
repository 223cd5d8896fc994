-- What each answer of filing tells: the paper's number, and the values that go with it. Assumes nothing: these are definitions.
use Rattle.std.specs.Prelude.{Err, Ok, Result}
use Rattle.std.specs.Prelude.{ℕ, [], ◌∷◌}
use Rattle.laws.specs.Told.{Told, told}
use Rattle.faults.specs.Cause.{fault_told}
use Rattle.filing.specs.declared.checking.answer.NotFiled.{NotFiled}
use Rattle.filing.specs.declared.checking.answer.NotFiled.TheVariants.{Unreadable, NoCode, NoDay, FiledAlready, Fault, Full}

-- 0 carries the count, 4 the fault
abbrev pub answer_told : Result ℕ NotFiled → Told
answer_told (Ok count) = told 0 (count ∷ [])
answer_told (Err Unreadable) = told 44 []
answer_told (Err NoCode) = told 1 []
answer_told (Err NoDay) = told 2 []
answer_told (Err FiledAlready) = told 3 []
answer_told (Err (Fault place cause)) = fault_told place cause
answer_told (Err Full) = told 5 []

abbrev pub answer_number : Result ℕ NotFiled → ℕ
answer_number a = (answer_told a).number
