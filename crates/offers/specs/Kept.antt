-- Answers kept, at most 16,384 of them. Assumes nothing: these are definitions.
use Rattle.std.specs.Prelude.{cond, Result, ℕ, List, [], ◌∷◌, ◌++◌, leb, length, take}
use Rattle.filing.specs.declared.checking.answer.NotFiled.{NotFiled}
use Rattle.offers.specs.declared.kept.Kept.{Kept}

-- those that are kept
abbrev pub kept : Kept → List (Result ℕ NotFiled)
kept k = take k.count k.answers

-- one more; there is no place for one behind the last
abbrev pub with_answer : List (Result ℕ NotFiled) → Result ℕ NotFiled → List (Result ℕ NotFiled)
with_answer answers a = cond (leb 16384 (length answers)) answers (answers ++ a ∷ [])
