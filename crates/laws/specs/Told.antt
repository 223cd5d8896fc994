-- What is told of an answer, whatever it is: a number, and the values that go with it. Assumes nothing: these are definitions.
use Rattle.std.specs.Prelude.{ℕ, List, get_or}

pub record Told : Type 0 where
  pub number : ℕ
  pub values : List ℕ

abbrev pub told : ℕ → List ℕ → Told
told n vs = record { number = n; values = vs }

-- the value i; `none` where there is none
abbrev pub value_or : ℕ → ℕ → Told → ℕ
value_or none i t = get_or t.values i none

-- the same, 0 where there is none
abbrev pub value_at : ℕ → Told → ℕ
value_at i t = value_or 0 i t
