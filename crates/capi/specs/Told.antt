-- What an answer tells in plain numbers: its own, and the values that go with it. Assumes nothing: these are definitions.
use Rattle.std.specs.Prelude.{◌≡◌, ℕ}
use Rattle.laws.specs.Told.{Told, value_or, value_at}
use Rattle.capi.specs.declared.told.Numbers.{Numbers}

-- four values at most; `none` stands where there is none
abbrev pub in_numbers : ℕ → Told → Numbers
in_numbers none t = record { number = t.number; first = value_or none 0 t; second = value_or none 1 t; third = value_or none 2 t; fourth = value_or none 3 t }

-- what reading a file answers: beside the number the count or the place of the faulty record, its faulty field, the cause
pub record Tells (right : Told) (answer more field cause : ℕ) : Type 0 where
  pub answers : answer ≡ right.number
  pub tells : more ≡ value_at 0 right
  pub names : field ≡ value_at 1 right
  pub blames : cause ≡ value_at 2 right
