-- The bytes of which fields and records are made, all of them in 4.4.1. Assumes nothing: these are definitions.
use Rattle.std.specs.Prelude.{ℕ, Bool, ◌||◌, eqb}
use Rattle.laws.specs.Digits.{is_digit}

-- a digit, 'D' (68), 'P' (80), 'L' (76) or 'Z' (90)
unfoldable pub field_byte : ℕ → Bool
field_byte b = is_digit b || (eqb b 68 || (eqb b 80 || (eqb b 76 || eqb b 90)))

-- a field's byte, a comma (44), a colon (58), 'U' (85) or 'K' (75)
unfoldable pub record_byte : ℕ → Bool
record_byte b = field_byte b || (eqb b 44 || (eqb b 58 || (eqb b 85 || eqb b 75)))
