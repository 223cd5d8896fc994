-- What a run of decimal digits spells. Assumes nothing: these are definitions.
use Rattle.std.specs.Prelude.{Option, Some, None}
use Rattle.std.specs.Prelude.{ℕ, Bool, cond, List, leb, length}
use Rattle.laws.specs.Digits.{all_digits, spelt}

-- the number that digits spell behind `start`; a fault where a byte is no digit
unfoldable pub spells : ℕ → List ℕ → Option ℕ
spells start f = cond (all_digits f) (Some (spelt start f)) None

-- the number that at most 18 digits spell, behind a leading 1 or not: as many fit a word
unfoldable pub digits_of : Bool → List ℕ → Option ℕ
digits_of lead f = cond (leb (length f) 18) (spells (cond lead 1 0) f) None
