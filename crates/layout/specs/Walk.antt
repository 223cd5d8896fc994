-- The fields of a line read one after the other: the value of the field that starts at a place, and the place behind the comma (44) that ends it.
-- Assumes nothing: these are definitions.
use Rattle.std.specs.Prelude.{Option, Some, None}
use Rattle.std.specs.Prelude.{ℕ, ◌+◌, cond, List, leb, ltb, length}
use Rattle.laws.specs.Split.{between, end_of}

-- the field that starts at `at`
abbrev pub field_at : List ℕ → ℕ → List ℕ
field_at s at = between s at (end_of 44 s at)

-- how far a field of digits and its comma reach at most: 11 digits and the comma, and not beyond the line
unfoldable pub reach_of : List ℕ → ℕ → ℕ
reach_of s at = cond (leb (length s) (at + 12)) (length s) (at + 12)

module _ {A : Type 0} where
  abbrev pub then_next : Option A → ℕ → Option (A × ℕ)
  then_next (Some x) next = Some (x, next)
  then_next None next = None

  -- what the field is read as by `of`
  unfoldable pub found_at : (List ℕ → Option A) → List ℕ → ℕ → Option (A × ℕ)
  found_at of s at = cond (ltb (end_of 44 s at) (length s)) (then_next (of (field_at s at)) (end_of 44 s at + 1)) None
