-- The element at a place of a list. Assumes nothing: these are definitions.
use Rattle.std.specs.Prelude.{ℕ, List, Option, slice_get}

-- counted from 0; none for a place beyond the list
abbrev pub item_at : {A : Type 0} → List A → ℕ → Option A
item_at l i = slice_get l i
