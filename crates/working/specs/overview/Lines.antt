-- The lines' first fields as what an index is wanted for. Which tags are wanted decides how soon a line's records are found, never which. Assumes nothing: these are definitions.
use Rattle.std.specs.Prelude.{List, ◌++◌, ℕ, take, drop}
use Rattle.laws.specs.Order.{sorted}
use Rattle.order.specs.groups.Groups.{tag}
use Rattle.store.specs.numbers.Lines.{line_at}
use Rattle.working.specs.indexing.Index.{front}

-- the place of a line with the first field of its number in front
unfoldable pub line_tag : List ℕ → ℕ → ℕ
line_tag lines i = tag (front (line_at lines i).number.first.0) i

-- the first m in order, the others as they were
abbrev pub sorted_first : ℕ → List ℕ → List ℕ
sorted_first m l = sorted (take m l) ++ drop m l
