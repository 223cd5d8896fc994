-- The line of a number. Assumes nothing: these are definitions.
use Rattle.std.specs.Prelude.{Option, Some, None}
use Rattle.std.specs.Prelude.{Bool, cond, List, ℕ, ◌+◌, ◌*◌, leb, ltb, length}
use Rattle.laws.specs.Lists.{first_at}
use Rattle.fields.specs.Number.{same_number}
use Rattle.fields.specs.declared.number.Number.{Number}
use Rattle.store.specs.numbers.Lines.{line_count, lines_of}
use Rattle.store.specs.declared.numbers.lines.Line.{Line}

-- the line has the number x
unfoldable pub is_of : Number → Line → Bool
is_of x l = same_number l.number x

-- a place among the first n
abbrev pub among : ℕ → ℕ → Option ℕ
among n i = cond (ltb i n) (Some i) None

-- the first line that has the number x. A table that is cut off before its last line has none
unfoldable pub found_line : List ℕ → Number → Option ℕ
found_line t x = cond (leb (2 + line_count t * 14) (length t)) (among (line_count t) (first_at (is_of x) (lines_of t))) None
