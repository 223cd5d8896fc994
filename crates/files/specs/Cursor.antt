-- A walk through a file's lines, each from where the last ended. Assumes nothing: these are definitions.
use Rattle.std.specs.Prelude.{ℕ, zero, suc, ◌+◌, List}
use Rattle.laws.specs.Split.{end_of}

-- where the line k starts: behind the CR of the line before it
unfoldable pub line_start : List ℕ → ℕ → ℕ
line_start file zero = 0
line_start file (suc k) = end_of 13 file (line_start file k) + 1
