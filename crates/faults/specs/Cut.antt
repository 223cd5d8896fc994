-- The fields of a line that may be damaged: a field reaches to the next comma (44), the last one to the end of the record; fields that are missing
-- are empty. Assumes nothing: these are definitions.
use Rattle.std.specs.Prelude.{ℕ, ◌-◌, cond, ◌&&◌, List, eqb, ltb, length, get_or, take, drop}
use Rattle.laws.specs.Split.{split, piece_of, joined, end_of}

-- the field behind so many commas, up to the next one
abbrev pub field_at : List ℕ → ℕ → List ℕ
field_at s k = piece_of 44 s k

-- all that stands behind so many commas
unfoldable pub rest_at : List ℕ → ℕ → List ℕ
rest_at s k = joined 44 (drop k (split 44 s))

-- ---- the head of a correction: code, "U:" and the first number stand together up to the first comma
-- where the first colon (58) stands
abbrev pub colon_in : List ℕ → ℕ
colon_in h = end_of 58 h 0

-- the code reaches to "U:"; where there is none, it is the first four bytes
unfoldable pub code_width : List ℕ → ℕ
code_width h = cond (ltb (colon_in h) (length h) && eqb (get_or h (colon_in h - 1) 0) 85) (colon_in h - 1) 4

abbrev pub code_in : List ℕ → List ℕ
code_in h = take (code_width h) h

abbrev pub mark_in : List ℕ → List ℕ
mark_in h = take 2 (drop (code_width h) h)

abbrev pub number_in : List ℕ → List ℕ
number_in h = drop 2 (drop (code_width h) h)
