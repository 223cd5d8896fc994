-- Places of a list grouped by a number that stands in front of each. Assumes nothing: these are definitions.
use Rattle.std.specs.Prelude.{List, ℕ, suc, ◌+◌, ◌-◌, ◌*◌, ltb, length, take, drop, get_or}
use Rattle.laws.specs.Lists.{table, keep}
use Rattle.laws.specs.Order.{sorted}

-- how many of the numbers are below the key
unfoldable pub below : ℕ → List ℕ → ℕ
below key l = length (keep (λ (x : ℕ). ltb x key) l)

-- a place, at most 16,383, with a number in front of it
abbrev pub tag : ℕ → ℕ → ℕ
tag front place = front * 16384 + place

-- the places of a list's elements in order, each with φ of its element in front
abbrev pub tags : (ℕ → ℕ) → List ℕ → List ℕ
tags φ l = sorted (table (length l) (λ (i : ℕ). tag (φ (get_or l i 0)) i))

-- of tags in order: the part that has this number in front
abbrev pub group : ℕ → List ℕ → List ℕ
group front g = take (below (tag (suc front) 0) g - below (tag front 0) g) (drop (below (tag front 0) g) g)
