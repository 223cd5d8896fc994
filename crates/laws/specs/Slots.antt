-- A buffer as a head and then slots of one width. Assumes nothing: these are definitions.
use Rattle.std.specs.Prelude.{ℕ, ◌+◌, ◌-◌, ◌*◌, List, [], ◌∷◌, ◌++◌, Bool, ◌&&◌, eqb, ltb, length, take, drop, get_or, replicate}
use Rattle.laws.specs.Lists.{all}
use Rattle.laws.specs.Overlay.{part}

-- the slot k, of `width` bytes, behind a head of `head` bytes
unfoldable pub slot_at : ℕ → ℕ → List ℕ → ℕ → List ℕ
slot_at head width xs k = part xs (head + k * width) width

-- the slot of `width` bytes that holds `bytes`: their number, the bytes, zeros
unfoldable pub slot_of : ℕ → List ℕ → List ℕ
slot_of width bytes = length bytes ∷ (bytes ++ replicate (width - 1 - length bytes) 0)

unfoldable pub is_zero : ℕ → Bool
is_zero b = eqb b 0

-- a slot of `width` bytes whose first byte says how many bytes it holds, with zeros behind these
unfoldable pub is_held : ℕ → List ℕ → Bool
is_held width s = ltb (get_or s 0 0) width && all is_zero (drop (get_or s 0 0 + 1) s)

-- the bytes that a slot holds: as many as its first byte says, and no more than stand behind it
unfoldable pub held_in : List ℕ → List ℕ
held_in [] = []
held_in (n ∷ rest) = take n rest
