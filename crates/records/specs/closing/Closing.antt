-- The closing record, without the CR that ends its line. Assumes nothing: these are definitions.
use Rattle.std.specs.Prelude.{eqb, ℕ, suc, Bool, List, [], ◌∷◌, ◌++◌, take}
use Rattle.laws.specs.Digits.{digits, size_of}
use Rattle.laws.specs.Lists.{same_lists}

-- "Zeilenanzahl:"
abbrev pub closing_word : List ℕ
closing_word = 90 ∷ 101 ∷ 105 ∷ 108 ∷ 101 ∷ 110 ∷ 97 ∷ 110 ∷ 122 ∷ 97 ∷ 104 ∷ 108 ∷ 58 ∷ []

-- n in decimal, without leading zeros
unfoldable pub decimal : ℕ → List ℕ
decimal n = digits (suc (size_of n n)) n

-- the closing record of a file of n lines, this one among them
unfoldable pub closing_text : ℕ → List ℕ
closing_text n = closing_word ++ decimal n ++ (44 ∷ [])

-- whether a line begins as a closing record does
unfoldable pub begins : List ℕ → Bool
begins l = same_lists eqb (take 13 l) closing_word
