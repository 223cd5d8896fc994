-- The examples a) to g) of 4.4.2: the first and the last number, and whether they are a block. Assumes nothing: these are definitions.
use Rattle.std.specs.Prelude.{ℕ, ◌≡◌, Bool, true, false, List, [], ◌∷◌, map}
use Rattle.laws.specs.Digits.{digits}
use Rattle.fields.specs.Block.{block}

abbrev pub Row : Type 0
Row = (List ℕ × List ℕ) × Bool

abbrev pub examples : List Row
examples =
    ((digits 11 68975678000, digits 11 68975678999), true)
    ∷ ((digits 11 68975678030, digits 11 68975678059), true)
    ∷ ((digits 11 68975678070, digits 11 68975678129), false)
    ∷ ((digits 11 68975678100, digits 11 68975678229), false)
    ∷ ((digits 10 3919900500, digits 10 3919900649), false)
    ∷ ((digits 11 23629674001, digits 11 23629674500), false)
    ∷ ((digits 11 23629674150, digits 11 23629674649), false)
    ∷ []

-- the definition of a block gives each row's answer
abbrev pub Agreed : Type 0
Agreed = map (λ (r : Row). block r.0.0 r.0.1) examples ≡ map (λ (r : Row). r.1) examples
