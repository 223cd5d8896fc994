-- Damaged lines, and the first fault of each. Assumes nothing: these are definitions.
use Rattle.std.specs.Prelude.{Result, Ok, ⊤}
use Rattle.std.specs.Prelude.{ℕ, ◌≡◌, List, [], ◌∷◌, ◌++◌}
use Rattle.laws.specs.Digits.{digits}
use Rattle.laws.specs.Split.{joined}
use Rattle.records.specs.declared.names.kind.FileKind.{FileKind}
use Rattle.faults.specs.declared.cause.Cause.TheVariants.{Character, Length, Date, Code, Value}
use Rattle.faults.specs.declared.cause.FieldFault.{FieldFault}
use Rattle.faults.specs.Cause.{fault_in}
use Rattle.faults.specs.Record.{record_fault}

-- ---- fields of a line: a network code; a report of a date, a gaining network and a status; six fields that are empty
abbrev network : ℕ → List ℕ
network n = 68 ∷ digits 3 n

abbrev report : List ℕ → List ℕ → List ℕ → List ℕ
report date gaining status = joined 44 (digits 7 3055501 ∷ [] ∷ date ∷ gaining ∷ network 1 ∷ status ∷ [])

abbrev nothing : List ℕ
nothing = joined 44 ([] ∷ [] ∷ [] ∷ [] ∷ [] ∷ [] ∷ [])

-- a code, "U:", six fields, ",K:", six fields
abbrev correction : List ℕ → List ℕ → List ℕ → List ℕ
correction code u k = code ++ (85 ∷ 58 ∷ u) ++ (44 ∷ 75 ∷ 58 ∷ k)

-- 4 March 2024, and 'P' (80)
abbrev march : List ℕ
march = digits 8 4032024

abbrev gained : List ℕ
gained = 80 ∷ []

abbrev Says : FileKind → List ℕ → Result ⊤ FieldFault → Type 0
Says kind line check = record_fault kind line ≡ check

abbrev pub DamagedLines : Type 0
DamagedLines =
    Says FileKind.Default (report march (network 2) gained) (Ok tt)
    -- 30 February 2024; a day without its 0; 'A' (65) among the digits; a byte that 4.4.1 does not have, in a date that is too short
    × Says FileKind.Default (report (digits 8 30022024) (network 2) gained) (fault_in 5 Date)
    × Says FileKind.Default (report (digits 7 4032024) (network 2) gained) (fault_in 5 Length)
    × Says FileKind.Default (report (65 ∷ digits 7 4032024) (network 2) gained) (fault_in 5 Date)
    × Says FileKind.Default (report (128 ∷ digits 6 40320) (network 2) gained) (fault_in 5 Character)
    -- D00A; D02; a P without gaining network
    × Says FileKind.Default (report march (68 ∷ digits 2 0 ++ (65 ∷ [])) gained) (fault_in 7 Code)
    × Says FileKind.Default (report march (68 ∷ digits 2 2) gained) (fault_in 7 Length)
    × Says FileKind.Default (report march [] gained) (fault_in 11 Value)
    -- two wrong fields; a comma too many; a line cut short behind its date
    × Says FileKind.Default (report (digits 8 30022024) (network 2) (88 ∷ [])) (fault_in 5 Date)
    × Says FileKind.Default (report march (network 2) (80 ∷ 44 ∷ [])) (fault_in 11 Length)
    × Says FileKind.Default (joined 44 (digits 7 3055501 ∷ [] ∷ march ∷ [])) (fault_in 9 Length)
    -- a last number that is shorter than the first
    × Says FileKind.Default (joined 44 (digits 7 3055500 ∷ digits 6 305559 ∷ march ∷ network 2 ∷ network 1 ∷ gained ∷ [])) (fault_in 3 Value)
    -- the example of 4.7.9 with code 6000, which has a comma too few, and with it; an objection to nothing; a correction of nothing
    × Says FileKind.Correction (digits 4 6000 ++ (85 ∷ 58 ∷ []) ++ nothing ++ (75 ∷ 58 ∷ report march (network 2) gained)) (fault_in 13 Length)
    × Says FileKind.Correction (correction (digits 4 6000) nothing (report march (network 2) gained)) (Ok tt)
    × Says FileKind.Correction (correction (digits 4 2500) nothing (report march (network 2) gained)) (fault_in 3 Value)
    × Says FileKind.Correction (correction (digits 4 6000) nothing nothing) (fault_in 16 Value)
    -- a code of three digits; "V:" for "U:"; a K part with a comma too few
    × Says FileKind.Correction (correction (digits 3 250) (report march (network 2) gained) nothing) (fault_in 1 Length)
    × Says FileKind.Correction (digits 4 2500 ++ (86 ∷ 58 ∷ report march (network 2) gained) ++ (44 ∷ 75 ∷ 58 ∷ nothing)) (fault_in 2 Value)
    × Says FileKind.Correction (correction (digits 4 2500) (report march (network 2) gained) (joined 44 ([] ∷ [] ∷ [] ∷ [] ∷ [] ∷ []))) (fault_in 25 Length)
    -- a request without its commas, without the second, and with something behind it
    × Says FileKind.Request (network 456) (fault_in 2 Length)
    × Says FileKind.Request (joined 44 (network 456 ∷ march ∷ [])) (fault_in 4 Length)
    × Says FileKind.Request (joined 44 (network 456 ∷ march ∷ (32 ∷ []) ∷ [])) (fault_in 5 Length)
