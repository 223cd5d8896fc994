-- What a verdict does (paper 01, "Verdicts on reports"). Assumes nothing: these are definitions.
use Rattle.std.specs.Prelude.{Bool, [], ◌∷◌, eqb}
use Rattle.laws.specs.Lists.{first_line}
use Rattle.verdict.specs.declared.verdicts.Verdict.{Verdict}
use Rattle.verdict.specs.declared.verdicts.Doing.{Doing}
use Rattle.verdict.specs.declared.verdicts.Doing.TheVariants.{Keeps, Confirms, Lapses, Nothing}
use Rattle.verdict.specs.verdicts.Numbers.{number_of}

-- 10 keeps the report open, 11 confirms, at 30 the named report lapses
abbrev pub is_kept : Verdict → Bool
is_kept v = eqb (number_of v) 10

abbrev pub is_confirmed : Verdict → Bool
is_confirmed v = eqb (number_of v) 11

abbrev pub is_lapsed : Verdict → Bool
is_lapsed v = eqb (number_of v) 30

-- no other verdict changes anything
abbrev pub does_by : Verdict → Doing
does_by v = first_line ((is_kept v, Keeps) ∷ (is_confirmed v, Confirms) ∷ (is_lapsed v, Lapses) ∷ []) Nothing
