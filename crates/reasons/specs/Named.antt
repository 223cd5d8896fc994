-- Why a number stands where it does, asked by a word of the command line. Assumes nothing: these are definitions.
use Rattle.fields.specs.declared.number.Number.{Number}
use Rattle.std.specs.Prelude.{Option, Some, None, Result, Err, List, ℕ}
use Rattle.asking.specs.declared.looks.NotSeen.{NotSeen}
use Rattle.asking.specs.declared.pairs.Pair.{Pair}
use Rattle.asking.specs.Looks.{why_looked}

-- what is no number is not in the table
abbrev pub why_named : List ℕ → List ℕ → List ℕ → List ℕ → Option Number → Result (Option Pair) NotSeen
why_named t f r c (Some x) = why_looked t f r c x
why_named t f r c None = Err NotSeen.UnknownNumber
