-- The kinds of files and the letters that name them (5.2.2). Assumes nothing: these are definitions.
use Rattle.std.specs.Prelude.{Option, Some, None}
use Rattle.std.specs.Prelude.{ℕ, Bool, true, false, cond, eqb}
use Rattle.records.specs.declared.names.kind.FileKind.{FileKind}
use Rattle.records.specs.declared.names.kind.FileKind.TheVariants.{Default, Correction, Request, Response}

-- D, K, Q, R
abbrev pub letter_of : FileKind → ℕ
letter_of Default = 68
letter_of Correction = 75
letter_of Request = 81
letter_of Response = 82

unfoldable pub kind_of : ℕ → Option FileKind
kind_of b = cond (eqb b 68) (Some Default) (cond (eqb b 75) (Some Correction) (cond (eqb b 81) (Some Request) (cond (eqb b 82) (Some Response) None)))

-- whether the kind's tables ask for a closing record
abbrev pub has_closing : FileKind → Bool
has_closing Default = true
has_closing Correction = true
has_closing Request = false
has_closing Response = true
