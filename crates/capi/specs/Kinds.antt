-- The kinds of file by number. Assumes nothing: these are definitions.
use Rattle.std.specs.Prelude.{ℕ, cond, eqb}
use Rattle.records.specs.declared.names.kind.FileKind.{FileKind}
use Rattle.records.specs.declared.names.kind.FileKind.TheVariants.{Default, Correction, Request, Response}

-- 0 default, 1 correction, 2 request; any other number is a response file
unfoldable pub kind_by : ℕ → FileKind
kind_by n = cond (eqb n 0) Default (cond (eqb n 1) Correction (cond (eqb n 2) Request Response))
