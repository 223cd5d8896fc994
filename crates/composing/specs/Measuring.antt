-- Records measured and laid one after the other. Assumes nothing: these are definitions.
use Rattle.std.specs.Prelude.{ℕ, ◌+◌, cond, List, [], ◌∷◌, ◌++◌, map, length}
use Rattle.laws.specs.Ended.{ended}
use Rattle.records.specs.closing.Closing.{closing_text}
use Rattle.records.specs.declared.names.kind.FileKind.{FileKind}
use Rattle.records.specs.Record.{fits, text_of}
use Rattle.composing.specs.declared.measure.Measured.{Measured}
use Rattle.std.specs.Prelude.{Result, Ok, Err}
use Rattle.records.specs.declared.names.written.NotWritten.{NotWritten}

abbrev pub measured : ℕ → ℕ → Result Measured NotWritten
measured n bytes = Ok (record { count = n; bytes = bytes })

-- behind k records whose lines have `total` bytes
unfoldable pub measured_from : FileKind → ℕ → ℕ → List (List ℕ) → Result Measured NotWritten
measured_from kind k total [] = measured k total
measured_from kind k total (v ∷ vs) = cond (fits kind v) (measured_from kind (k + 1) (total + (length (text_of kind v) + 1)) vs) (Err (NotWritten.Fault k))

-- each record with its CR, and behind them the closing record with its
unfoldable pub record_lines : FileKind → List (List ℕ) → List ℕ
record_lines kind vs = ended 13 (map (text_of kind) vs)

unfoldable pub closed_text : FileKind → List (List ℕ) → List ℕ
closed_text kind vs = record_lines kind vs ++ closing_text (length vs + 1) ++ (13 ∷ [])
