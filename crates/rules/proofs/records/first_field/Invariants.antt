-- `rules::records::first_field` meets its contract: what is found is the run of the bytes that are left, behind the digits before them.
-- Assumes nothing.
use Prim.Native.Nat.{◌<◌, ◌-◌, ◌*◌, ◌^◌}
use mathlib.Core.Path.{◌≡◌}
use lib.ListN.{drop}
use Rattle.laws.specs.Split.{piece_of}
use Rattle.fields.specs.Number.{digits_field_of}
use Rattle.rules.specs.Records.{field_digits}
use Rattle.rules.proofs.FirstRun.{run}
use Rattle.rules.proofs.records.first_field.Given as goal

abbrev pub invariant-loop-b : goal.invariant-loop-b
invariant-loop-b l = (field_digits (digits_field_of (piece_of 44 l.s 0)) ≡ run l.n (11 - l.b-index) (drop l.b-index l.s)) × (l.n < 2 * 10 ^ l.b-index)
