-- `text::field_end` meets its contract: wherever the search stands, what it has found so far says where the piece ends. Assumes nothing.
use Prim.Native.Nat.{◌+◌}
use mathlib.Core.Path.{◌≡◌}
use lib.ListN.{drop}
use Rattle.laws.specs.Lists.{first_at}
use Rattle.laws.specs.Split.{is_sep}
use Rattle.text.proofs.field_end.Given as goal

abbrev pub invariant-loop-i : goal.invariant-loop-i
invariant-loop-i l = l.i + first_at (is_sep l.sep) (drop l.i l.s) ≡ l.at + first_at (is_sep l.sep) (drop l.at l.s)
