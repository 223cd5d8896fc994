-- `filing::renewing::named::lay_tags` meets its contract: the loop's invariant is the contract over the first i records. Assumes nothing.
use mathlib.Core.Path.{◌≡◌}
use Prim.Native.Nat.{ℕ}
use lib.ListN.{take}
use Rattle.laws.specs.Lists.{table}
use Rattle.order.specs.groups.Groups.{tag}
use Rattle.store.specs.journals.Reads.{records_at}
use Rattle.filing.specs.renewing.Turns.{filed_from, front_from}
use Rattle.filing.proofs.renewing.named.lay_tags.Given as goal

abbrev pub invariant-loop-i : goal.invariant-loop-i
invariant-loop-i l =
    let r = l.records in
    take l.i l.wanted ≡ table l.i (λ (k : ℕ). tag (front_from (filed_from (records_at r.journals.regular.now r.journals.corrections.now) r.file r.start) k) k)
