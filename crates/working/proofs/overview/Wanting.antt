-- The tags of lines laid one behind the other; numbers of which the first m are in order are wanted as they stand. Assumes nothing.
use mathlib.Core.Path.{◌≡◌, sym, ap, ap₂, ◌∙◌}
use mathlib.Core.List.{List}
use Prim.Native.Nat.{ℕ, ◌+◌, ◌≤◌}
use native.Mathlib.Nat.{zero-add}
use lib.ListN.{take, set}
use Rattle.laws.specs.Lists.{table}
use Rattle.laws.specs.Order.{sorted}
use Rattle.laws.specs.Overlay.{overlay}
use Rattle.laws.proofs.Overlay.{overlay-none, overlay-snoc}
use Rattle.laws.proofs.Tables.{table_more, length-table}
use Rattle.laws.proofs.Rising.{take-sorted-any}
use Rattle.working.specs.indexing.Index.{Wanted}
use Rattle.working.proofs.indexing.Grouping.{sorted-again}
use Rattle.working.specs.overview.Lines.{line_tag, sorted_first}

pub wanted-sorted : (m : ℕ) (l w : List ℕ) → m ≤ 10240 → w ≡ sorted_first m l → Wanted w m
wanted-sorted m l w few e =
    let first : take m w ≡ sorted (take m l) = ap (take m) e ∙ take-sorted-any m l in
    record { few = few; ordered = ap sorted first ∙ sorted-again (take m l) ∙ sym first }

-- ---- a turn of laying them
pub tags-none : (xs lines : List ℕ) → xs ≡ overlay xs 0 (table 0 (line_tag lines))
unfolding table
tags-none xs lines = overlay-none xs 0

pub tags-more : (xs lines : List ℕ) (i v : ℕ) (laid : List ℕ) → v ≡ line_tag lines i → laid ≡ overlay xs 0 (table i (line_tag lines)) → set laid i v ≡ overlay xs 0 (table (i + 1) (line_tag lines))
tags-more xs lines i v laid ev el =
    ap₂ (λ (l : List ℕ) (u : ℕ). set l i u) el ev
    ∙ ap (λ (k : ℕ). set (overlay xs 0 (table i (line_tag lines))) k (line_tag lines i)) (sym (zero-add i))
    ∙ overlay-snoc xs 0 (table i (line_tag lines)) (line_tag lines i) i (length-table i (line_tag lines))
    ∙ ap (overlay xs 0) (sym (table_more i (line_tag lines)))
