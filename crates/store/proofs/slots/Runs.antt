-- A run of bytes written by std's methods on a part of a slice is laid over it. Assumes nothing.
use mathlib.Core.Path.{◌≡◌, refl, sym, ◌∙◌}
use mathlib.Core.List.{List, append_assoc}
use Prim.Native.Nat.{ℕ, ◌+◌, ◌≤◌}
use borrow.Rule.Slice.PartMut.{put_mid}
use lib.ListN.{length, take, drop}
use Rattle.std.proofs.lemmas.Slice.{put_mid-paste}
use Rattle.std.proofs.lemmas.List.Edits.{paste_all}
use Rattle.laws.specs.Overlay.{overlay}
use Rattle.laws.proofs.Overlay.{overlay-parts}

pub part_written : (xs : List ℕ) (at k : ℕ) (ys zs : List ℕ) → ys ≡ zs → length zs ≡ k → at + length zs ≤ length xs → put_mid at k xs ys ≡ overlay xs at zs
part_written xs at k ys zs e n h =
    put_mid-paste at k xs ys zs (length zs) e n refl
    ∙ paste_all xs at zs (length zs) refl
    ∙ sym (append_assoc (take at xs) zs (drop (at + length zs) xs))
    ∙ sym (overlay-parts xs at zs h)
