-- Words in groups, measured one after the other. Assumes nothing.
use Prim.Native.Nat.{min, ℕ, zero, suc, ◌+◌, ◌*◌, ◌≤◌, ◌<◌}
use native.Mathlib.Omega.{arith}
use mathlib.Core.Path.{◌≡◌, refl, ap, ◌∙◌}
use mathlib.Core.Bool.{true, false}
use mathlib.Core.List.{List, [], ◌∷◌, ◌++◌, append-nil}
use lib.ListN.{length, take, drop, length-drop, length-append, drop_of_length-le}
use lib.Seq.{take_all}
use Rattle.std.proofs.lemmas.List.{take_at, drop_at}
use Rattle.records.specs.declared.names.kind.FileKind.{FileKind}
use Rattle.records.specs.declared.names.kind.FileKind.TheVariants.{Default, Correction, Request, Response}
use Rattle.records.specs.Record.{width_of, fits, text_of}
use Rattle.records.proofs.RecordLaws.{fits-short}
use Rattle.files.specs.Writing.{groups_to, groups, values_in}
use Rattle.std.specs.Prelude.{Err}
use Rattle.records.specs.declared.names.written.NotWritten.{NotWritten}
use Rattle.composing.specs.Measuring.{measured, measured_from}

pub width_some : (k : FileKind) → 1 ≤ width_of k
width_some Default = omega arith
width_some Correction = omega arith
width_some Request = omega arith
width_some Response = omega arith

-- ---- the first group, and the others
-- more room than words changes nothing
groups-room : (most n w : ℕ) (ws : List ℕ) → 1 ≤ w → length ws ≤ most → length ws ≤ n → groups_to most w ws ≡ groups_to n w ws
unfolding groups_to
groups-room zero zero w ws o h k = refl
groups-room zero (suc n) w [] o h k = refl
groups-room zero (suc n) w (x ∷ ws) o h k = absurd (omega arith)
groups-room (suc most) zero w [] o h k = refl
groups-room (suc most) zero w (x ∷ ws) o h k = absurd (omega arith)
groups-room (suc most) (suc n) w [] o h k = refl
groups-room (suc most) (suc n) w (x ∷ ws) o h k =
    ap (λ (gs : List (List ℕ)). take w (x ∷ ws) ∷ gs) (groups-room most n w (drop w (x ∷ ws)) o (omega (arith, length-drop w (x ∷ ws))) (omega (arith, length-drop w (x ∷ ws))))

pub groups_none : (w : ℕ) (ws : List ℕ) → length ws ≤ 0 → groups w ws ≡ []
unfolding groups groups_to
groups_none w [] h = refl
groups_none w (x ∷ ws) h = absurd (omega arith)

pub groups-some : (w : ℕ) (ws : List ℕ) → 1 ≤ w → 0 < length ws → groups w ws ≡ take w ws ∷ groups w (drop w ws)
unfolding groups groups_to
groups-some w [] o h = absurd (omega arith)
groups-some w (x ∷ ws) o h =
    ap (λ (gs : List (List ℕ)). take w (x ∷ ws) ∷ gs) (groups-room (length ws) (length (drop w (x ∷ ws))) w (drop w (x ∷ ws)) o (omega (arith, length-drop w (x ∷ ws))) (omega arith))

-- ---- a piece of at most w words that comes off the front is the first group
chunk-front : (w : ℕ) (g r : List ℕ) → length g ≡ min w (length (g ++ r)) → (take w (g ++ r) ≡ g) × (drop w (g ++ r) ≡ r)
chunk-front w g [] e =
    let l : length (g ++ []) ≤ w = omega (arith, e, length-append g []) in
    (take_all w (g ++ []) l ∙ append-nil g, drop_of_length-le (g ++ []) l)
chunk-front w g (x ∷ r) e =
    let l : length g ≡ w = omega (arith, e, length-append g (x ∷ r)) in
    (take_at g (x ∷ r) w l, drop_at g (x ∷ r) w l)

pub record Cut (kind : FileKind) (left g right : List ℕ) : Type 0 where
  pub cut : left ≡ g ++ right
  pub size : length g ≡ min (width_of kind) (length left)
  pub some : 0 < length left

pub cut_of : {kind : FileKind} {w : ℕ} {left g right : List ℕ} → w ≡ width_of kind → left ≡ g ++ right → length g ≡ min w (length left) → 0 < length left → Cut kind left g right
cut_of {left = left} e cut size some = record { cut = cut; size = size ∙ ap (λ (n : ℕ). min n (length left)) e; some = some }

module _ {kind : FileKind} {left g right : List ℕ} (c : Cut kind left g right) where
  pub chunk-more : values_in kind left ≡ g ∷ values_in kind right
  chunk-more =
      let p = chunk-front (width_of kind) g right (c.size ∙ ap (λ (l : List ℕ). min (width_of kind) (length l)) c.cut) in
      groups-some (width_of kind) left (width_some kind) c.some
      ∙ rw (c.cut, p.0, p.1)

  pub chunk-some : 1 ≤ length g
  chunk-some = omega (arith, c.size, c.some, width_some kind)

  pub chunk-length : length left ≡ length g + length right
  chunk-length = ap length c.cut ∙ length-append g right

  -- a group that makes a record has a line that is no longer than its words
  pub chunk-short : (n : ℕ) → fits kind g ≡ true → n ≡ length (text_of kind g) → n + 1 ≤ 8 * length g
  chunk-short n e en = omega (arith, fits-short kind g e)

  module _ (k total : ℕ) where
    pub measure-on : (n : ℕ) → fits kind g ≡ true → n ≡ length (text_of kind g) → measured_from kind k total (values_in kind left) ≡ measured_from kind (k + 1) (total + (n + 1)) (values_in kind right)
    unfolding measured_from
    measure-on n e en = rw (chunk-more, e, en)

    pub measure-stop : fits kind g ≡ false → measured_from kind k total (values_in kind left) ≡ Err (NotWritten.Fault k)
    unfolding measured_from
    measure-stop e = rw (chunk-more, e)

pub measure-done : (kind : FileKind) (left : List ℕ) (k total : ℕ) → length left ≡ 0 → measured_from kind k total (values_in kind left) ≡ measured k total
unfolding measured_from
measure-done kind left k total h = rw (groups_none (width_of kind) left (omega arith))
