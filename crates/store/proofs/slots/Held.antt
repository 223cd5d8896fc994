-- The bytes that a slot holds, as the code cuts them out of a journal. Assumes nothing.
use mathlib.Core.Path.{◌≡◌, sym, ap, ap₂, ◌∙◌}
use mathlib.Core.Bool.{false}
use mathlib.Core.List.{List}
use Prim.Native.Nat.{ℕ, ◌+◌, ◌-◌, ◌*◌, ◌≤◌, ◌<◌}
use native.Mathlib.Nat.{zero-add, add-zero}
use native.Mathlib.Omega.{arith}
use borrow.Author.Tests.{le-ltb, lt-ltb}
use lib.ListN.{length, take, drop, get_or}
use lib.Seq.{drop-drop}
use Rattle.laws.specs.Lists.{all}
use Rattle.laws.specs.Overlay.{part}
use Rattle.laws.specs.Slots.{slot_at, held_in, is_zero, is_held}
use Rattle.laws.proofs.Overlay.{part_at, take-drop}
use Rattle.laws.proofs.Slots.{slot-written, held-short, held-long}

module _ (width : ℕ) (journal : List ℕ) (k n : ℕ) (fits : k * width + width ≤ length journal) (e : n ≡ get_or journal (k * width) 0) where
  -- as many as the length byte says
  pub held_as_said : n < width → take (k * width + 1 + n - (k * width + 1)) (drop (k * width + 1) journal) ≡ held_in (slot_at 0 width journal k)
  unfolding slot_at
  held_as_said h =
      held-short width journal (k * width) n (k * width + 1 + n - (k * width + 1)) fits e h (omega arith)
      ∙ ap (λ (at : ℕ). held_in (part journal at width)) (sym (zero-add (k * width)))

  -- the rest of the slot, where the length byte says more
  pub held_all : 0 < width → width ≤ n → take (k * width + width - (k * width + 1)) (drop (k * width + 1) journal) ≡ held_in (slot_at 0 width journal k)
  unfolding slot_at
  held_all some h =
      held-long width journal (k * width) n (k * width + width - (k * width + 1)) fits e h (omega arith)
      ∙ ap (λ (at : ℕ). held_in (part journal at width)) (sym (zero-add (k * width)))

-- ---- whether a slot is well kept
module _ (width : ℕ) (journal : List ℕ) (k n : ℕ) (fits : k * width + width ≤ length journal) (some : 0 < width) (e : n ≡ get_or journal (k * width) 0) where
  first : get_or (slot_at 0 width journal k) 0 0 ≡ n
  unfolding slot_at
  first =
      part_at journal (0 + k * width) width 0 some
      ∙ ap (λ (at : ℕ). get_or journal at 0) (add-zero (0 + k * width) ∙ zero-add (k * width))
      ∙ sym e

  pub held_beyond : width ≤ n → false ≡ is_held width (slot_at 0 width journal k)
  unfolding is_held
  held_beyond h = rw (first, le-ltb n width h)

  rest : n < width → drop (n + 1) (slot_at 0 width journal k) ≡ take (k * width + width - (k * width + 1 + n)) (drop (k * width + 1 + n) journal)
  unfolding slot_at part
  rest h =
      let e₁ : width ≡ n + 1 + (width - (n + 1)) = omega arith in
      let e₂ : width - (n + 1) ≡ k * width + width - (k * width + 1 + n) = omega arith in
      let e₃ : 0 + k * width + (n + 1) ≡ k * width + 1 + n = omega arith in
      ap (λ (m : ℕ). drop (n + 1) (take m (drop (0 + k * width) journal))) e₁
      ∙ take-drop (width - (n + 1)) (n + 1) (drop (0 + k * width) journal)
      ∙ ap (take (width - (n + 1))) (drop-drop (n + 1) (0 + k * width) journal)
      ∙ ap₂ (λ (a b : ℕ). take a (drop b journal)) e₂ e₃

  pub held_zeros : n < width → all is_zero (take (k * width + width - (k * width + 1 + n)) (drop (k * width + 1 + n) journal)) ≡ is_held width (slot_at 0 width journal k)
  unfolding is_held
  held_zeros h = rw (first, lt-ltb n width h, ← rest h)

pub ruleset written = slot-written
