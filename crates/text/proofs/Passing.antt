-- A line gone through from separator to separator: what is known of its pieces where k of them lie behind. Assumes nothing.
use Prim.Native.Nat.{ℕ, suc, ◌+◌, ◌≤◌, ◌<◌}
use native.Mathlib.Nat.{add-zero}
use native.Mathlib.Omega.{arith}
use mathlib.Core.Path.{◌≡◌, sym, ap, ◌∙◌}
use mathlib.Core.List.{List, []}
use lib.ListN.{length, get_or, drop}
use Rattle.laws.specs.Split.{split, piece_of, between, end_of, EndsAt}
use Rattle.laws.proofs.Split.{split-some, ends_at, ends_more, ends_last}

-- the pieces of s behind its first k are those of what starts at `at`
pub record Passed (sep : ℕ) (s : List ℕ) (k at : ℕ) : Type 0 where
  pub within : at ≤ length s
  pub count : length (split sep s) ≡ k + length (split sep (drop at s))
  pub pieces : (j : ℕ) → piece_of sep s (k + j) ≡ piece_of sep (drop at s) j

pub passed_none : (sep : ℕ) (s : List ℕ) → Passed sep s 0 0
passed_none sep s = record { within = omega arith; count = omega arith; pieces = λ j. let e : 0 + j ≡ j = omega arith in ap (piece_of sep s) e }

module _ {sep : ℕ} {s : List ℕ} {k at e : ℕ} (p : Passed sep s k at) (q : e ≡ end_of sep s at) where
  here : EndsAt sep s at e
  here = rw q (ends_at sep s at p.within)

  -- where the next piece ends
  pub next-from : at ≤ e
  next-from = here.from

  pub next-to : e ≤ length s
  next-to = here.to

  pub next-piece : piece_of sep s k ≡ between s at e
  next-piece = ap (piece_of sep s) (sym (add-zero k)) ∙ p.pieces 0 ∙ ap (λ (fs : List (List ℕ)). get_or fs 0 []) here.splits

  -- behind it there is another
  pub passed-more : e < length s → Passed sep s (k + 1) (e + 1)
  passed-more h =
      let l : length (split sep (drop at s)) ≡ suc (length (split sep (drop (e + 1) s))) = ap length (ends_more here h) in
      record {
        within = omega arith;
        count = omega (arith, p.count);
        pieces = λ j. let n : k + 1 + j ≡ k + suc j = omega arith in ap (piece_of sep s) n ∙ p.pieces (suc j) ∙ ap (λ (fs : List (List ℕ)). get_or fs (suc j) []) (ends_more here h);
      }

  pub count-more : e < length s → k + 2 ≤ length (split sep s)
  count-more h = omega (arith, p.count, ap length (ends_more here h), split-some sep (drop (e + 1) s))

  -- or none
  pub count-last : length s ≤ e → length (split sep s) ≡ k + 1
  count-last h = omega (arith, p.count, ap length (ends_last here h))
