-- The line of a number, where no number stands in two lines. Assumes nothing.
use mathlib.Core.Path.{◌≡◌, sym, ap, ◌∙◌}
use mathlib.Core.Logic.{⊎_elim}
use mathlib.Core.Bool.{true, false}
use mathlib.Core.List.{List}
use Prim.Native.Nat.{ℕ, ◌+◌, ◌*◌, ◌%◌, ◌≤◌, ◌<◌}
use native.Mathlib.Omega.{arith}
use native.Mathlib.Nat.{add-zero}
use borrow.Author.Tests.{lt-ltb, le-ltb, ne_eqb}
use lib.Dec.{lit≤}
use lib.ListN.{length, get_or}
use Rattle.laws.specs.Lists.{table, first_at, none_twice}
use Rattle.laws.specs.Slots.{slot_at}
use Rattle.laws.specs.Words.{word_at}
use Rattle.laws.proofs.Firsts.{any-first, first_passes, first-before, none-at}
use Rattle.laws.proofs.Loops.{Searched, search-on, search-here, search-none}
use Rattle.laws.proofs.Tables.{length-table, get_or-table}
use Rattle.laws.proofs.Tests.{le-or-lt}
use Rattle.laws.proofs.Twice.{once-apart}
use Rattle.laws.proofs.Words.{word-part, word_more}
use Rattle.fields.specs.Number.{same_number}
use Rattle.fields.specs.declared.number.Number.{Number}
use Rattle.fields.proofs.NumberLaws.{same_number_lem}
use Rattle.store.specs.numbers.Lines.{line_of, line_at, number_at}

-- ---- one line
-- the lowest byte of its first field
low_byte : (lines : List ℕ) (i : ℕ) → 2 + i * 14 + 14 ≤ length lines → (number_at lines i).first.0 ≡ get_or lines (2 + i * 14) 0 + 256 * word_at 4 lines (2 + i * 14 + 1)
unfolding number_at line_at line_of slot_at
low_byte lines i h =
    word-part 5 lines (2 + i * 14) 14 0 (lit≤ tt)
    ∙ ap (word_at 5 lines) (add-zero (2 + i * 14))
    ∙ word_more 4 lines (2 + i * 14) (omega arith)

-- where that is another one, the line has another number
pub told_apart : (lines : List ℕ) (i low : ℕ) (number : Number) → 2 + i * 14 + 14 ≤ length lines → get_or lines (2 + i * 14) 0 < 256 → low ≡ number.first.0 % 256 → (get_or lines (2 + i * 14) 0 ≡ low → ⊥) → same_number number (number_at lines i) ≡ false
unfolding same_number
told_apart lines i low number h b e ne =
    rw (ne_eqb number.first.0 (number_at lines i).first.0 (λ q. ne (omega (arith, low_byte lines i h))))

-- ---- the search
module _ (lines : List ℕ) (n : ℕ) (number : Number) (i : ℕ) (inv : Searched (same_number number) (table n (number_at lines)) i) where
  module _ (h : i < n) where
    inside : i < length (table n (number_at lines))
    inside = omega (arith, length-table n (number_at lines))

    here : get_or (table n (number_at lines)) i number ≡ number_at lines i
    here = get_or-table n i (number_at lines) number h

    pub find_on : same_number number (number_at lines i) ≡ false → Searched (same_number number) (table n (number_at lines)) (i + 1)
    find_on q = search-on (same_number number) number (table n (number_at lines)) i inv inside (ap (same_number number) here ∙ q)

    pub find_here : same_number number (number_at lines i) ≡ true → i ≡ first_at (same_number number) (table n (number_at lines))
    find_here q = search-here (same_number number) number (table n (number_at lines)) i inv inside (ap (same_number number) here ∙ q)

  pub find_none : n ≤ i → i ≡ first_at (same_number number) (table n (number_at lines))
  find_none h = search-none (same_number number) number (table n (number_at lines)) i inv (omega (arith, length-table n (number_at lines)))

-- ---- what it finds
module _ (lines : List ℕ) (n : ℕ) (number : Number) where
  abbrev found : ℕ
  found = first_at (same_number number) (table n (number_at lines))

  at : (k : ℕ) → k < n → same_number number (get_or (table n (number_at lines)) k number) ≡ same_number number (number_at lines k)
  at k h = ap (same_number number) (get_or-table n k (number_at lines) number h)

  -- no line has the number
  pub found_none : n ≤ first_at (same_number number) (table n (number_at lines)) → (k : ℕ) → k < n → same_number number (number_at lines k) ≡ false
  found_none none k h =
      sym (at k h)
      ∙ none-at (same_number number) (table n (number_at lines)) k number (omega (arith, length-table n (number_at lines)))
      (any-first (same_number number) (table n (number_at lines)) ∙ le-ltb found (length (table n (number_at lines))) (omega (arith, length-table n (number_at lines))))

  module _ (h : first_at (same_number number) (table n (number_at lines)) < n) where
    -- the line found has it
    pub found_here : number ≡ number_at lines (first_at (same_number number) (table n (number_at lines)))
    found_here =
        same_number_lem number (number_at lines found)
        (sym (at found h)
        ∙ first_passes (same_number number) (table n (number_at lines)) number
        (any-first (same_number number) (table n (number_at lines)) ∙ lt-ltb found (length (table n (number_at lines))) (omega (arith, length-table n (number_at lines)))))

    -- and no other
    pub found-other : none_twice same_number (table n (number_at lines)) ≡ true → (k : ℕ) → k < n → (k ≡ first_at (same_number number) (table n (number_at lines)) → ⊥) → same_number number (number_at lines k) ≡ false
    found-other once k b ne =
        ⊎_elim
        (λ (le : found ≤ k). ap (λ (m : Number). same_number m (number_at lines k)) (found_here ∙ sym (get_or-table n found (number_at lines) number h))
        ∙ ap (same_number (get_or (table n (number_at lines)) found number)) (sym (get_or-table n k (number_at lines) number b))
        ∙ once-apart same_number (table n (number_at lines)) found k number once (omega arith) (omega (arith, length-table n (number_at lines))))
        (λ (lt : k < found). sym (at k b) ∙ first-before (same_number number) (table n (number_at lines)) k number lt)
        (le-or-lt found k)
