-- What the search for a number's line comes to. Assumes nothing.
use Rattle.std.specs.Prelude.{Some, None}
use mathlib.Core.Path.{◌≡◌, refl, sym, ap, ◌∙◌}
use mathlib.Core.List.{List, [], ◌∷◌, map}
use Prim.Native.Nat.{ℕ, ◌+◌, ◌*◌, ◌≤◌, ◌<◌}
use borrow.Author.Tests.{le-leb, lt-leb}
use lib.ListN.{length}
use Rattle.laws.specs.Lists.{table, first_at}
use Rattle.laws.proofs.Tables.{map-table}
use Rattle.laws.proofs.Tests.{eqb_comm}
use Rattle.fields.specs.Number.{same_number}
use Rattle.fields.specs.declared.number.Number.{Number}
use Rattle.store.specs.numbers.Lines.{line_at, number_at, line_count, lines_of}
use Rattle.store.specs.numbers.Find.{is_of, found_line}
use Rattle.store.specs.declared.numbers.lines.Line.{Line}
use mathlib.Core.Bool.{Bool, true, false, cond, ◌&&◌}
use Rattle.std.specs.Bool.{then_some}
use lib.Dec.{ltb}

-- ---- the first line that has the number is the first number that is the same
same-comm : (x y : Number) → same_number x y ≡ same_number y x
unfolding same_number
same-comm x y = λ i. eqb_comm x.first.0 y.first.0 i && eqb_comm x.last.0 y.last.0 i

first-line : (x : Number) (ls : List Line) → first_at (same_number x) (map (λ (l : Line). l.number) ls) ≡ first_at (is_of x) ls
unfolding is_of
first-line x [] = refl
first-line x (l ∷ ls) = rw (same-comm x l.number, first-line x ls)

line_first : (x : Number) (t : List ℕ) (n : ℕ) → first_at (same_number x) (table n (number_at t)) ≡ first_at (is_of x) (table n (line_at t))
unfolding number_at
line_first x t n = ap (first_at (same_number x)) (sym (map-table (λ (l : Line). l.number) n (line_at t))) ∙ first-line x (table n (line_at t))

-- ---- what is found
module _ (t : List ℕ) (x : Number) where
  pub found-short : length t < 2 + line_count t * 14 → None ≡ found_line t x
  unfolding found_line
  found-short h = rw (lt-leb (2 + line_count t * 14) (length t) h)

  module _ (n i : ℕ) (e : n ≡ line_count t) (h : 2 + n * 14 ≤ length t) (f : i ≡ first_at (same_number x) (table n (number_at t))) where
    q : i ≡ first_at (is_of x) (table n (line_at t))
    q = f ∙ line_first x t n

    pub found_among : then_some (ltb i n) i ≡ found_line t x
    unfolding found_line lines_of
    found_among = go (ltb i n) ∙ rw (← e, le-leb (2 + n * 14) (length t) h, ← q)
      where
        go : (b : Bool) → then_some b i ≡ cond b (Some i) None
        go true = refl
        go false = refl
