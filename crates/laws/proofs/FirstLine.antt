-- A table of rules gone through from the front (`first_line`), with the invariant `first_line (drop i lines) other ≡ first_line lines other`. Assumes nothing.
--     line-applies    the line at i applies: its answer is the table's
--     line-on         it does not: the invariant holds at i + 1
--     line-none       i is past the end: the answer is `other`
use mathlib.Core.Path.{◌≡◌, refl, sym, ◌∙◌}
use mathlib.Core.Bool.{Bool, true, false}
use mathlib.Core.List.{List}
use Prim.Native.Nat.{ℕ, ◌+◌, ◌≤◌, ◌<◌}
use native.Mathlib.Numerals.{add-one}
use lib.ListN.{length, get_or, drop, drop_of_length-le}
use lib.Seq.{drop-cons}
use Rattle.laws.specs.Lists.{first_line}

module _ {A : Type 0} (d : Bool × A) (lines : List (Bool × A)) (other : A) (i : ℕ) (inv : first_line (drop i lines) other ≡ first_line lines other) where
  pub line-applies : i < length lines → (get_or lines i d).0 ≡ true → (get_or lines i d).1 ≡ first_line lines other
  line-applies h e = sym (rw (drop-cons lines i d h, e) refl) ∙ inv

  pub line-on : i < length lines → (get_or lines i d).0 ≡ false → first_line (drop (i + 1) lines) other ≡ first_line lines other
  line-on h e = rw add-one (rw (drop-cons lines i d h, e) at inv)

  pub line-none : length lines ≤ i → other ≡ first_line lines other
  line-none h = rw (drop_of_length-le lines h) at inv
