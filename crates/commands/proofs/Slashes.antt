-- The last slash of a path, looked for from its end. Assumes nothing.
use mathlib.Core.Path.{◌≡◌, refl, sym, ap, ◌∙◌}
use mathlib.Core.List.{List}
use Prim.Native.Nat.{ℕ, zero, suc, ◌-◌, ◌≤◌, ◌<◌}
use native.Mathlib.Omega.{arith}
use borrow.Author.Tests.{eq-eqb, ne_eqb}
use lib.ListN.{get_or}
use Rattle.commands.specs.Given.{behind_slash}

pub slash-here : (path : List ℕ) (n : ℕ) → 0 < n → get_or path (n - 1) 0 ≡ 47 → n ≡ behind_slash n path
unfolding behind_slash
slash-here path zero h e = absurd (omega arith)
slash-here path (suc m) h e =
    let k : suc m - 1 ≡ m = omega arith in
    simp (eq-eqb _ _ (rw k at e))

pub slash-on : (path : List ℕ) (n : ℕ) → 0 < n → (get_or path (n - 1) 0 ≡ 47 → ⊥) → behind_slash n path ≡ behind_slash (n - 1) path
unfolding behind_slash
slash-on path zero h e = absurd (omega arith)
slash-on path (suc m) h e =
    let k : suc m - 1 ≡ m = omega arith in
    let f : get_or path m 0 ≡ 47 → ⊥ = λ g. e (ap (λ (j : ℕ). get_or path j 0) k ∙ g) in
    simp (ne_eqb _ _ f) (ap (λ (j : ℕ). behind_slash j path) (sym k))

pub slash-none : (path : List ℕ) (n : ℕ) → n ≤ 0 → n ≡ behind_slash n path
unfolding behind_slash
slash-none path zero h = refl
slash-none path (suc m) h = absurd (omega arith)
