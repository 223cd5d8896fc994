-- `verdict::correction_rules::permitted` meets its contract: each arm rewrites with the kind that it knows; the constant is the definition's list by computation. Assumes nothing.
use mathlib.Core.Path.{◌≡◌, refl, ap₂, ◌∙◌}
use mathlib.Core.Bool.{◌||◌}
use mathlib.Core.List.{List, [], ◌∷◌}
use mathlib.Core.Logic.{⊎_elim}
use Rattle.fields.specs.declared.kind.Kind.TheVariants.{P, L}
use Prim.Native.Nat.{ℕ}
use lib.Dec.{eqb}
use Rattle.std.specs.List.{list_any}
use Rattle.laws.specs.Lists.{any}
use Rattle.laws.proofs.Tests.{eqb_comm}
use Rattle.verdict.specs.correction_rules.Corrections.{is_among, against_pl, against_z}
use Rattle.verdict.proofs.correction_rules.permitted.Goals as goal

among : (code : ℕ) (codes : List ℕ) → list_any (λ (y : ℕ). eqb y code) codes ≡ is_among code codes
unfolding is_among any
among code [] = refl
among code (y ∷ codes) = ap₂ ◌||◌ (eqb_comm y code) (among code codes)

pub returns-in-P : goal.returns-in-P
returns-in-P c =
    ⊎_elim
    (λ (e : c.args.k ≡ P). rw e (c.contains.ensures.value ∙ among c.args.code against_pl))
    (λ (e : c.args.k ≡ L). rw e (c.contains.ensures.value ∙ among c.args.code against_pl))
    c.in-P.is

pub returns-in-Z : goal.returns-in-Z
returns-in-Z c = rw c.in-Z.is (c.contains-in-Z.ensures.value ∙ among c.args.code against_z)
