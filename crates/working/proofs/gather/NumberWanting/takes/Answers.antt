-- The test of records for a number meets its contract: what the first field tells is so (`told-apart`). Assumes nothing.
use mathlib.Core.Path.{sym, ap, ◌∙◌}
use Prim.Native.Nat.{ℕ}
use mathlib.Core.Bool.{not}
use Rattle.working.specs.Working.{apart}
use Rattle.working.proofs.GatherLaws.{told-apart}
use Rattle.working.proofs.gather.NumberWanting.takes.Goals as goal

pub returns-else-not-is_apart : goal.returns-else-not-is_apart
returns-else-not-is_apart c =
    let a = c.args in
    let held = ap (λ (v : ℕ). apart v a.self.now) (sym c.first_in.ensures) ∙ sym c.is_apart.ensures ∙ c.if-not-is_apart.false in
    ap not c.if-not-is_apart.false ∙ sym (told-apart a.kind a.bytes.now a.self.now held)
