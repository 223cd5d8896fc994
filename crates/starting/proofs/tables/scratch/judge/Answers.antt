-- `starting::tables::scratch::judge` meets its contract. Assumes nothing.
use native.Mathlib.Omega.{arith}
use mathlib.Core.Path.{sym, ◌∙◌}
use Rattle.starting.proofs.tables.Spreading.{judged-some, judged-none}
use Rattle.starting.proofs.tables.scratch.judge.Goals as goal
use Rattle.std.proofs.Common.{◌≡◌, Bool, true, false, refl}
use Rattle.std.specs.Bool.{then_some}
use Rattle.starting.specs.tables.Given.{Judged}

pub no_number_twice-requires : goal.no_number_twice-requires
no_number_twice-requires c = let s = rw c.in_ok-n.was at c.lay_out.ensures in
    let few = s.2.few in
    (omega (arith, c.lay_out.auto.room, c.requires), few)

pub returns : goal.returns
returns c =
    let a = c.args in
    let s = rw c.in_ok-n.was at c.lay_out.ensures in
    let once = c.no_number_twice in
    rw c.then_some.ensures
    (elim once.result as (λ (t : Bool). once.result ≡ t → Judged a.text.now a.room.now (then_some t c.in_ok-n.n) c.lay_out.new.room) [
      | true ↦ λ e. (s.0, judged-some s.0 a.room.now c.in_ok-n.n c.lay_out.new.room s.2 c.requires a.text.now s.1 (sym once.ensures ∙ e), s.2)
      | false ↦ λ e. judged-none s.0 a.room.now c.in_ok-n.n c.lay_out.new.room s.2 c.requires a.text.now s.1 (sym once.ensures ∙ e)
    ] refl)
