-- `commands::given::name_at` meets its contract: behind what is left stands no slash. Assumes nothing.
use Rattle.std.proofs.Common.{◌≡◌, ◌+◌, ◌-◌, sym, ◌∙◌, arith}
use Rattle.commands.proofs.Slashes.{slash-here, slash-on, slash-none}
use Rattle.commands.proofs.given.name_at.Goals as goal

pub returns-then-path-n-eq47-clause-value : goal.returns-then-path-n-eq47-clause-value
returns-then-path-n-eq47-clause-value c =
    let here : c.loop-n.n - 1 + 1 ≡ c.loop-n.n = omega arith in
    here ∙ slash-here c.args.path.now c.loop-n.n (omega arith) c.if-path-n-eq47.true ∙ c.loop-n.invariant

pub loop-n-preserved : goal.loop-n-preserved
loop-n-preserved c = sym (slash-on c.args.path.now c.loop-n.n (omega arith) c.if-path-n-eq47.false) ∙ c.loop-n.invariant

pub returns-clause-value : goal.returns-clause-value
returns-clause-value c =
    let none : 0 ≡ c.loop-n.n = omega arith in
    none ∙ slash-none c.args.path.now c.loop-n.n (omega arith) ∙ c.loop-n.invariant
