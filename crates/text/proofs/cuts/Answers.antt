-- `text::cuts` meets its contract. Assumes nothing.
use Rattle.std.proofs.Common.{rules, ◌≡◌, sym, ◌∙◌, count_by, eqb}
use Rattle.std.proofs.iter.runs.Made.{chains}
use Rattle.laws.proofs.Chains.{cuts_as_std}
use Rattle.text.proofs.cuts.Goals as goal

pub returns : goal.returns
returns c =
    let a = c.args in
    let e : c.count.result ≡ count_by (λ b. eqb b a.sep) a.s.now = search (rules, chains) in
    e ∙ sym (cuts_as_std a.sep a.s.now)
