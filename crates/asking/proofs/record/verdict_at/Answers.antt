-- `asking::record::verdict_at` meets its contract. Assumes nothing.
use Rattle.asking.proofs.record.verdict_at.Goals as goal

pub returns : goal.returns
returns c = rw (← c.line_at-l.ensures, ← c.entry_before-e.ensures) c.verdict.ensures
