-- `working::indexing::find::gather_indexed` meets its contract: a group holds all of a number's records (`gathered`). Assumes nothing.
use mathlib.Core.Path.{sym, ◌∙◌}
use lib.ListN.{take}
use Rattle.working.proofs.indexing.Finding.{gathered}
use Rattle.working.proofs.indexing.find.gather_indexed.Goals as goal

pub returns-then-have : goal.returns-then-have
returns-then-have c =
    let i = c.args.index.now in
    let f = i.filed in
    gathered f.n f.files.now f.journals.regular.now f.journals.corrections.now (take i.wanted.count i.wanted.words.now) i.keys.now i.places.words.now i.places.count f.sound i.indexed c.args.number
    c.if-number-ne1.true (sym c.have.ensures ∙ c.if-have.true) c.args.out.now _ c.gather_group.result c.gather_group.ensures
