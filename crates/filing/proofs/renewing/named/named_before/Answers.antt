-- `filing::renewing::named::named_before` meets its contract: the records with the number's first field are enough (`named-group`). Assumes nothing.
use mathlib.Core.Path.{ap, ◌∙◌}
use Prim.Native.Nat.{ℕ, ◌%◌, ◌≤◌}
use native.Mathlib.Omega.{arith}
use borrow.Author.Rules.{rules}
use borrow.Author.Tests.{tests}
use Rattle.std.specs.List.{list_any}
use Rattle.std.proofs.lemmas.Iterator.{YieldsList-from_slice}
use Rattle.std.proofs.lemmas.Iterator.Search.{any_from_yields_List}
use Rattle.store.specs.journals.Reads.{records_at}
use Rattle.filing.specs.renewing.Turns.{filed_from, earlier}
use Rattle.filing.proofs.renewing.Repeats.{named-group}
use Rattle.filing.proofs.renewing.Some.{any_as_std}
use Rattle.filing.proofs.renewing.Stages.{all_read}
use Rattle.filing.proofs.renewing.named.named_before.Goals as goal

pub returns : goal.returns
returns c =
    let file = c.args.file.now in
    let r = records_at file.records.journals.regular.now file.records.journals.corrections.now in
    let f = filed_from r file.records.file file.records.start in
    let all : c.args.j ≤ file.tags.count = omega (arith, c.requires, file.tagged.counted, all_read r file.records.file file.records.start) in
    any_from_yields_List (λ (g : ℕ). earlier f c.args.j c.args.number (g % 16384)) _ _ c.any.result c.any.ensures.ran (YieldsList-from_slice c.group.result.now cc) (λ x b q k. search (rules, tests))
    ∙ ap (list_any (λ (g : ℕ). earlier f c.args.j c.args.number (g % 16384))) c.group.ensures
    ∙ any_as_std (λ (g : ℕ). earlier f c.args.j c.args.number (g % 16384)) _
    ∙ named-group f file.tags.words.now file.tags.count file.tagged c.args.j all c.args.number
