-- `faults::field::are_characters` meets its contract. Assumes nothing.
use Rattle.std.proofs.Common.{◌∙◌, rules, tests}
use Rattle.std.proofs.lemmas.Iterator.{YieldsList-from_slice}
use Rattle.std.proofs.lemmas.Iterator.Search.{all_from_yields_List}
use Rattle.faults.specs.Field.{is_character}
use Rattle.faults.proofs.FieldExact.{list_all-all}
use Rattle.faults.proofs.field.are_characters.Goals as goal

pub returns : goal.returns
returns c =
    all_from_yields_List is_character _ _ _ c.all.ensures.ran (YieldsList-from_slice c.args.f.now cc) (λ x b q k. search (rules, tests)) ∙ list_all-all is_character c.args.f.now
