-- `filing::entering::enter::add_file` meets its contract. Assumes nothing.
use mathlib.Core.Path.{◌∙◌}
use Rattle.filing.proofs.entering.Joining.{files-added}
use Rattle.filing.proofs.entering.enter.add_file.Goals as goal

pub returns : goal.returns
returns c =
    c.put_file.ensures ∙ files-added c.args.files.now _ c.args.n c.args.f c.requires.0 c.put_count.ensures
