-- `text::put_byte` meets its contract: one store is one byte laid. Assumes nothing.
use mathlib.Core.Path.{refl}
use Rattle.laws.specs.Overlay.{overlay}
use borrow.Author.Rules.{rules}
use Rattle.text.proofs.put_byte.Goals as goal

pub returns : goal.returns
unfolding overlay
returns c = record { bytes = refl; ends = search rules }
