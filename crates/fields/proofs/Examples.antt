-- The examples of 4.4.2 come out as it says. Assumes nothing.
use mathlib.Core.Path.{refl}
use Rattle.laws.specs.Lists.{any, all, table, same_lists}
use Rattle.laws.specs.Digits.{digits}
use Rattle.fields.specs.Block.{is, nearly, decade_by, some_decade, block}
use Rattle.fields.specs.Examples.{Agreed}

pub agreed : Agreed
unfolding digits block some_decade any all table same_lists decade_by nearly is
agreed = refl
