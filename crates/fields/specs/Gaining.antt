-- What the field of the gaining network stands for. Assumes nothing: these are definitions.
use Rattle.fields.specs.declared.code.Code.{Code}
use Rattle.std.specs.Prelude.{Option, Some, None}
use Rattle.fields.specs.declared.gaining.Gaining.{Gaining}
use Rattle.fields.specs.declared.gaining.Gaining.TheVariants.{Owner}

-- an empty field stands for the owner
abbrev pub gaining_of : Option Code → Gaining
gaining_of (Some c) = Gaining.Code c
gaining_of None = Owner

abbrev pub gaining_field : Gaining → Option Code
gaining_field (Gaining.Code c) = Some c
gaining_field Owner = None
