-- When a slot of a journal holds a record in its layout. Assumes nothing: these are definitions.
use Rattle.std.specs.Prelude.{is_some}
use Rattle.std.specs.Prelude.{Bool, ◌&&◌, List, ℕ}
use Rattle.laws.specs.Slots.{held_in, is_held}
use Rattle.layout.specs.Correction.{correction_of}
use Rattle.layout.specs.Report.{report_of}

-- a slot of 1 + 44 bytes that holds a report, with zeros behind it
unfoldable pub good_report : List ℕ → Bool
good_report s = is_held 45 s && is_some (report_of (held_in s))

-- a slot of 1 + 97 bytes that holds a correction, with zeros behind it
unfoldable pub good_correction : List ℕ → Bool
good_correction s = is_held 98 s && is_some (correction_of (held_in s))
