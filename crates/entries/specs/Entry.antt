-- A number's line of the number table, and its entry (paper 01, "Table, journals, entries"). Assumes nothing: these are definitions.
use Rattle.std.specs.Prelude.{Option, Some, None}
use Rattle.std.specs.Prelude.{Bool, true, false, ℕ, replicate}
use Rattle.fields.specs.declared.kind.Kind.TheVariants.{P}
use Rattle.entries.specs.declared.entry.Place.{Place}
use Rattle.entries.specs.declared.entry.Entry.{Entry}
use Rattle.entries.specs.declared.entry.Line.{Line}

-- how many places an entry has for open reports
abbrev pub place_count : ℕ
place_count = 8

abbrev pub free_place : Place
free_place = record { taken = false; report = record { kind = P; date = record { 0 = 0 }; losing = record { 0 = 0 }; gaining = record { 0 = 0 } }; day = record { 0 = 0 }; at = 0 }

-- the first entry of a line: holder the owner, no confirmed date, all places free
abbrev pub first_entry : Line → Entry
first_entry line = record { holder = line.owner; last = None; places = replicate place_count free_place }

-- the number is not in the table
abbrev pub is_missing : Option Line → Bool
is_missing (Some line) = false
is_missing None = true

-- the number's line; where it has none, one that no rule comes to ask for
abbrev pub line_in : Option Line → Line
line_in (Some line) = line
line_in None = record { owner = record { 0 = 0 }; setup = record { 0 = 0 } }
