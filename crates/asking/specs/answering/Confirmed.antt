-- Which records of a number's history are confirmed, and which of two is processed first. Assumes nothing: these are definitions.
use Rattle.std.specs.Prelude.{Some}
use Rattle.std.specs.Prelude.{Bool, true, not, ◌&&◌, List, [], ◌∷◌}
use Rattle.entries.specs.declared.entry.Entry.{Entry}
use Rattle.entries.specs.declared.entry.Line.{Line}
use Rattle.verdict.specs.verdicts.Does.{is_confirmed}
use Rattle.verdict.specs.Step.{verdict_on, entry_after}
use Rattle.model.specs.Rules.{Event}
use Rattle.model.specs.Model.{not_later}
use Rattle.rules.specs.Rules.{rules, record_of}

-- d is processed before e: the test by which `before` leaves out the others
abbrev pub processed_before : Event → Event → Bool
processed_before d e = not (not_later rules e d)

-- a record is confirmed on an entry: it gets 11
abbrev pub confirms : Line → Entry → Event → Bool
confirms line entry e = is_confirmed (verdict_on (Some line) entry (record_of e))

-- none of these records does, processed one after the other from an entry on
unfoldable pub none_confirms : Line → Entry → List Event → Bool
none_confirms line entry [] = true
none_confirms line entry (e ∷ es) = not (confirms line entry e) && none_confirms line (entry_after line entry (record_of e)) es
