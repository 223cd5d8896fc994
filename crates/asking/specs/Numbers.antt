-- What each answer tells: its number in paper 01, and the values that go with it. Assumes nothing: these are definitions.
use Rattle.std.specs.Prelude.{Option, Some, None, Result, Ok, Err}
use Rattle.std.specs.Prelude.{List, [], ◌∷◌, ℕ}
use Rattle.laws.specs.Told.{Told, told}
use Rattle.entries.specs.declared.entry.Entry.{Entry}
use Rattle.verdict.specs.verdicts.Numbers.{number_of}
use Rattle.store.specs.entry_slots.Entries.{entry_slot}
use Rattle.asking.specs.declared.answer.NotShown.{NotShown}
use Rattle.asking.specs.declared.answer.NoRecord.{NoRecord}
use Rattle.asking.specs.declared.pairs.Pair.{Pair}
use Rattle.asking.specs.declared.record.AskedRecord.{AskedRecord}
use Rattle.asking.specs.declared.record.ShownRecord.{ShownRecord}

-- nothing is shown of a number
abbrev pub not_shown_told : NotShown → Told
not_shown_told NotShown.UnknownNumber = told 12 []
not_shown_told NotShown.Unreadable = told 44 []

-- an entry, as the bytes of its slot: what is shown goes with 0
abbrev pub entry_told : Result Entry NotShown → Told
entry_told (Ok e) = told 0 (entry_slot e)
entry_told (Err a) = not_shown_told a

-- why: 0 shows the pair, by its places in the regular journal, or says that there is none
abbrev pub why_told : Result (Option Pair) NotShown → Told
why_told (Ok (Some p)) = told 0 (p.first.place ∷ p.second.place ∷ [])
why_told (Ok None) = told 0 []
why_told (Err a) = not_shown_told a

-- a record by journal and place: its publisher, its publication day, its place in its file, and the number of its verdict
abbrev pub record_values : AskedRecord → List ℕ
record_values a = a.publisher.0 ∷ a.day.0 ∷ a.place ∷ number_of a.verdict ∷ []

abbrev pub asked_told : Result ShownRecord NoRecord → Told
asked_told (Ok s) = told 0 (record_values s.shown)
asked_told (Err NoRecord.Beyond) = told 7 []
asked_told (Err NoRecord.Unreadable) = told 44 []
