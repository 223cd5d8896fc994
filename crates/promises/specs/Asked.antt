-- What a store in use answers when it is asked why, and for a record: paper 01, "Verdicts on reports", the last paragraph. Assumes nothing: these are
-- definitions. `Latest` (the last record of a history that got 11) and `Root` (a report of an entry is a record of the history) are asking's.
use Rattle.std.specs.Prelude.{Option, Some, None, Result, Ok}
use Rattle.std.specs.Prelude.{◌≡◌, true, List, ℕ}
use Rattle.fields.specs.declared.number.Number.{Number}
use Rattle.entries.specs.declared.entry.Place.{Place}
use Rattle.entries.specs.declared.entry.Entry.{Entry}
use Rattle.entries.specs.Entry.{first_entry}
use Rattle.verdict.specs.declared.step.Why.{Why}
use Rattle.verdict.specs.Sound.{Pairing}
use Rattle.verdict.specs.Step.{stand_on, first_standing}
use Rattle.model.specs.Rules.{TableLine, Event}
use Rattle.model.specs.Model.{history, number_of, line_of, judged}
use Rattle.rules.specs.Rules.{rules, record_of, line_by}
use Rattle.store.specs.declared.journals.records.Journal.{Journal}
use Rattle.store.specs.Reads.{Buffers, held, reads}
use Rattle.asking.specs.declared.answer.NotShown.{NotShown}
use Rattle.asking.specs.declared.pairs.Pair.{Pair}
use Rattle.asking.specs.Why.{stored_as, first_place, second_place, part_at}
use Rattle.asking.specs.Record.{part_shown}
use Rattle.asking.specs.answering.Confirmed.{processed_before, none_confirms}
use Rattle.asking.specs.answering.Whole.{entry_asked, why_asked, record_asked}
use Rattle.asking.proofs.answering.Latest.{standing, Latest}
use Rattle.asking.proofs.answering.Roots.{Root}
use Rattle.promises.specs.Numbers.{record_number, record_publisher, record_day, record_place, record_verdict}

-- the records that name a line's number, in processing order
abbrev pub records_on : Buffers → TableLine Number → List Event
records_on b line = history rules (held b).files line.number

-- none of them got 11
abbrev pub NoneConfirmed : Buffers → TableLine Number → Type 0
NoneConfirmed b line = none_confirms (line_by line) (first_entry (line_by line)) (records_on b line) ≡ true

-- what is asked
abbrev pub why_of : Buffers → Number → Result (Option Pair) NotShown
why_of b x = why_asked (reads b) (Some x)

abbrev pub entry_shown : Buffers → Number → Entry → Type 0
entry_shown b x entry = entry_asked (reads b) (Some x) ≡ Ok entry

-- ---- why: none
pub record SaysNone (b : Buffers) (x : Number) (line : TableLine Number) : Type 0 where
  pub shown : why_of b x ≡ Ok None
  pub none-confirmed : NoneConfirmed b line
  -- the number is its owner's still
  pub entry : Entry
  pub stored : entry_shown b x entry
  pub holder : entry.holder ≡ (line_by line).owner
  pub last : entry.last ≡ None

-- ---- why: the pair
pub record ShowsPair (b : Buffers) (x : Number) (line : TableLine Number) : Type 0 where
  pub first : Place
  pub second : Place
  pub shown : why_of b x ≡ Ok (Some (record { first = stored_as (held b).files first; second = stored_as (held b).files second }))
  -- it is the pair of the last record of the history that was confirmed, and the two match
  pub last-confirmed : Latest (line_by line) (first_standing (line_by line)) (records_on b line)
  pub its-pair : (stand_on (line_by line) (standing (line_by line) (first_standing (line_by line)) last-confirmed.earlier) (record_of last-confirmed.event)).why ≡ Why.Pair first second
  pub matching : Pairing first second
  -- each is a record of the history, and the one processed first comes first
  pub first-record : Root (line_by line).owner (records_on b line) first
  pub second-record : Root (line_by line).owner (records_on b line) second
  pub in_order : processed_before first-record.event second-record.event ≡ true
  -- the parts that are shown are these records' bytes as the regular journal holds them, with their publisher and their publication day
  pub first_part : part_at b.regular (first_place (why_of b x)) ≡ first-record.event.bytes
  pub second-part : part_at b.regular (second_place (why_of b x)) ≡ second-record.event.bytes
  pub first-publisher : (stored_as (held b).files first).publisher.0 ≡ first-record.event.publisher
  pub second-publisher : (stored_as (held b).files second).publisher.0 ≡ second-record.event.publisher
  pub first-day : (stored_as (held b).files first).day.0 ≡ first-record.event.day
  pub second-day : (stored_as (held b).files second).day.0 ≡ second-record.event.day
  -- the holder is their gaining network, and the last confirmed date theirs
  pub entry : Entry
  pub stored : entry_shown b x entry
  pub holder : entry.holder ≡ second.report.gaining
  pub last : entry.last ≡ Some second.report.date

-- ---- a record by journal and place: 0 with publisher, publication day, place in its file and bytes; and its verdict at its own point of the history
-- of its number, on the entry that the records processed before it lead to (12 where the number has no line)
pub record ShowsRecord (b : Buffers) (which : Journal) (place : ℕ) (e : Event) : Type 0 where
  pub answers : record_number (record_asked (reads b) which place) ≡ 0
  pub publisher : record_publisher (record_asked (reads b) which place) ≡ e.publisher
  pub day : record_day (record_asked (reads b) which place) ≡ e.day
  pub in-file : record_place (record_asked (reads b) which place) ≡ e.place
  pub bytes : part_shown b.regular b.corrections (record_asked (reads b) which place) ≡ e.bytes
  pub verdict : record_verdict (record_asked (reads b) which place) ≡ judged rules (held b).files e (line_of rules (held b).lines (number_of rules e))
