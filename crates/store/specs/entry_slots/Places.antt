-- A place for an open report, in 12 bytes. Assumes nothing: these are definitions.
use Rattle.std.specs.Prelude.{Bool, true, cond, ◌&&◌, List, [], ◌∷◌, ◌++◌, ℕ, ◌+◌, eqb, leb, replicate}
use Rattle.laws.specs.Lists.{all}
use Rattle.laws.specs.Slots.{is_zero}
use Rattle.laws.specs.Words.{low_first, word_at}
use Rattle.calendar.specs.Dates.{in_calendar}
use Rattle.fields.specs.declared.kind.Kind.{Kind}
use Rattle.fields.specs.declared.kind.Kind.TheVariants.{P, L, Z}
use Rattle.entries.specs.declared.entry.Place.{Place}
use Rattle.entries.specs.Entry.{free_place}
use Rattle.entries.specs.Report.{kind_no}

-- a free place is zeros; an open report is 1 for P, 2 for L or 3 for Z, then date, losing and gaining network and publication day in two bytes each,
-- then the place in its file in three
unfoldable pub place_slot : Place → List ℕ
place_slot p =
    cond p.taken
    ((1 + kind_no p.report.kind)
    ∷ (low_first 2 p.report.date.0
    ++ (low_first 2 p.report.losing.0 ++ (low_first 2 p.report.gaining.0 ++ (low_first 2 p.day.0 ++ (low_first 3 p.at ++ []))))))
    (replicate 12 0)

-- the kind that a byte stands for
unfoldable pub kind_of : ℕ → Kind
kind_of k = cond (eqb k 1) P (cond (eqb k 2) L Z)

-- the open report that 12 bytes hold
unfoldable pub open_of : List ℕ → Place
open_of s = record {
  taken = true;
  report = record { kind = kind_of (word_at 1 s 0); date = record { 0 = word_at 2 s 1 }; losing = record { 0 = word_at 2 s 3 }; gaining = record { 0 = word_at 2 s 5 } };
  day = record { 0 = word_at 2 s 7 };
  at = word_at 3 s 9;
}

-- the place that 12 bytes hold
unfoldable pub place_of : List ℕ → Place
place_of s = cond (eqb (word_at 1 s 0) 0) free_place (open_of s)

-- an open report in range: its days in the calendar, its networks codes
unfoldable pub good_open : Place → Bool
good_open p = in_calendar p.report.date.0 && (leb p.report.losing.0 999 && (leb p.report.gaining.0 999 && in_calendar p.day.0))

-- 12 bytes that are a free place, all zeros, or an open report in range
unfoldable pub good_place : List ℕ → Bool
good_place s = cond (eqb (word_at 1 s 0) 0) (all is_zero s) (leb (word_at 1 s 0) 3 && good_open (open_of s))
