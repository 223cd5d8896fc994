-- What holds at every point of a number's history. Assumes nothing: these are definitions.
use Rattle.calendar.specs.declared.dates.CalendarDays.{CalendarDays}
use Rattle.std.specs.Prelude.{Option, Some, None}
use Rattle.std.specs.Prelude.{◌≡◌, Bool, true, false, ◌≤◌, length}
use Rattle.fields.specs.declared.code.Code.{Code}
use Rattle.fields.specs.declared.kind.Kind.{Kind}
use Rattle.verdict.specs.declared.verdicts.Verdict.{Verdict}
use Rattle.entries.specs.declared.entry.Place.{Place}
use Rattle.entries.specs.declared.entry.Entry.{Entry}
use Rattle.entries.specs.declared.entry.Line.{Line}
use Rattle.verdict.specs.declared.step.Why.{Why}
use Rattle.verdict.specs.declared.step.Why.TheVariants.{Nothing, Pair}
use Rattle.verdict.specs.declared.step.Standing.{Standing}
use Rattle.verdict.specs.declared.verdicts.Doing.{Doing}
use Rattle.verdict.specs.verdicts.Does.{does_by}
use Rattle.entries.specs.Report.{by_kind, matches}
use Rattle.entries.specs.Entry.{place_count}
use Rattle.entries.specs.places.Places.{no_two_equal}

-- the record is discarded: its verdict changes nothing
abbrev pub Discarded : Verdict → Type 0
Discarded v = does_by v ≡ Doing.Nothing

-- the first date is not after the second; no date is before all
abbrev pub NotAfter : Option CalendarDays → Option CalendarDays → Type 0
NotAfter None l = Unit {0}
NotAfter (Some d) None = ⊥
NotAfter (Some d) (Some l) = d.0 ≤ l.0

-- the holder and the last confirmed date that a pair leads to: its gaining network and its date; without one, the owner and none
abbrev pub holder_by : Code → Why → Code
holder_by owner Nothing = owner
holder_by owner (Pair a b) = b.report.gaining

abbrev pub last_by : Why → Option CalendarDays
last_by Nothing = None
last_by (Pair a b) = Some b.report.date

-- one P and one L or Z: L and P in either order, or a Z and then its P
abbrev pub pairs : Kind → Kind → Bool
pairs first second = by_kind first (by_kind second false true false) (by_kind second true false false) (by_kind second true false false)

pub record Pairing (a b : Place) : Type 0 where
  pub kinds : pairs a.report.kind b.report.kind ≡ true
  pub matching : matches a.report b.report ≡ true

abbrev pub Paired : Why → Type 0
Paired Nothing = Unit {0}
Paired (Pair a b) = Pairing a b

-- an entry has its eight places, and no two open reports are equal
pub record Tidy (e : Entry) : Type 0 where
  pub eight : length e.places ≡ place_count
  pub apart : no_two_equal e.places ≡ true

-- the pair is one, and it is why the holder is who it is and the last confirmed date what it is
pub record Explained (line : Line) (s : Standing) : Type 0 where
  pub holder : s.entry.holder ≡ holder_by line.owner s.why
  pub last : s.entry.last ≡ last_by s.why
  pub pair : Paired s.why
