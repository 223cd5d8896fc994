-- The verdict on a correction (paper 01, "Verdicts on reports"), rule by rule. Assumes nothing: these are definitions.
use Rattle.entries.specs.declared.entry.Line.{Line}
use Rattle.std.specs.Prelude.{Option}
use Rattle.std.specs.Prelude.{Bool, not, List, [], ◌∷◌, ◌++◌, ℕ, eqb}
use Rattle.laws.specs.Lists.{any, first_line}
use Rattle.fields.specs.declared.code.Code.{Code}
use Rattle.fields.specs.declared.kind.Kind.{Kind}
use Rattle.verdict.specs.declared.verdicts.Verdict.{Verdict}
use Rattle.verdict.specs.declared.verdicts.Verdict.TheVariants.{Lapses, NotPermitted, OwnReport, NotOpen, OtherCode}
use Rattle.entries.specs.declared.report.Published.{Published}
use Rattle.entries.specs.declared.entry.Place.{Place}
use Rattle.entries.specs.declared.entry.Entry.{Entry}
use Rattle.verdict.specs.declared.correction_rules.Objection.{Objection}
use Rattle.entries.specs.Report.{by_kind, same_code, meant_by, publisher_of}
use Rattle.entries.specs.Entry.{line_in}
use Rattle.entries.specs.places.Places.{is_open}
use Rattle.verdict.specs.report_rules.Reports.{unknown_line}

unfoldable pub is_among : ℕ → List ℕ → Bool
is_among code codes = any (eqb code) codes

-- permitted against P and L: 2500 to 2508, 2510, 2547, 2599; against Z: 2500, 2502, 2599
abbrev pub against_pl : List ℕ
against_pl = 2500 ∷ 2501 ∷ 2502 ∷ 2503 ∷ 2504 ∷ 2505 ∷ 2506 ∷ 2507 ∷ 2508 ∷ 2510 ∷ 2547 ∷ 2599 ∷ []

abbrev pub against_z : List ℕ
against_z = 2500 ∷ 2502 ∷ 2599 ∷ []

abbrev pub is_permitted : Kind → ℕ → Bool
is_permitted k code = is_among code (by_kind k against_pl against_pl against_z)

-- the objector published the named report
abbrev pub names_own : Code → Published → Code → Bool
names_own owner named by = same_code by (publisher_of (meant_by owner named))

-- the named report is open
abbrev pub names_open : Code → Published → List Place → Bool
names_open owner named ps = is_open named.kind (meant_by owner named) ps

-- The rules on an objection, code 25XX, in order. `by` is the objector.
abbrev pub objection_table : Option Line → Entry → Code → Objection → List (Bool × Verdict)
objection_table n e by o =
    unknown_line n  -- 12
    ++ ((not (is_permitted o.named.kind o.code), NotPermitted)  -- 31
    ∷ (names_own (line_in n).owner o.named by, OwnReport)  -- 32
    ∷ (not (names_open (line_in n).owner o.named e.places), NotOpen)  -- 33
    ∷ [])

-- the first that applies gives the verdict; where none does it is 30
abbrev pub objection_verdict : Option Line → Entry → Code → Objection → Verdict
objection_verdict n e by o = first_line (objection_table n e by o) Lapses

-- any other correction: 12, else 34
abbrev pub other_verdict : Option Line → Verdict
other_verdict n = first_line (unknown_line n) OtherCode
