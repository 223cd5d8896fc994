-- A record's values as the plain words that a writer takes; an empty field has a word of its own. Assumes nothing: these are definitions.
use Rattle.calendar.specs.declared.dates.CalendarDays.{CalendarDays}
use Rattle.fields.specs.declared.code.Code.{Code}
use Rattle.std.specs.Prelude.{Option, Some, None}
use Rattle.std.specs.Prelude.{ℕ, List, [], ◌∷◌, ◌++◌}
use Rattle.fields.specs.declared.kind.Kind.{Kind}
use Rattle.layout.specs.declared.part.Part.{Part}
use Rattle.layout.specs.declared.report.Report.{Report}
use Rattle.layout.specs.declared.correction.Correction.{Correction}
use Rattle.layout.specs.declared.request.Request.{Request}
use Rattle.layout.specs.Report.{report_part}

abbrev pub date_word : Option CalendarDays → ℕ
date_word (Some d) = d.0
date_word None = 65535

abbrev pub code_word : Option Code → ℕ
code_word (Some c) = c.0
code_word None = 1000

abbrev pub kind_word : Option Kind → ℕ
kind_word (Some Kind.P) = 0
kind_word (Some Kind.L) = 1
kind_word (Some Kind.Z) = 2
kind_word None = 3

abbrev pub part_words : Part → List ℕ
part_words p = p.number.first.0 ∷ p.number.last.0 ∷ date_word p.date ∷ code_word p.gaining ∷ code_word p.losing ∷ kind_word p.kind ∷ []

abbrev pub report_words : Report → List ℕ
report_words r = part_words (report_part r)

abbrev pub correction_words : Correction → List ℕ
correction_words c = c.code.0 ∷ (part_words c.u ++ part_words c.k)

abbrev pub request_words : Request → List ℕ
request_words q = q.code.0 ∷ date_word q.from ∷ []
