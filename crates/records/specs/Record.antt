-- The records of files of each kind: which lines are records, which words are the values of one, and how it is spelt.
use Rattle.layout.specs.declared.correction.Correction.{Correction as ACorrection}
use Rattle.layout.specs.declared.request.Request.{Request as ARequest}
-- Assumes nothing: these are definitions.
use Rattle.std.specs.Prelude.{is_some}
use Rattle.layout.specs.declared.report.Report.{Report}
use Rattle.std.specs.Prelude.{Option, Some, None}
use Rattle.std.specs.Prelude.{ℕ, Bool, List, []}
use Rattle.layout.specs.Report.{report_of, report_of_words, report_text}
use Rattle.layout.specs.Correction.{correction_of, correction_of_words, correction_text}
use Rattle.layout.specs.Request.{request_of, request_of_words, request_text}
use Rattle.records.specs.declared.names.kind.FileKind.{FileKind}
use Rattle.records.specs.declared.names.kind.FileKind.TheVariants.{Default, Correction, Request, Response}

-- whether a line is a record of a file of this kind
unfoldable pub is_record : FileKind → List ℕ → Bool
is_record Default l = is_some (report_of l)
is_record Correction l = is_some (correction_of l)
is_record Request l = is_some (request_of l)
is_record Response l = is_some (report_of l)

-- how many words a record is given by
abbrev pub width_of : FileKind → ℕ
width_of Default = 6
width_of Correction = 13
width_of Request = 2
width_of Response = 6

-- whether words are the values of a record that the layout can hold
unfoldable pub fits : FileKind → List ℕ → Bool
fits Default w = is_some (report_of_words w)
fits Correction w = is_some (correction_of_words w)
fits Request w = is_some (request_of_words w)
fits Response w = is_some (report_of_words w)

-- how a record is spelt; nothing where there is none
abbrev pub spelt : {A : Type 0} → (A → List ℕ) → Option A → List ℕ
spelt text (Some r) = text r
spelt text None = []

abbrev pub report_spelt : Option Report → List ℕ
report_spelt = spelt report_text

abbrev pub correction_spelt : Option ACorrection → List ℕ
correction_spelt = spelt correction_text

abbrev pub request_spelt : Option ARequest → List ℕ
request_spelt = spelt request_text

unfoldable pub text_of : FileKind → List ℕ → List ℕ
text_of Default w = report_spelt (report_of_words w)
text_of Correction w = correction_spelt (correction_of_words w)
text_of Request w = request_spelt (request_of_words w)
text_of Response w = report_spelt (report_of_words w)
