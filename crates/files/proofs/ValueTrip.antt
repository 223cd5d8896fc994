-- The values that reading a file gives. Assumes nothing.
--     report-there, correction-there, request-there         where there is a record, its value is read, and it is spelt as the record is
--     report-kept, correction-kept, request-kept            reading a file that was written from words gives the values of these words
--     response-as-default                                   a response file is read as a default file is
use Rattle.std.specs.Prelude.{Result, Ok, Err, ⊤}
use Rattle.files.specs.declared.read.NoRecord.{NoRecord}
use Rattle.files.specs.declared.judge.Fault.{Fault}
use Rattle.std.specs.Prelude.{is_some}
use Rattle.std.specs.Prelude.{Option, Some, None}
use Prim.Native.Nat.{ℕ, zero, suc, ◌+◌, ◌<◌}
use native.Mathlib.Omega.{arith}
use mathlib.Core.Path.{◌≡◌, refl, sym, ap, ◌∙◌}
use mathlib.Core.Bool.{Bool, true, false, cond}
use mathlib.Core.List.{List, [], ◌∷◌, map}
use lib.Dec.{ltb}
use lib.ListN.{length, get_or, length-map}
use borrow.Author.Tests.{lt-ltb, ltb-true}
use Rattle.laws.specs.Split.{split, piece_of}
use Rattle.laws.proofs.Tables.{all-at}
use Rattle.laws.proofs.Tests.{never}
use Rattle.layout.specs.declared.report.Report.{Report}
use Rattle.layout.specs.declared.correction.Correction.{Correction}
use Rattle.layout.specs.declared.request.Request.{Request}
use Rattle.layout.specs.Report.{report_of, report_of_words, report_text}
use Rattle.layout.specs.Correction.{correction_of, correction_of_words, correction_text}
use Rattle.layout.specs.Request.{request_of, request_of_words, request_text}
use Rattle.layout.proofs.ReportLaws.{report-back}
use Rattle.layout.proofs.CorrectionTrip.{correction-back}
use Rattle.layout.proofs.RequestTrip.{request-back}
use Rattle.records.specs.declared.names.kind.FileKind.{FileKind}
use Rattle.records.specs.Record.{is_record, fits, text_of}
use Rattle.records.proofs.RecordTrip.{report-same, correction-same, request-same}
use Rattle.records.specs.closing.Closing.{begins}
use Rattle.faults.specs.Record.{report_fault, record_fault}
use Rattle.files.specs.Judged.{closed, on_line, unended, last_line, judged, judged_file, records_of}
use Rattle.files.specs.Reading.{found_in, found_at, record_at}
use Rattle.files.specs.Writing.{Holding, values_in, held, file_of}
use Rattle.files.specs.Values.{value_found, report_at, correction_at, request_at}
use Rattle.files.proofs.ReadLaws.{record-line}
use Rattle.files.proofs.FileTrip.{file-written, words-read, words-fit}

-- ---- where there is a record
-- a place with a record is one of so many
found_inside : (kind : FileKind) (file : List ℕ) (k : ℕ) → found_at kind file k ≡ Ok tt → (n : ℕ) × (judged_file kind file ≡ Ok n) × (k < n)
unfolding found_at
found_inside kind file k e = go (judged_file kind file) refl e
  where
    less : (n : ℕ) (t : Bool) → ltb k n ≡ t → ◌≡◌ {A = Result ⊤ NoRecord} (cond t (Ok tt) (Err NoRecord.Beyond)) (Ok tt) → k < n
    less n true p e = ltb-true k n p
    less n false p e = absurd (let z : ◌≡◌ {A = ℕ} 0 1 = cc in omega arith)

    go : (j : Result ℕ Fault) → judged_file kind file ≡ j → found_in j k ≡ Ok tt → (n : ℕ) × (judged_file kind file ≡ Ok n) × (k < n)
    go (Ok n) q e = (n, q, less n (ltb k n) refl e)
    go (Err fault) q e = absurd (let z : ◌≡◌ {A = ℕ} 0 1 = cc in omega arith)

-- its line is its text, and a record
found-line : (kind : FileKind) (file : List ℕ) (k : ℕ) → found_at kind file k ≡ Ok tt → (record_at kind file k ≡ piece_of 13 file k) × (is_record kind (piece_of 13 file k) ≡ true)
unfolding record_at
found-line kind file k e =
    let i = found_inside kind file k e in
    let w = file-written kind file i.0 i.1 in
    let l = record-line kind file k i.0 i.1 i.2 in
    (l, ap (is_record kind) (sym l) ∙ all-at (is_record kind) (records_of kind file) k [] w.0.records (omega (arith, w.1, i.2)))

-- and so its value is read
value_there : {A : Type 0} (found : Result ⊤ NoRecord) (r : Option A) → found ≡ Ok tt → is_some r ≡ true → (x : A) × (value_found found r ≡ Ok x) × (r ≡ Some x)
value_there found (Some x) e t = (x, rw e, refl)
value_there found None e t = never t

-- ---- a file that was written from words
map_at : (f : List ℕ → List ℕ) (vs : List (List ℕ)) (k : ℕ) → k < length vs → get_or (map f vs) k [] ≡ f (get_or vs k [])
map_at f [] k h = absurd (omega arith)
map_at f (v ∷ vs) zero h = refl
map_at f (v ∷ vs) (suc k) h = map_at f vs k (omega arith)

-- the record at a place is there, and is what the words of that place spell; these make a record
record Kept (kind : FileKind) (words : List ℕ) (k : ℕ) : Type 0 where
  pub found : found_at kind (file_of kind words) k ≡ Ok tt
  pub line : piece_of 13 (file_of kind words) k ≡ text_of kind (get_or (values_in kind words) k [])
  pub fit : fits kind (get_or (values_in kind words) k []) ≡ true

kept : (kind : FileKind) (words : List ℕ) (n k : ℕ) → held kind (values_in kind words) ≡ Holding.Records n → k < n → Kept kind words k
unfolding found_at record_at
kept kind words n k e h =
    let vs : List (List ℕ) = values_in kind words in
    let r = words-read kind words n e in
    let size : length (map (text_of kind) vs) ≡ length vs = length-map vs (text_of kind) in
    let inside : k < length (map (text_of kind) vs) = omega (arith, r.1) in
    record {
      found = rw (r.0.count, lt-ltb k (length (map (text_of kind) vs)) inside);
      line =
          sym (record-line kind (file_of kind words) k (length (map (text_of kind) vs)) r.0.count inside)
          ∙ ap (λ (ts : List (List ℕ)). get_or ts k []) r.0.texts
          ∙ map_at (text_of kind) vs k (omega (arith, r.1));
      fit = all-at (fits kind) vs k [] (words-fit kind words n e) (omega (arith, r.1));
    }

-- ---- reports
pub report-there : (file : List ℕ) (k : ℕ) → found_at FileKind.Default file k ≡ Ok tt → (x : Report) × (report_at file k ≡ Ok x) × (report_text x ≡ record_at FileKind.Default file k)
unfolding report_at is_record
report-there file k e =
    let l = found-line FileKind.Default file k e in
    let w = value_there (found_at FileKind.Default file k) (report_of (piece_of 13 file k)) e l.1 in
    (w.0, w.1, (report-back (piece_of 13 file k) w.0 w.2).0 ∙ sym l.0)

pub report-kept : (words : List ℕ) (n k : ℕ) → held FileKind.Default (values_in FileKind.Default words) ≡ Holding.Records n → k < n
    → report_at (file_of FileKind.Default words) k ≡ value_found (Ok tt) (report_of_words (get_or (values_in FileKind.Default words) k []))
unfolding report_at fits text_of
report-kept words n k e h =
    let p = kept FileKind.Default words n k e h in
    rw (p.found, p.line, report-same (get_or (values_in FileKind.Default words) k []) p.fit)

-- ---- corrections
pub correction-there : (file : List ℕ) (k : ℕ) → found_at FileKind.Correction file k ≡ Ok tt → (x : Correction) × (correction_at file k ≡ Ok x) × (correction_text x ≡ record_at FileKind.Correction file k)
unfolding correction_at is_record
correction-there file k e =
    let l = found-line FileKind.Correction file k e in
    let w = value_there (found_at FileKind.Correction file k) (correction_of (piece_of 13 file k)) e l.1 in
    (w.0, w.1, (correction-back (piece_of 13 file k) w.0 w.2).0 ∙ sym l.0)

pub correction-kept : (words : List ℕ) (n k : ℕ) → held FileKind.Correction (values_in FileKind.Correction words) ≡ Holding.Records n → k < n
    → correction_at (file_of FileKind.Correction words) k ≡ value_found (Ok tt) (correction_of_words (get_or (values_in FileKind.Correction words) k []))
unfolding correction_at fits text_of
correction-kept words n k e h =
    let p = kept FileKind.Correction words n k e h in
    rw (p.found, p.line, correction-same (get_or (values_in FileKind.Correction words) k []) p.fit)

-- ---- requests
pub request-there : (file : List ℕ) (k : ℕ) → found_at FileKind.Request file k ≡ Ok tt → (x : Request) × (request_at file k ≡ Ok x) × (request_text x ≡ record_at FileKind.Request file k)
unfolding request_at is_record
request-there file k e =
    let l = found-line FileKind.Request file k e in
    let w = value_there (found_at FileKind.Request file k) (request_of (piece_of 13 file k)) e l.1 in
    (w.0, w.1, (request-back (piece_of 13 file k) w.0 w.2).0 ∙ sym l.0)

pub request-kept : (words : List ℕ) (n k : ℕ) → held FileKind.Request (values_in FileKind.Request words) ≡ Holding.Records n → k < n
    → request_at (file_of FileKind.Request words) k ≡ value_found (Ok tt) (request_of_words (get_or (values_in FileKind.Request words) k []))
unfolding request_at fits text_of
request-kept words n k e h =
    let p = kept FileKind.Request words n k e h in
    rw (p.found, p.line, request-same (get_or (values_in FileKind.Request words) k []) p.fit)

-- ---- response files
response-lines : (ls : List (List ℕ)) (i : ℕ) → judged FileKind.Response i ls ≡ judged FileKind.Default i ls
unfolding judged last_line unended record_fault
response-lines [] i = refl
response-lines (l ∷ []) i = refl
response-lines (l ∷ m ∷ ls) i = ap (λ (j : Result ℕ Fault). cond (begins l) (closed i l (m ∷ ls)) (on_line i (report_fault l) j)) (response-lines (m ∷ ls) (i + 1))

pub response-as-default : (file : List ℕ) (k : ℕ) → found_at FileKind.Response file k ≡ found_at FileKind.Default file k
unfolding found_at judged_file
response-as-default file k = ap (λ (j : Result ℕ Fault). found_in j k) (response-lines (split 13 file) 0)
