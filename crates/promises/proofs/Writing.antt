-- What was written reads back, from the writer's contract. Assumes nothing.
use Rattle.std.specs.Prelude.{Result, Err}
use Rattle.records.specs.declared.names.written.NotWritten.{NotWritten}
use Rattle.std.specs.Prelude.{Ok}
use Rattle.std.specs.Prelude.{Some}
use mathlib.Core.Path.{◌≡◌, refl, sym, ap, ◌∙◌}
use mathlib.Core.Bool.{Bool, true, false, cond}
use mathlib.Core.List.{List, [], map}
use Prim.Native.Nat.{ℕ, ◌≤◌, ◌<◌}
use native.Mathlib.Nat.{zero-add}
use native.Mathlib.Omega.{arith}
use borrow.Author.Tests.{leb-true}
use lib.Dec.{leb}
use lib.ListN.{length, get_or, take, length-map}
use Rattle.laws.proofs.Overlay.{laid-front}
use Rattle.layout.specs.declared.report.Report.{Report}
use Rattle.layout.specs.declared.correction.Correction.{Correction}
use Rattle.layout.specs.Report.{report_of_words}
use Rattle.layout.specs.Correction.{correction_of_words}
use Rattle.records.specs.declared.names.kind.FileKind.{FileKind}
use Rattle.records.specs.names.Written.{after_writing, Wrote}
use Rattle.records.specs.Record.{text_of}
use Rattle.files.specs.Judged.{judged_file, records_of}
use Rattle.files.specs.Writing.{Holding, held, values_in, file_of, answer_to, file_answer}
use Rattle.files.specs.Values.{value_found, report_at, correction_at}
use Rattle.files.proofs.FileTrip.{words-read}
use Rattle.files.proofs.ValueTrip.{report-kept, correction-kept}
use Rattle.capi.specs.Writing.{Writes}
use Rattle.promises.specs.Numbers.{wrote_number, wrote_count}

-- a file of so many records that the layouts hold, shorter than the room
whole-file : (h : Holding) (text : List ℕ) (room n : ℕ) → Ok n ≡ answer_to h text room → (m : ℕ) × (h ≡ Holding.Records m) × (length text ≤ room) × (n ≡ length text)
whole-file (Holding.Fault i) text room n q = absurd (let z : ◌≡◌ {A = ℕ} 0 1 = cc in omega arith)
whole-file (Holding.Records m) text room n q = go (leb (length text) room) refl q
  where
    go : (t : Bool) → leb (length text) room ≡ t → Ok n ≡ cond t (Ok (length text)) (Err NotWritten.Long)
        → (k : ℕ) × (Holding.Records m ≡ Holding.Records k) × (length text ≤ room) × (n ≡ length text)
    go true e q = (m, refl, leb-true (length text) room e, cc)
    go false e q = absurd (let z : ◌≡◌ {A = ℕ} 0 1 = cc in omega arith)

module _ (kind : FileKind) (words : List ℕ) {before after : List ℕ} {n : ℕ} (s : Wrote (file_answer kind words (length before)) (file_of kind words) before after (Ok n)) where
  found : (m : ℕ) × (held kind (values_in kind words) ≡ Holding.Records m) × (length (file_of kind words) ≤ length before) × (n ≡ length (file_of kind words))
  unfolding file_answer
  found = whole-file (held kind (values_in kind words)) (file_of kind words) (length before) n s.answer

  front : take n after ≡ file_of kind words
  front = laid-front found.2 (record {
    bytes = s.bytes ∙ ap (λ (r : Result ℕ NotWritten). after_writing r (file_of kind words) before) (sym s.answer);
    ends = found.3 ∙ sym (zero-add (length (file_of kind words)));
  })

  pub reads-back : (judged_file kind (take n after) ≡ Ok (length (values_in kind words))) × (records_of kind (take n after) ≡ map (text_of kind) (values_in kind words))
  reads-back =
      let w = (words-read kind words found.0 found.1).0 in
      rw front (w.count ∙ ap Ok (length-map (values_in kind words) (text_of kind)), w.texts)

  -- as many records as there are values
  inside : (k : ℕ) → k < length (values_in kind words) → k < found.0
  inside k h = omega (arith, h, (words-read kind words found.0 found.1).1)

-- ---- value by value
module _ (words : List ℕ) {before after : List ℕ} {n : ℕ} (k : ℕ) where
  pub report-back : Wrote (file_answer FileKind.Default words (length before)) (file_of FileKind.Default words) before after (Ok n) → k < length (values_in FileKind.Default words)
      → (x : Report) → report_of_words (get_or (values_in FileKind.Default words) k []) ≡ Some x → report_at (take n after) k ≡ Ok x
  report-back s h x e =
      ap (λ (file : List ℕ). report_at file k) (front FileKind.Default words s)
      ∙ report-kept words (found FileKind.Default words s).0 k (found FileKind.Default words s).1 (inside FileKind.Default words s k h)
      ∙ ap (value_found (Ok tt)) e

  pub correction-back : Wrote (file_answer FileKind.Correction words (length before)) (file_of FileKind.Correction words) before after (Ok n) → k < length (values_in FileKind.Correction words)
      → (x : Correction) → correction_of_words (get_or (values_in FileKind.Correction words) k []) ≡ Some x → correction_at (take n after) k ≡ Ok x
  correction-back s h x e =
      ap (λ (file : List ℕ). correction_at file k) (front FileKind.Correction words s)
      ∙ correction-kept words (found FileKind.Correction words s).0 k (found FileKind.Correction words s).1 (inside FileKind.Correction words s k h)
      ∙ ap (value_found (Ok tt)) e

-- ---- for other languages
pub wrote-c : {right : Result ℕ NotWritten} {text before after : List ℕ} {more : ℕ} → Writes right text before after 0 more → Wrote right text before after (Ok more)
wrote-c {right} {text} {before} {after} {more} s = go right refl
  where
    go : (r : Result ℕ NotWritten) → right ≡ r → Wrote right text before after (Ok more)
    go (Ok n) e = record { answer = ap Ok (s.tells ∙ ap wrote_count e) ∙ sym e; bytes = s.bytes }
    go (Err (NotWritten.Fault i)) e = absurd (let z = s.answers ∙ ap wrote_number e in omega (arith, z))
    go (Err NotWritten.Long) e = absurd (let z = s.answers ∙ ap wrote_number e in omega (arith, z))
