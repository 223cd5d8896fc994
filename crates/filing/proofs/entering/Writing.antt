-- The loop that writes the first lines of a text, and what is known of the lines of a file that was judged. Assumes nothing.
use Rattle.layout.specs.declared.correction.Correction.{Correction as ACorrection}
use Rattle.std.specs.Prelude.{Ok}
use Rattle.std.specs.Prelude.{is_some}
use Rattle.std.specs.Prelude.{Ok, is_some, Option, Some, None}
use Rattle.layout.specs.declared.report.Report.{Report}
use mathlib.Core.Path.{◌≡◌, refl, sym, ap, ◌∙◌}
use mathlib.Core.Bool.{true}
use mathlib.Core.List.{List, [], ◌∷◌}
use Prim.Native.Nat.{ℕ, suc, ◌+◌, ◌*◌, ◌≤◌, ◌<◌}
use native.Mathlib.Nat.{add-zero, suc-mul, mul-one, mul-le-mul_left, mul-le-mul_right}
use native.Mathlib.Numerals.{add-one}
use native.Mathlib.Omega.{arith}
use borrow.Author.Tests.{lt-ltb}
use lib.ListN.{length, get_or, drop, drop_of_length-le}
use lib.Seq.{drop-cons, get_or-take, length-take-le}
use Rattle.laws.specs.Lists.{all}
use Rattle.laws.specs.Overlay.{overlay}
use Rattle.laws.specs.Slots.{slot_of}
use Rattle.laws.specs.Split.{split, between, end_of, EndsAt}
use Rattle.laws.proofs.Split.{ends_at}
use Rattle.laws.proofs.Tables.{all-at, all_weaker}
use Rattle.files.specs.Cursor.{line_start}
use Rattle.files.proofs.Cursor.{line-at, line-is, lines-enough}
use Rattle.files.proofs.FileTrip.{file-written}
use Rattle.files.specs.Judged.{judged_file, records_of}
use Rattle.layout.specs.Report.{report_of}
use Rattle.layout.specs.Correction.{correction_of}
use Rattle.layout.proofs.ReportLaws.{report-record}
use Rattle.layout.proofs.CorrectionTrip.{correction-record}
use Rattle.records.specs.Record.{is_record}
use Rattle.filing.specs.declared.entering.kind.Filable.{Filable}
use Rattle.filing.specs.declared.entering.kind.Filable.TheVariants.{Default, Correction}
use Rattle.filing.specs.entering.Entering.{file_kind, journal_with, shorter, first_lines, Lines}
use Rattle.filing.proofs.entering.Journals.{is-shorter, journal-none, journal-more}

-- what is known in a turn, at the line i
pub record Line (width : ℕ) (text : List ℕ) (m i at e : ℕ) : Type 0 where
  pub from : at ≤ e
  pub to : e ≤ length text
  pub narrow : length (between text at e) < width
  pub next : e + 1 ≡ line_start text (i + 1)
  pub first : drop i (first_lines m text) ≡ between text at e ∷ drop (i + 1) (first_lines m text)

module _ (width : ℕ) (text : List ℕ) (m : ℕ) (w : Lines width text m) (i at e : ℕ) (h : i < m) (p : at ≡ line_start text i) (q : e ≡ end_of 13 text at) where
  ends : EndsAt 13 text at e
  ends = rw (q, p) (ends_at 13 text (line_start text i) (line-at text i (omega (arith, w.enough))).inside)

  same : between text at e ≡ get_or (split 13 text) i []
  same = rw (q, p) (line-is text i (omega (arith, w.enough)))

  taken : get_or (first_lines m text) i [] ≡ get_or (split 13 text) i []
  taken = get_or-take m (split 13 text) i [] h

  count : length (first_lines m text) ≡ m
  count = length-take-le m (split 13 text) w.enough

  pub line-here : Line width text m i at e
  unfolding line_start
  line-here = record {
    from = ends.from;
    to = ends.to;
    narrow = is-shorter width (between text at e) (ap (shorter width) (same ∙ sym taken) ∙ all-at (shorter width) (first_lines m text) i [] w.short (omega (arith, count)));
    next = rw (add-one i, ← p) (ap (λ (k : ℕ). k + 1) q);
    first = drop-cons (first_lines m text) i [] (omega (arith, count)) ∙ rw (add-one, taken, same);
  }

pub start : (text : List ℕ) → ◌≡◌ {A = ℕ} 0 (line_start text 0)
unfolding line_start
start text = refl

-- there is room for one more
pub room-here : (width from m i n : ℕ) → i < m → (from + m) * width ≤ n → (from + i) * width + width ≤ n
room-here width from m i n h room =
    let le : suc (from + i) ≤ from + m = omega arith in
    omega (arith, suc-mul (from + i) width, mul-le-mul_right width le, room)

-- no more places than bytes
pub places-fit : (width k n : ℕ) → 0 < width → k * width ≤ n → k ≤ n
places-fit width k n some room = omega (arith, mul-le-mul_left k some, mul-one k)

-- before the first turn, in each turn, and behind the last
pub lines_none : (width : ℕ) (j : List ℕ) (from m : ℕ) (text : List ℕ) → journal_with width j (from + 0) (drop 0 (first_lines m text)) ≡ journal_with width j from (first_lines m text)
lines_none width j from m text = ap (λ (k : ℕ). journal_with width j k (first_lines m text)) (add-zero from)

pub lines_next : (width : ℕ) (j₀ j j₁ : List ℕ) (from m i at e : ℕ) (text : List ℕ) → Line width text m i at e
    → j₁ ≡ overlay j ((from + i) * width) (slot_of width (between text at e))
    → journal_with width j (from + i) (drop i (first_lines m text)) ≡ journal_with width j₀ from (first_lines m text)
    → journal_with width j₁ (from + (i + 1)) (drop (i + 1) (first_lines m text)) ≡ journal_with width j₀ from (first_lines m text)
lines_next width j₀ j j₁ from m i at e text l written inv =
    let k : from + (i + 1) ≡ from + i + 1 = omega arith in
    (λ x. journal_with width (written x) (k x) (drop (i + 1) (first_lines m text)))
    ∙ sym (journal-more width j (from + i) (between text at e) (drop (i + 1) (first_lines m text)) l.narrow)
    ∙ ap (journal_with width j (from + i)) (sym l.first)
    ∙ inv

pub lines-done : (width : ℕ) (j₀ j : List ℕ) (from m : ℕ) (text : List ℕ) → Lines width text m
    → journal_with width j (from + m) (drop m (first_lines m text)) ≡ journal_with width j₀ from (first_lines m text)
    → j ≡ journal_with width j₀ from (first_lines m text)
lines-done width j₀ j from m text w inv =
    let none : drop m (first_lines m text) ≡ [] = drop_of_length-le (first_lines m text) {i = m} (omega (arith, length-take-le m (split 13 text) w.enough)) in
    sym (ap (journal_with width j (from + m)) none ∙ journal-none width j (from + m)) ∙ inv

-- ---- the lines of a file that was judged
-- how wide a record's slot is in the journal of a kind
abbrev pub slot_width : Filable → ℕ
slot_width Default = 45
slot_width Correction = 98

report-short : (l : List ℕ) (r : Option Report) → report_of l ≡ r → is_some r ≡ true → length l < 45
report-short l (Some x) q e = omega (arith, report-record l x q)
report-short l None q e = absurd (let z : ◌≡◌ {A = ℕ} 0 1 = cc in omega arith)

correction-short : (l : List ℕ) (c : Option ACorrection) → correction_of l ≡ c → is_some c ≡ true → length l < 98
correction-short l (Some x) q e = omega (arith, correction-record l x q)
correction-short l None q e = absurd (let z : ◌≡◌ {A = ℕ} 0 1 = cc in omega arith)

pub record-short : (kind : Filable) (l : List ℕ) → is_record (file_kind kind) l ≡ true → shorter (slot_width kind) l ≡ true
unfolding is_record shorter
record-short Default l e = lt-ltb (length l) 45 (report-short l (report_of l) refl e)
record-short Correction l e = lt-ltb (length l) 98 (correction-short l (correction_of l) refl e)

module _ (kind : Filable) (text : List ℕ) (m : ℕ) (e : judged_file (file_kind kind) text ≡ Ok m) where
  pub records-lines : records_of (file_kind kind) text ≡ first_lines m text
  unfolding records_of
  records-lines = rw e

  pub records-count : length (records_of (file_kind kind) text) ≡ m
  records-count = (file-written (file_kind kind) text m e).1

  pub records-good : all (is_record (file_kind kind)) (records_of (file_kind kind) text) ≡ true
  records-good = (file-written (file_kind kind) text m e).0.records

  pub records-short : all (shorter (slot_width kind)) (records_of (file_kind kind) text) ≡ true
  records-short = all_weaker (is_record (file_kind kind)) (shorter (slot_width kind)) (record-short kind) (records_of (file_kind kind) text) records-good

  pub judged-lines : Lines (slot_width kind) text m
  judged-lines = record { enough = lines-enough (file_kind kind) text m e; short = rw (← records-lines) records-short }
