-- A report as a part with nothing missing; reading and writing undo each other. Assumes nothing.
use Rattle.std.specs.Prelude.{Option, Some, None}
use Prim.Native.Nat.{ℕ, ◌≤◌}
use native.Mathlib.Omega.{arith}
use mathlib.Core.Path.{◌≡◌, refl, sym, ap, ◌∙◌}
use mathlib.Core.Bool.{Bool, true, false, cond, not}
use mathlib.Core.List.{List}
use lib.ListN.{length}
use borrow.Author.Tests.{not-true}
use Rattle.laws.proofs.Tests.{and_left, and_right, and-true}
use Rattle.fields.specs.declared.code.Code.{Code}
use Rattle.fields.specs.declared.gaining.Gaining.{Gaining}
use Rattle.fields.specs.declared.kind.Kind.{Kind}
use Rattle.fields.specs.Gaining.{gaining_of, gaining_field}
use Rattle.fields.specs.Number.{is_empty}
use Rattle.calendar.specs.declared.dates.CalendarDays.{CalendarDays}
use Rattle.layout.specs.declared.part.Part.{Part}
use Rattle.layout.specs.declared.report.Report.{Report}
use Rattle.layout.specs.Part.{part_of, part_of_words, part_fits, part_text}
use Rattle.layout.specs.Report.{is_named, on_some_date, on_some_code, on_some_kind, whole_of, report_from, report_of, report_of_words, report_part, report_fits, report_text}
use Rattle.layout.proofs.PartTrip.{part-trip, part-back, part-words, part-longest}

-- a part with nothing missing is a report
pub whole-report : (p : Part) {date : CalendarDays} {losing : Code} {kind : Kind} {gaining : Gaining}
    → is_empty p.number.first ≡ false → p.date ≡ Some date → p.losing ≡ Some losing → p.kind ≡ Some kind
    → is_named p.gaining kind ≡ true → gaining ≡ gaining_of p.gaining
    → whole_of p ≡ Some (record { number = p.number; date = date; gaining = gaining; losing = losing; kind = kind })
unfolding whole_of
whole-report p e₁ e₂ e₃ e₄ e₅ e₆ = rw (e₁, e₂, e₃, e₄, e₅, e₆)

-- ---- reports and the parts that they are
field_back : (g : Gaining) → gaining_of (gaining_field g) ≡ g
field_back (Gaining.Code c) = refl
field_back Gaining.Owner = refl

of-back : (f : Option Code) → gaining_field (gaining_of f) ≡ f
of-back (Some c) = refl
of-back None = refl

module _ {r : Report} where
  date-on : (m : Option CalendarDays) (k : CalendarDays → Option Report) → on_some_date m k ≡ Some r → (x : CalendarDays) × (m ≡ Some x) × (k x ≡ Some r)
  date-on (Some x) k h = (x, refl, h)
  date-on None k h = absurd (let z : ◌≡◌ {A = ℕ} 0 1 = cc in omega arith)

  code-on : (m : Option Code) (k : Code → Option Report) → on_some_code m k ≡ Some r → (x : Code) × (m ≡ Some x) × (k x ≡ Some r)
  code-on (Some x) k h = (x, refl, h)
  code-on None k h = absurd (let z : ◌≡◌ {A = ℕ} 0 1 = cc in omega arith)

  kind-on : (m : Option Kind) (k : Kind → Option Report) → on_some_kind m k ≡ Some r → (x : Kind) × (m ≡ Some x) × (k x ≡ Some r)
  kind-on (Some x) k h = (x, refl, h)
  kind-on None k h = absurd (let z : ◌≡◌ {A = ℕ} 0 1 = cc in omega arith)

  -- a test that must fail, and one that must hold
  some-on : (t : Bool) (x : Option Report) → cond t None x ≡ Some r → (t ≡ false) × (x ≡ Some r)
  some-on true x h = absurd (let z : ◌≡◌ {A = ℕ} 0 1 = cc in omega arith)
  some-on false x h = (refl, h)

  named-on : (t : Bool) (q : Report) → cond t (Some q) None ≡ Some r → (t ≡ true) × (q ≡ r)
  named-on true q h = (refl, cc)
  named-on false q h = absurd (let z : ◌≡◌ {A = ℕ} 0 1 = cc in omega arith)

-- the report's own part is whole, and the part that a report was made of is its own
pub whole_part : (r : Report) → is_empty r.number.first ≡ false → is_named (gaining_field r.gaining) r.kind ≡ true → whole_of (report_part r) ≡ Some r
whole_part r e n = whole-report (report_part r) e refl refl refl n (sym (field_back r.gaining))

pub whole_back : (p : Part) (r : Report) → whole_of p ≡ Some r → (report_part r ≡ p) × (is_empty r.number.first ≡ false) × (is_named (gaining_field r.gaining) r.kind ≡ true)
unfolding whole_of
whole_back p r h =
    let x₀ = some-on (is_empty p.number.first) _ h in
    let x₁ = date-on p.date _ x₀.1 in
    let x₂ = code-on p.losing _ x₁.2 in
    let x₃ = kind-on p.kind _ x₂.2 in
    let x₄ = named-on (is_named p.gaining x₃.0) _ x₃.2 in
    let same = x₄.1 in
    let g = of-back p.gaining in
    let d = sym x₁.1 in
    let l = sym x₂.1 in
    let k = sym x₃.1 in
    let own : report_part (record { number = p.number; date = x₁.0; gaining = gaining_of p.gaining; losing = x₂.0; kind = x₃.0 }) ≡ p =
    (λ i. record { number = p.number; date = d i; gaining = g i; losing = l i; kind = k i }) in (
      ap report_part (sym same) ∙ own,
      ap (λ (q : Report). is_empty q.number.first) (sym same) ∙ x₀.0,
      ap (λ (q : Report). is_named (gaining_field q.gaining) q.kind) (sym same) ∙ ap (λ (f : Option Code). is_named f x₃.0) g ∙ x₄.0,
    )

-- ---- what was written is read back
pub report-trip : (r : Report) → report_fits r ≡ true → report_of (report_text r) ≡ Some r
unfolding report_of report_from report_fits
report-trip r h =
    let a = and_left (part_fits (report_part r)) _ h in
    let b = and_right (part_fits (report_part r)) _ h in
    ap report_from (part-trip (report_part r) a)
    ∙ whole_part r (not-true (is_empty r.number.first) (and_left (not (is_empty r.number.first)) _ b)) (and_right (not (is_empty r.number.first)) _ b)

-- ---- what was read is written again
from_back : (x : Option Part) (r : Report) → report_from x ≡ Some r → (p : Part) × (x ≡ Some p) × (whole_of p ≡ Some r)
unfolding report_from
from_back (Some p) r h = (p, refl, h)
from_back None r h = absurd (let z : ◌≡◌ {A = ℕ} 0 1 = cc in omega arith)

fits-from : (p : Part) (r : Report) → part_fits p ≡ true → whole_of p ≡ Some r → report_fits r ≡ true
unfolding report_fits
fits-from p r f h =
    let w = whole_back p r h in
    and-true _ _ (ap part_fits w.0 ∙ f) (and-true _ _ (ap not w.1) w.2)

pub report-back : (s : List ℕ) (r : Report) → report_of s ≡ Some r → (report_text r ≡ s) × (report_fits r ≡ true)
unfolding report_of
report-back s r h =
    let x = from_back (part_of s) r h in
    let b = part-back s x.0 x.1 in
    let w = whole_back x.0 r x.2 in
    (ap part_text w.0 ∙ b.0, fits-from x.0 r b.1 x.2)

-- what is made of words fits
pub report-words : (w : List ℕ) (r : Report) → report_of_words w ≡ Some r → report_fits r ≡ true
unfolding report_of_words
report-words w r h =
    let x = from_back (part_of_words w) r h in
    fits-from x.0 r (part-words w x.0 x.1) x.2

-- ---- how long it can be
pub report-longest : (r : Report) → report_fits r ≡ true → length (report_text r) ≤ 44
unfolding report_fits
report-longest r h = part-longest (report_part r) (and_left (part_fits (report_part r)) _ h)

pub report-record : (s : List ℕ) (r : Report) → report_of s ≡ Some r → length s ≤ 44
report-record s r h =
    let b = report-back s r h in
    rw b.0 at (report-longest r b.1)
