-- The rules are lawful: the numbers' test is equality, and no class holds records of two kinds. Assumes nothing.
use Rattle.layout.specs.declared.report.Report.{Report}
use Rattle.std.specs.Prelude.{Option, Some, None}
use mathlib.Core.Path.{◌≡◌, refl}
use mathlib.Core.Bool.{Bool, true, false, ◌&&◌}
use mathlib.Core.List.{List}
use Prim.Native.Nat.{ℕ, zero, suc, ◌≤◌}
use native.Mathlib.Omega.{arith}
use borrow.Author.Tests.{eqb-true, eq-eqb}
use lib.Dec.{eqb}
use Rattle.fields.specs.declared.kind.Kind.{Kind}
use Rattle.fields.specs.declared.kind.Kind.TheVariants.{P, L, Z}
use Rattle.fields.specs.declared.number.Number.{Number}
use Rattle.fields.specs.Number.{same_number}
use Rattle.layout.specs.Report.{report_of}
use Rattle.entries.specs.declared.entry.Line.{Line}
use Rattle.entries.specs.declared.entry.Entry.{Entry}
use Rattle.entries.specs.Entry.{first_entry}
use Rattle.verdict.specs.declared.step.Record.{Record}
use Rattle.verdict.specs.Step.{entry_after}
use Rattle.model.specs.Rules.{Lawful}
use Rattle.rules.specs.Records.{class_of_kind, class_of_report, correction_class, class_in}
use Rattle.rules.specs.Rules.{keeping, rules}

number_same : (m n : Number) → same_number m n ≡ true → m ≡ n
unfolding same_number
number_same m n e = go (eqb m.first.0 n.first.0) (eqb m.last.0 n.last.0) refl refl e
  where
    go : (s t : Bool) → eqb m.first.0 n.first.0 ≡ s → eqb m.last.0 n.last.0 ≡ t → (s && t) ≡ true → m ≡ n
    go true true p q h = λ k. record { first = record { 0 = eqb-true m.first.0 n.first.0 p k }; last = record { 0 = eqb-true m.last.0 n.last.0 q k } }
    go true false p q h = let z : ◌≡◌ {A = ℕ} 0 1 = cc in absurd (omega arith)
    go false t p q h = let z : ◌≡◌ {A = ℕ} 0 1 = cc in absurd (omega arith)

number-refl : (n : Number) → same_number n n ≡ true
unfolding same_number
number-refl n = rw (eq-eqb n.first.0 n.first.0 refl, eq-eqb n.last.0 n.last.0 refl)

-- reports have the classes from 8 to 11
report-from : (r : Option Report) → 8 ≤ class_of_report r
report-from (Some r) = go r.kind
  where
    go : (k : Kind) → 8 ≤ class_of_kind k
    go P = omega arith
    go L = omega arith
    go Z = omega arith
report-from None = omega arith

report-to : (r : Option Report) → class_of_report r ≤ 11
report-to (Some r) = go r.kind
  where
    go : (k : Kind) → class_of_kind k ≤ 11
    go P = omega arith
    go L = omega arith
    go Z = omega arith
report-to None = omega arith

class-kind : (k l : ℕ) (r s : List ℕ) → class_in k r ≡ class_in l s → k ≡ l
unfolding class_in
class-kind zero zero r s e = refl
class-kind zero (suc zero) r s e = absurd (omega (arith, report-from (report_of r), report-to (report_of r)))
class-kind zero (suc (suc l)) r s e = absurd (omega (arith, report-to (report_of r)))
class-kind (suc zero) zero r s e = absurd (omega (arith, report-from (report_of s), report-to (report_of s)))
class-kind (suc zero) (suc zero) r s e = refl
class-kind (suc zero) (suc (suc l)) r s e = absurd (omega arith)
class-kind (suc (suc k)) zero r s e = absurd (omega (arith, report-to (report_of s)))
class-kind (suc (suc k)) (suc zero) r s e = absurd (omega arith)
class-kind (suc (suc k)) (suc (suc l)) r s e = omega arith

-- the classes of a default file's records, and of a correction file's
pub class-of-reports : (bytes : List ℕ) → (8 ≤ class_in 0 bytes) × (class_in 0 bytes ≤ 11)
unfolding class_in
class-of-reports bytes = (report-from (report_of bytes), report-to (report_of bytes))

pub class-of-corrections : (bytes : List ℕ) → class_in 1 bytes ≡ correction_class
unfolding class_in
class-of-corrections bytes = refl

lawful-keeping : (A : Type 0) (first : Line → A) (after : Line → A → Record → A) (entry : A → Entry) → Lawful (keeping A first after entry)
lawful-keeping A first after entry = record { same_true = number_same; same_refl = number-refl; class-kind = class-kind }

pub lawful : Lawful rules
lawful = lawful-keeping Entry first_entry entry_after (λ e. e)
