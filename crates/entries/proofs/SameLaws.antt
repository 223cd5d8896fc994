-- The comparisons are equality. Assumes nothing.
--     same_kind_lem, same_code_lem, same-day      of kinds, codes and days
--     matches-equal, matches-refl         what two matching reports have in common
use mathlib.Core.Path.{◌≡◌, refl}
use mathlib.Core.Bool.{true, ◌&&◌}
use borrow.Author.Tests.{eqb-true}
use Rattle.laws.proofs.Tests.{and_left, and_right, eqb_refl}
use Rattle.calendar.specs.declared.dates.CalendarDays.{CalendarDays}
use Rattle.fields.specs.declared.code.Code.{Code}
use Rattle.fields.specs.declared.kind.Kind.{Kind}
use Rattle.fields.specs.declared.kind.Kind.TheVariants.{P, L, Z}
use Rattle.entries.specs.declared.report.Report.{Report}
use Rattle.entries.specs.Report.{same_kind, same_code, same_day, matches}

pub same_kind_lem : (j k : Kind) → same_kind j k ≡ true → j ≡ k
same_kind_lem P P e = refl
same_kind_lem P L e = cc
same_kind_lem P Z e = cc
same_kind_lem L P e = cc
same_kind_lem L L e = refl
same_kind_lem L Z e = cc
same_kind_lem Z P e = cc
same_kind_lem Z L e = cc
same_kind_lem Z Z e = refl

pub same_code_lem : (a b : Code) → same_code a b ≡ true → a ≡ b
same_code_lem a b e = λ k. record { 0 = eqb-true a.0 b.0 e k }

pub same-day : (a b : CalendarDays) → same_day a b ≡ true → a ≡ b
same-day a b e = λ k. record { 0 = eqb-true a.0 b.0 e k }

-- two matching reports have the date, the losing and the gaining network in common
pub record Common (q r : Report) : Type 0 where
  pub date : q.date ≡ r.date
  pub losing : q.losing ≡ r.losing
  pub gaining : q.gaining ≡ r.gaining

pub matches-equal : (q r : Report) → matches q r ≡ true → Common q r
matches-equal q r e =
    let dl = and_left (same_day q.date r.date && same_code q.losing r.losing) (same_code q.gaining r.gaining) e in
    record {
      date = same-day q.date r.date (and_left (same_day q.date r.date) (same_code q.losing r.losing) dl);
      losing = same_code_lem q.losing r.losing (and_right (same_day q.date r.date) (same_code q.losing r.losing) dl);
      gaining = same_code_lem q.gaining r.gaining (and_right (same_day q.date r.date && same_code q.losing r.losing) (same_code q.gaining r.gaining) e);
    }

pub matches-refl : (r : Report) → matches r r ≡ true
matches-refl r = rw (eqb_refl r.date.0, eqb_refl r.losing.0, eqb_refl r.gaining.0)
