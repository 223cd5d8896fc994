-- A well formed line has room in its slot: the digits of a field, behind a leading 1, are less than 2 * 10 ^ 11. Assumes nothing.
use mathlib.Core.Path.{◌≡◌, refl}
use mathlib.Core.Bool.{Bool, true, false, not, cond, ◌&&◌}
use Prim.Native.Nat.{ℕ, zero, suc, ◌*◌, ◌/◌, ◌^◌, ◌≤◌, ◌<◌}
use native.Mathlib.Nat.{pow-suc}
use native.Mathlib.Omega.{arith}
use lib.Dec.{leb}
use borrow.Author.Tests.{leb-true, eqb-true}
use Rattle.laws.specs.Digits.{down}
use Rattle.laws.specs.Lists.{table, all}
use Rattle.laws.proofs.Tables.{tested}
use Rattle.laws.proofs.Tests.{and_left, and_right}
use Rattle.calendar.specs.Dates.{in_calendar}
use Rattle.fields.specs.Block.{block}
use Rattle.fields.specs.Code.{code_fits}
use Rattle.fields.specs.Number.{digits_size, digits_fits, digits_text, is_empty, block_fits, number_fits}
use Rattle.fields.specs.declared.number.Digits.{Digits}
use Rattle.fields.specs.declared.number.Number.{Number}
use Rattle.fields.proofs.NumberLaws.{fits-size, fits-leads}
use Rattle.store.specs.numbers.Lines.{good_line}
use Rattle.store.specs.declared.numbers.lines.Line.{Line}
use Rattle.store.proofs.numbers.Reading.{Roomy}

down-below : (k n : ℕ) → down k n ≡ 1 → n < 2 * 10 ^ k
unfolding down
down-below zero n e = omega arith
down-below (suc k) n e =
    let ih : n / 10 < 2 * 10 ^ k = down-below k (n / 10) e in
    let more : 10 ^ suc k ≡ 10 ^ k * 10 = pow-suc 10 k in
    omega arith

few-digits : (k : ℕ) → k ≤ 11 → 10 ^ k ≤ 100000000000
unfolding table all
few-digits k h = leb-true (10 ^ k) 100000000000 (tested (λ (k : ℕ). leb (10 ^ k) 100000000000) 12 refl k (omega arith))

pub digits-below : (d : Digits) → digits_fits d ≡ true → d.0 < 200000000000
digits-below d e =
    let b = down-below (digits_size d) d.0 (fits-leads d e) in
    let c = few-digits (digits_size d) (fits-size d e) in
    omega arith

empty-below : (d : Digits) → is_empty d ≡ true → d.0 < 200000000000
empty-below d e = let one : d.0 ≡ 1 = eqb-true d.0 1 e in omega arith

fields-below : (n : Number) → number_fits n ≡ true → (n.first.0 < 200000000000) × (n.last.0 < 200000000000)
unfolding number_fits block_fits
fields-below n e = go (is_empty n.last) refl e
  where
    go : (t : Bool) → is_empty n.last ≡ t → cond t (digits_fits n.first) (block_fits n.first n.last) ≡ true
        → (n.first.0 < 200000000000) × (n.last.0 < 200000000000)
    go true q h = (digits-below n.first h, empty-below n.last q)
    go false q h =
        let rest = and_right (digits_fits n.first) (digits_fits n.last && block (digits_text n.first) (digits_text n.last)) h in (
          digits-below n.first (and_left (digits_fits n.first) (digits_fits n.last && block (digits_text n.first) (digits_text n.last)) h),
          digits-below n.last (and_left (digits_fits n.last) (block (digits_text n.first) (digits_text n.last)) rest),
        )

module _ (l : Line) (e : good_line l ≡ true) where
  pub good-number : number_fits l.number ≡ true
  unfolding good_line
  good-number = and_left (number_fits l.number) (not (is_empty l.number.first) && (code_fits l.owner && in_calendar l.setup.0)) e

  behind : (code_fits l.owner && in_calendar l.setup.0) ≡ true
  unfolding good_line
  behind =
      and_right (not (is_empty l.number.first)) (code_fits l.owner && in_calendar l.setup.0)
      (and_right (number_fits l.number) (not (is_empty l.number.first) && (code_fits l.owner && in_calendar l.setup.0)) e)

  pub good-owner : l.owner.0 ≤ 999
  good-owner = leb-true l.owner.0 999 (and_left (code_fits l.owner) (in_calendar l.setup.0) behind)

  pub good-setup : l.setup.0 ≤ 18992
  good-setup = leb-true l.setup.0 18992 (and_right (code_fits l.owner) (in_calendar l.setup.0) behind)

  pub good-roomy : Roomy l
  good-roomy =
      let b = fields-below l.number good-number in
      let f : l.number.first.0 < 200000000000 = b.0 in
      let g : l.number.last.0 < 200000000000 = b.1 in
      let o = good-owner in
      let d = good-setup in
      record { first_fits = omega arith; last_fits = omega arith; owner-fits = omega arith; setup-fits = omega arith }
