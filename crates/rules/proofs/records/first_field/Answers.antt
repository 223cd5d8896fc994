-- `rules::records::first_field` meets its contract: what is found is the run of the bytes that are left, behind the digits before them.
-- Assumes nothing.
use Prim.Native.Nat.{ℕ, ◌-◌, ◌<◌}
use mathlib.Core.Path.{◌≡◌, sym, ap, ◌∙◌}
use native.Mathlib.Omega.{arith}
use lib.ListN.{get_or, take, drop}
use lib.Seq.{get_or-take}
use Rattle.std.specs.Prelude.{slice_get}
use mathlib.Core.List.{List}
use Rattle.laws.proofs.Digits.{digit_low, digit-high}
use Rattle.text.proofs.Read.{bound, bound-more}
use Rattle.rules.proofs.FirstRun.{ascii_digit, run, run-start, run_on, run-ended, run_behind, run_none_behind}
use Rattle.rules.proofs.records.first_field.Goals as goal

-- the byte in front is that of the whole
front : (s field : List ℕ) (m i : ℕ) → field ≡ take m s → i < m → get_or field i 0 ≡ get_or s i 0
front s field m i e h = ap (λ (f : List ℕ). get_or f i 0) e ∙ get_or-take m s i 0 h

pub loop-b-init : goal.loop-b-init
loop-b-init c = (run-start c.args.s.now, omega arith)

pub returns-then-not-is_ascii_digit : goal.returns-then-not-is_ascii_digit
returns-then-not-is_ascii_digit c =
    let s = c.args.s.now in
    let l = c.loop-b in
    let f = front s _ _ l.b-index c.split_at.ensures.front (omega arith) in
    c.ended.ensures ∙ rw f (sym (l.invariant.0 ∙ run-ended s l.n l.b-index (omega arith) (rw f at (sym (ascii_digit (get_or c.split_at.result.0.now l.b-index 0)) ∙ (sym c.is_ascii_digit.ensures.value ∙ c.if-not-is_ascii_digit.true)))))

pub overflow_mul-n : goal.overflow_mul-n
overflow_mul-n c = omega (arith, bound c.loop-b.n c.loop-b.b-index c.loop-b.invariant.1 (omega arith))

pub overflow_sub-b : goal.overflow_sub-b
overflow_sub-b c = digit_low _ (sym (ascii_digit _) ∙ (sym c.is_ascii_digit.ensures.value ∙ c.if-not-is_ascii_digit.false))

pub overflow_add-n : goal.overflow_add-n
overflow_add-n c =
    let b : ℕ = get_or c.split_at.result.0.now c.loop-b.b-index 0 in
    let d = sym (ascii_digit b) ∙ (sym c.is_ascii_digit.ensures.value ∙ c.if-not-is_ascii_digit.false) in
    omega (arith, bound c.loop-b.n c.loop-b.b-index c.loop-b.invariant.1 (omega arith), digit-high b d)

pub loop-b-preserved : goal.loop-b-preserved
loop-b-preserved c =
    let s = c.args.s.now in
    let l = c.loop-b in
    let f = front s _ _ l.b-index c.split_at.ensures.front (omega arith) in
    let d = rw f at (sym (ascii_digit (get_or c.split_at.result.0.now l.b-index 0)) ∙ (sym c.is_ascii_digit.ensures.value ∙ c.if-not-is_ascii_digit.false)) in
    let w : c.from.result ≡ get_or s l.b-index 0 - 48 = c.from.ensures ∙ ap (λ (b : ℕ). b - 48) f in (
      l.invariant.0 ∙ run_on s l.n l.b-index (omega arith) (omega arith) d ∙ rw w,
      bound-more l.n c.from.result l.b-index l.invariant.1 (omega (arith, digit-high (get_or s l.b-index 0) d)),
    )

pub returns-in-Some : goal.returns-in-Some
returns-in-Some c =
    let l = c.loop-b in
    let e : l.b-index ≡ c.min.result = omega (arith, c.split_at.ensures.front_len) in
    c.ended-in-Some.ensures
    ∙ sym (l.invariant.0 ∙ ap (λ (i : ℕ). run l.n (11 - i) (drop i c.args.s.now)) e ∙ run_behind c.args.s.now l.n c.min.result _ c.min.ensures (c.in-Some.ensures.value ∙ ap (λ (xs : List ℕ). slice_get xs 0) c.split_at.ensures.back))

pub returns-in-None : goal.returns-in-None
returns-in-None c =
    let l = c.loop-b in
    let e : l.b-index ≡ c.min.result = omega (arith, c.split_at.ensures.front_len) in
    sym (l.invariant.0 ∙ ap (λ (i : ℕ). run l.n (11 - i) (drop i c.args.s.now)) e ∙ run_none_behind l.n (11 - c.min.result) _ (c.in-None.ensures.value ∙ ap (λ (xs : List ℕ). slice_get xs 0) c.split_at.ensures.back))
