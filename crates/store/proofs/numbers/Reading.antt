-- A line's slot reads as the line, and what the code reads is that line. Assumes nothing.
use mathlib.Core.Path.{◌≡◌, refl, sym, ap, ◌∙◌}
use mathlib.Core.List.{List, [], ◌++◌}
use Prim.Native.Nat.{ℕ, ◌+◌, ◌*◌, ◌<◌}
use native.Mathlib.Nat.{add-zero}
use lib.Dec.{lit≤}
use lib.ListN.{length}
use Rattle.laws.specs.Overlay.{part}
use Rattle.laws.specs.Slots.{slot_at}
use Rattle.laws.specs.Words.{low_first, word_at}
use Rattle.laws.proofs.Words.{word_first, word_next, word-part}
use Rattle.store.specs.numbers.Lines.{line_slot, line_of, line_at}
use Rattle.store.specs.declared.numbers.lines.Line.{Line}

-- the values that a slot has room for
pub record Roomy (l : Line) : Type 0 where
  pub first_fits : l.number.first.0 < 1099511627776
  pub last_fits : l.number.last.0 < 1099511627776
  pub owner-fits : l.owner.0 < 65536
  pub setup-fits : l.setup.0 < 65536

pub length-line : (l : Line) → length (line_slot l) ≡ 14
unfolding line_slot low_first
length-line l = refl

-- what stands behind the first field, the last, the owner
abbrev dated : Line → List ℕ
dated l = low_first 2 l.setup.0 ++ []

abbrev owned : Line → List ℕ
owned l = low_first 2 l.owner.0 ++ dated l

abbrev ended : Line → List ℕ
ended l = low_first 5 l.number.last.0 ++ owned l

pub line-back : (l : Line) → Roomy l → line_of (line_slot l) ≡ l
unfolding line_of line_slot
line-back l r =
    let f = word_first 5 l.number.first.0 (ended l) r.first_fits in
    let e = word_next 5 5 l.number.first.0 0 (ended l) ∙ word_first 5 l.number.last.0 (owned l) r.last_fits in
    let o = word_next 2 5 l.number.first.0 5 (ended l) ∙ word_next 2 5 l.number.last.0 0 (owned l) ∙ word_first 2 l.owner.0 (dated l) r.owner-fits in
    let d = word_next 2 5 l.number.first.0 7 (ended l)
    ∙ word_next 2 5 l.number.last.0 2 (owned l)
    ∙ word_next 2 2 l.owner.0 0 (dated l)
    ∙ word_first 2 l.setup.0 [] r.setup-fits in
    λ i. record { number = record { first = record { 0 = f i }; last = record { 0 = e i } }; owner = record { 0 = o i }; setup = record { 0 = d i } }

-- ---- what the code reads
pub line_read : (lines : List ℕ) (k a b c d : ℕ) → a ≡ word_at 5 lines (2 + k * 14) → b ≡ word_at 5 lines (2 + k * 14 + 5)
    → c ≡ word_at 2 lines (2 + k * 14 + 10) → d ≡ word_at 2 lines (2 + k * 14 + 12)
    → ◌≡◌ {A = Line} (record { number = record { first = record { 0 = a }; last = record { 0 = b } }; owner = record { 0 = c }; setup = record { 0 = d } }) (line_at lines k)
unfolding line_at line_of slot_at
line_read lines k a b c d ea eb ec ed =
    let at : ℕ = 2 + k * 14 in
    let f : a ≡ word_at 5 (part lines at 14) 0 = ea ∙ sym (word-part 5 lines at 14 0 (lit≤ tt) ∙ ap (word_at 5 lines) (add-zero at)) in
    let e : b ≡ word_at 5 (part lines at 14) 5 = eb ∙ sym (word-part 5 lines at 14 5 (lit≤ tt)) in
    let o : c ≡ word_at 2 (part lines at 14) 10 = ec ∙ sym (word-part 2 lines at 14 10 (lit≤ tt)) in
    let s : d ≡ word_at 2 (part lines at 14) 12 = ed ∙ sym (word-part 2 lines at 14 12 (lit≤ tt)) in
    λ i. record { number = record { first = record { 0 = f i }; last = record { 0 = e i } }; owner = record { 0 = o i }; setup = record { 0 = s i } }
