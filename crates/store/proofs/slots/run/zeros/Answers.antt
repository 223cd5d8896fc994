-- `store::slots::run::zeros` meets its contract: its words, and what is left of its bytes. Assumes nothing.
use Prim.Native.Nat.{ℕ, ◌*◌, ◌/◌}
use mathlib.Core.Path.{◌≡◌, refl, sym, ap, ◌∙◌}
use mathlib.Core.Bool.{Bool, ◌&&◌}
use mathlib.Core.List.{List}
use lib.Dec.{eqb}
use lib.ListN.{length, drop}
use Rattle.std.specs.List.{list_all}
use Rattle.std.specs.Simd.{first_chunks}
use Rattle.laws.specs.Lists.{all}
use Rattle.laws.specs.Slots.{is_zero}
use Rattle.store.proofs.slots.Zeros.{word_zero, zeros_by_words}
use Rattle.store.proofs.slots.run.zeros.Goals as goal

-- the two tests, each of its own part
both : (words : List (List ℕ)) (rest s : List ℕ) (w r : Bool) → w ≡ list_all word_zero words → r ≡ list_all (λ b. eqb b 0) rest → words ≡ first_chunks 8 (length s / 8) s → rest ≡ drop (length s / 8 * 8) s → (w && r) ≡ all is_zero s
both words rest s w r e z front back = rw (e, z, front, back) (zeros_by_words s)

pub returns-then-words_zero : goal.returns-then-words_zero
returns-then-words_zero c =
    let parts = c.as_chunks.result in
    ap (λ (b : Bool). b && c.each_zero.result) (sym c.if-words_zero.true)
    ∙ both parts.0.now parts.1.now c.args.s.now c.words_zero.result c.each_zero.result c.words_zero.ensures c.each_zero.ensures c.as_chunks.ensures.front c.as_chunks.ensures.back

pub returns-else-words_zero : goal.returns-else-words_zero
returns-else-words_zero c =
    let parts = c.as_chunks.result in
    let left = list_all (λ b. eqb b 0) parts.1.now in
    c.if-words_zero.false
    ∙ ap (λ (b : Bool). b && left) (sym c.if-words_zero.false)
    ∙ both parts.0.now parts.1.now c.args.s.now c.words_zero.result left c.words_zero.ensures refl c.as_chunks.ensures.front c.as_chunks.ensures.back
