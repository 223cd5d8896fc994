-- `text::read_digits` meets its contract. Assumes nothing.
use Prim.Native.Nat.{ℕ}
use mathlib.Core.Path.{◌≡◌, refl, ap, ◌∙◌}
use mathlib.Core.Bool.{Bool, true, false, cond}
use mir.Val.{bool_byte}
use borrow.Author.Tests.{lt-leb, le-leb}
use Rattle.text.specs.Spelt.{spells, digits_of}
use Rattle.text.proofs.read_digits.Goals as goal

lead-byte : (b : Bool) → bool_byte b ≡ cond b 1 0
lead-byte true = refl
lead-byte false = refl

pub returns-then-f-gt18 : goal.returns-then-f-gt18
unfolding digits_of
returns-then-f-gt18 c = simp (lt-leb _ _ c.if-f-gt18.true)

pub returns : goal.returns
unfolding digits_of
returns c =
    simp (le-leb _ _ c.if-f-gt18.false) (c.spell.ensures ∙ ap (λ (n : ℕ). spells n c.args.f.now) (c.from.ensures ∙ lead-byte c.args.lead))
