-- An entry in 100 bytes, as other languages get it. Assumes nothing: these are definitions.
use Rattle.std.specs.Prelude.{Result}
use Rattle.std.specs.Prelude.{◌≡◌, cond, List, ℕ, eqb, leb, length}
use Rattle.laws.specs.Overlay.{overlay}
use Rattle.entries.specs.declared.entry.Entry.{Entry}
use Rattle.asking.specs.declared.answer.NotShown.{NotShown}
use Rattle.asking.specs.Numbers.{entry_told}

-- 41 where an entry is to be shown and there is no room for it
unfoldable pub shown_number : Result Entry NotShown → ℕ → ℕ
shown_number a room = cond (eqb (entry_told a).number 0) (cond (leb 100 room) 0 41) (entry_told a).number

-- only 0 writes: the values that are told with it
unfoldable pub shown_into : Result Entry NotShown → List ℕ → List ℕ
shown_into a out = cond (eqb (shown_number a (length out)) 0) (overlay out 0 (entry_told a).values) out

pub record ShowsEntry (a : Result Entry NotShown) (before : List ℕ) (answer : ℕ) (after : List ℕ) : Type 0 where
  pub answers : answer ≡ shown_number a (length before)
  pub leaves : after ≡ shown_into a before
