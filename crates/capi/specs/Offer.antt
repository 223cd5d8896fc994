-- What filing tells other languages. Assumes nothing: these are definitions.
use Rattle.std.specs.Prelude.{Result}
use Rattle.std.specs.Prelude.{◌≡◌, cond, List, ℕ, eqb, leb}
use Rattle.laws.specs.Told.{value_at}
use Rattle.store.specs.Reads.{Buffers, held}
use Rattle.filing.specs.declared.entering.kind.Filable.{Filable}
use Rattle.filing.specs.declared.entering.kind.Filable.TheVariants.{Default, Correction}
use Rattle.filing.specs.declared.checking.answer.NotFiled.{NotFiled}
use Rattle.filing.specs.checking.Answers.{answer_told}
use Rattle.filing.specs.checking.Filing.{Decision, decide}
use Rattle.filing.specs.Effect.{answer_to, buffers_after}

-- the kinds that are filed by number: 0 default, any other correction
unfoldable pub filable_by : ℕ → Filable
filable_by kind = cond (eqb kind 0) Default Correction

-- a number that is neither 0 nor 1 is no kind that is filed: its file has no day, and is refused with 2
unfoldable pub day_for : ℕ → ℕ → ℕ
day_for kind day = cond (leb kind 1) day 65535

-- what is decided of a file that is offered
abbrev pub decided : Buffers → ℕ → List ℕ → ℕ → List ℕ → Decision
decided b kind publisher day text = decide b (filable_by kind) publisher (day_for kind day) text

-- and what is answered
abbrev pub answered : Buffers → ℕ → List ℕ → ℕ → List ℕ → Result ℕ NotFiled
answered b kind publisher day text = answer_to (held b).files (decided b kind publisher day text)

-- beside the number: the count, or the place of the faulty record, its faulty field and the cause
pub record FilesAs (b : Buffers) (kind : ℕ) (publisher : List ℕ) (day : ℕ) (text : List ℕ) (answer more field cause : ℕ) (after : Buffers) : Type 0 where
  pub answers : answer ≡ (answer_told (answered b kind publisher day text)).number
  pub tells : more ≡ value_at 0 (answer_told (answered b kind publisher day text))
  pub names : field ≡ value_at 1 (answer_told (answered b kind publisher day text))
  pub blames : cause ≡ value_at 2 (answer_told (answered b kind publisher day text))
  pub leaves : after ≡ buffers_after b (decided b kind publisher day text)
