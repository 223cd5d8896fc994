-- What asking tells other languages. Assumes nothing: these are definitions.
use Rattle.std.specs.Prelude.{Option, Result}
use Rattle.std.specs.Prelude.{◌≡◌, cond, ℕ, eqb}
use Rattle.laws.specs.Told.{value_or, value_at}
use Rattle.store.specs.declared.journals.records.Journal.{Journal}
use Rattle.store.specs.declared.journals.records.Journal.TheVariants.{Regular, Correction}
use Rattle.asking.specs.declared.answer.NotShown.{NotShown}
use Rattle.asking.specs.declared.answer.NoRecord.{NoRecord}
use Rattle.asking.specs.declared.pairs.Pair.{Pair}
use Rattle.asking.specs.declared.record.ShownRecord.{ShownRecord}
use Rattle.asking.specs.Numbers.{why_told, asked_told}
use Rattle.asking.specs.declared.answer.Unreadable.{Unreadable}
use Rattle.asking.specs.answering.Figure.{figure_told}

-- the journals by number: 0 the regular one, any other the correction journal
unfoldable pub journal_by : ℕ → Journal
journal_by n = cond (eqb n 0) Regular Correction

-- ---- why: the places of the pair in the regular journal; where no pair is shown, each is beyond all reports, since 0 is a place
abbrev pub nowhere : ℕ
nowhere = 8192

pub record TellsWhy (right : Result (Option Pair) NotShown) (answer one two : ℕ) : Type 0 where
  pub answers : answer ≡ (why_told right).number
  pub first : one ≡ value_or nowhere 0 (why_told right)
  pub second : two ≡ value_or nowhere 1 (why_told right)

-- ---- a record: 0 for each part where none is shown
pub record TellsRecord (right : Result ShownRecord NoRecord) (answer publisher day place verdict : ℕ) : Type 0 where
  pub answers : answer ≡ (asked_told right).number
  pub by : publisher ≡ value_at 0 (asked_told right)
  pub on : day ≡ value_at 1 (asked_told right)
  pub at : place ≡ value_at 2 (asked_told right)
  pub gets : verdict ≡ value_at 3 (asked_told right)

-- ---- the figure
pub record TellsFigure (right : Result ℕ Unreadable) (answer more : ℕ) : Type 0 where
  pub answers : answer ≡ (figure_told right).number
  pub differ : more ≡ value_at 0 (figure_told right)
