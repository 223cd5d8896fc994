-- How a command ends: all was done, something was refused, or the command line, a file or the system is at fault.
-- Assumes nothing: these are definitions.
use Rattle.files.specs.declared.judge.Fault.{Fault as FileFault}
use Rattle.std.specs.Prelude.{◌≡◌, true, ◌⊎◌, List, ℕ, Result, Ok, Err, OnOk}
use Rattle.desk.specs.declared.failure.Failure.{Failure}
use Rattle.desk.specs.declared.failure.Failure.TheVariants.{Refused, Fault}
use Rattle.store.specs.Reads.{Buffers, is_readable}
use Rattle.starting.specs.declared.start.NotStarted.{NotStarted}
use Rattle.starting.specs.declared.start.NotStarted.TheVariants.{Short, BadTable}
use Rattle.starting.specs.Start.{start_answer, start_buffers}

abbrev pub Ended : Type 0
Ended = Result (Unit {0}) Failure

-- as it should be, or with the fault where the answer can't be written or kept
abbrev pub Ends : Ended → Ended → Type 0
Ends ended r = (r ≡ ended) ⊎ (r ≡ Err Fault)

-- it goes on only where the buffers read as a store
abbrev pub Opens : Ended → Buffers → Type 0
Opens r b = OnOk r (is_readable b ≡ true)

-- of a file that is read, by what it was judged to be
abbrev pub read_status : Result ℕ FileFault → Ended
read_status (Ok n) = Ok tt
read_status (Err fault) = Err Refused

-- of starting, by what it answers
abbrev pub start_status : Result ℕ NotStarted → Ended
start_status (Ok n) = Ok tt
start_status (Err Short) = Err Refused
start_status (Err BadTable) = Err Refused

pub record StartsBy (text : List ℕ) (before : Buffers) (ended : Ended) (after : Buffers) : Type 0 where
  pub ends : Ends (start_status (start_answer text before)) ended
  pub leaves : after ≡ start_buffers text before
