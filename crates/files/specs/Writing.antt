-- Files written from plain words. Assumes nothing: these are definitions.
use Rattle.std.specs.Prelude.{Result, Ok, Err}
use Rattle.records.specs.declared.names.written.NotWritten.{NotWritten}
use Rattle.std.specs.Prelude.{ℕ, zero, suc, ◌+◌, Bool, cond, not, List, [], ◌∷◌, ◌++◌, map, leb, length, take, drop}
use Rattle.laws.specs.Lists.{all, first_at}
use Rattle.laws.specs.Ended.{ended}
use Rattle.records.specs.closing.Closing.{closing_text}
use Rattle.records.specs.declared.names.kind.FileKind.{FileKind}
use Rattle.records.specs.names.Kind.{has_closing}
use Rattle.records.specs.Record.{width_of, fits, text_of}

-- words in groups of w; the last group has what is left. There are no more groups than `most`
unfoldable pub groups_to : ℕ → ℕ → List ℕ → List (List ℕ)
groups_to zero w words = []
groups_to (suc most) w [] = []
groups_to (suc most) w (x ∷ words) = take w (x ∷ words) ∷ groups_to most w (drop w (x ∷ words))

unfoldable pub groups : ℕ → List ℕ → List (List ℕ)
groups w words = groups_to (length words) w words

-- the words of each record
abbrev pub values_in : FileKind → List ℕ → List (List ℕ)
values_in kind words = groups (width_of kind) words

unfoldable pub unfit : FileKind → List ℕ → Bool
unfit kind values = not (fits kind values)

-- so many records that the layouts can hold, or a record that they can't hold, at a place
pub data Holding : Type 0 where
  Records : ℕ → Holding
  Fault : ℕ → Holding

unfoldable pub held_all : FileKind → List (List ℕ) → Holding
held_all kind vs = cond (all (fits kind) vs) (Records (length vs)) (Fault (first_at (unfit kind) vs))

-- a file of one record has no place for none, nor for a second
unfoldable pub held_one : FileKind → List (List ℕ) → Holding
held_one kind [] = Fault 0
held_one kind (v ∷ []) = cond (fits kind v) (Records 1) (Fault 0)
held_one kind (v ∷ w ∷ vs) = cond (fits kind v) (Fault 1) (Fault 0)

unfoldable pub held : FileKind → List (List ℕ) → Holding
held kind vs = cond (has_closing kind) (held_all kind vs) (held_one kind vs)

-- the lines of a file with these records
unfoldable pub lines_of : FileKind → List (List ℕ) → List (List ℕ)
lines_of kind texts = cond (has_closing kind) (texts ++ (closing_text (length texts + 1) ∷ [])) texts

-- the file: each line with its CR
unfoldable pub file_text : FileKind → List (List ℕ) → List ℕ
file_text kind texts = ended 13 (lines_of kind texts)

unfoldable pub file_of : FileKind → List ℕ → List ℕ
file_of kind words = file_text kind (map (text_of kind) (values_in kind words))

-- what the writer answers, to a buffer of `room` bytes: 4 first, then 41
abbrev pub answer_to : Holding → List ℕ → ℕ → Result ℕ NotWritten
answer_to (Fault i) text room = Err (NotWritten.Fault i)
answer_to (Records n) text room = cond (leb (length text) room) (Ok (length text)) (Err NotWritten.Long)

unfoldable pub file_answer : FileKind → List ℕ → ℕ → Result ℕ NotWritten
file_answer kind words room = answer_to (held kind (values_in kind words)) (file_of kind words) room
