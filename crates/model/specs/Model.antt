-- The files, the history of a number, the store, and how a file is filed into it, for any rules. Read this file once: the promises are about these
-- definitions. Assumes nothing: these are definitions.
use Rattle.std.specs.Prelude.{Option, Some, None}
use Rattle.std.specs.Prelude.{ℕ, ◌≡◌, Bool, true, false, cond, not, ◌&&◌, eqb, length, get_or, take}
use mathlib.Core.List.{List, [], ◌∷◌, ◌++◌, map, flat_map, zip_with, foldl}
use Rattle.laws.specs.Lists.{table, keep, any, distinct}
use Rattle.laws.specs.Order.{in_order, not_after}
use Rattle.model.specs.Rules.{Line, Event, Rules}

-- ---- files and journals

-- a file: its kind, publisher, publication day, and its records, each the bytes as published
pub record Filed : Type 0 where
  pub kind : ℕ
  pub publisher : ℕ
  pub day : ℕ
  pub records : List (List ℕ)

-- the record at a place of a file, counted from 0
abbrev pub event_at : Filed → ℕ → Event
event_at f i = record { kind = f.kind; publisher = f.publisher; day = f.day; place = i; bytes = get_or f.records i [] }

-- the records of a file, place by place
unfoldable pub events : Filed → List Event
events f = table (length f.records) (event_at f)

-- the records of all files, file by file
unfoldable pub journal : List Filed → List Event
journal files = flat_map events files

-- those of the files of one kind: the regular journal is that of the default files, the correction journal that of the correction files
unfoldable pub journal_of : ℕ → List Filed → List Event
journal_of kind files = journal (keep (λ (f : Filed). eqb f.kind kind) files)

-- the same publisher, day and kind
unfoldable pub alike : Filed → Filed → Bool
alike f g = eqb f.publisher g.publisher && (eqb f.day g.day && eqb f.kind g.kind)

-- no file is alike one behind it
unfoldable pub no_file_twice : List Filed → Bool
no_file_twice [] = true
no_file_twice (f ∷ fs) = not (any (alike f) fs) && no_file_twice fs

-- ---- the history of a number, the entry that it leads to, the verdicts on the way

module _ (R : Rules) where
  -- the number that a record names
  abbrev pub number_of : Event → R.Number
  number_of e = R.names e.kind e.bytes

  -- whether a record names the number
  unfoldable pub about : R.Number → Event → Bool
  about n e = R.same (number_of e) n

  -- whether Some record of the file does
  unfoldable pub named : Filed → R.Number → Bool
  named f n = any (about n) (events f)

  -- the processing order: by publication day; on one day by class; within each class by publisher, then by place in the file
  abbrev pub key : Event → List ℕ
  key e = e.day ∷ R.class e.kind e.bytes ∷ e.publisher ∷ e.place ∷ []

  -- e is processed before d, or has the same place in the processing order
  abbrev pub not_later : Event → Event → Bool
  not_later e d = not_after (key e) (key d)

  -- the records that name the number, in processing order
  unfoldable pub history : List Filed → R.Number → List Event
  history files n = in_order not_later (keep (about n) (journal files))

  -- the entry that records lead to, processed one after the other: from Some entry on, and from the first one on
  abbrev pub worked_from : Line R → R.Entry → List Event → R.Entry
  worked_from line = foldl (R.step line)

  abbrev pub worked : Line R → List Event → R.Entry
  worked line = worked_from line (R.first line)

  -- the entry of a line, worked out afresh from these files
  unfoldable pub entry_over : List Filed → Line R → R.Entry
  entry_over files line = worked line (history files line.number)

  -- of these records, those that are processed before e
  unfoldable pub before : Event → List Event → List Event
  before e = keep (λ (d : Event). not (not_later e d))

  -- the verdict on a record that names the line's number: on the entry at its point of the history, not on the newest one
  unfoldable pub verdict_over : List Filed → Line R → Event → ℕ
  verdict_over files line e = R.verdict line (worked line (before e (history files line.number))) e

  -- the count of answer 0: the records of these files, the new one among them, whose number is named by Some record of the new file
  unfoldable pub count_of : List Filed → Filed → ℕ
  count_of files f = length (keep (λ (e : Event). named f (number_of e)) (journal files))

  -- the numbers that a file names, each once
  unfoldable pub numbers_of : Filed → List R.Number
  numbers_of f = distinct R.same (map number_of (events f))

-- ---- the store: the number table, the files in order of arrival, and beside each line of the table its entry

pub record Store (R : Rules) : Type 0 where
  pub lines : List (Line R)
  pub files : List Filed
  pub entries : List R.Entry

module _ (R : Rules) where
  -- starting: the given table, no file, first entries
  unfoldable pub started : List (Line R) → Store R
  started lines = record { lines = lines; files = []; entries = map R.first lines }

  -- a line's entry after one more file: worked out afresh if the file names its number, else as it was
  abbrev pub renewed : List Filed → Filed → Line R → R.Entry → R.Entry
  renewed files f line entry = cond (named R f line.number) (entry_over R (files ++ (f ∷ [])) line) entry

  -- filing: the file comes behind the others, and each entry is renewed
  unfoldable pub filed : Store R → Filed → Store R
  filed s f = record {
    lines = s.lines;
    files = s.files ++ (f ∷ []);
    entries = zip_with (renewed s.files f) s.lines s.entries;
  }

  -- the stores that starting and filing lead to, where no file is filed that is alike a filed one
  pub data Reached : Store R → Type 0 where
    start : (lines : List (Line R)) → Reached (started lines)
    file : {s : Store R} → Reached s → (f : Filed) → any (alike f) s.files ≡ false → Reached (filed s f)

  -- the stores that filing more leads to
  pub data Later (s : Store R) : Store R → Type 0 where
    now : Later s s
    then : {t : Store R} → Later s t → (f : Filed) → Later s (filed t f)

  -- ---- what a store is asked

  -- the line of a number, and the entry beside that line
  unfoldable pub line_of : List (Line R) → R.Number → Option (Line R)
  line_of [] n = None
  line_of (l ∷ ls) n = cond (R.same l.number n) (Some l) (line_of ls n)

  unfoldable pub entry_of : List (Line R) → List R.Entry → R.Number → Option R.Entry
  entry_of [] es n = None
  entry_of (l ∷ ls) [] n = None
  entry_of (l ∷ ls) (e ∷ es) n = cond (R.same l.number n) (Some e) (entry_of ls es n)

  -- the verdict on a record, given the line of its number or that there is None
  unfoldable pub judged : List Filed → Event → Option (Line R) → ℕ
  judged files e None = R.unknown e
  judged files e (Some line) = verdict_over R files line e

  unfoldable pub verdict_of : Store R → Event → ℕ
  verdict_of s e = judged s.files e (line_of s.lines (number_of R e))

  -- the entries before the file at n arrived: those that the first n files lead to
  unfoldable pub entries_before : Store R → ℕ → List R.Entry
  entries_before s n = map (entry_over R (take n s.files)) s.lines
