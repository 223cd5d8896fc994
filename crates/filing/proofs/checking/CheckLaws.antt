-- What the checks come to, as the code finds out. Assumes nothing.
--     used-fits, room-left, room-none     whether there is room
--     day-outside, day-alike, day-new     the day, then the files alike
use Rattle.filing.specs.declared.checking.answer.NotFiled.{NotFiled}
use Rattle.std.specs.Prelude.{Err}
use Rattle.std.specs.Prelude.{Result}
use Rattle.files.specs.declared.judge.Fault.{Fault}
use mathlib.Core.Path.{◌≡◌, sym, ap, ◌∙◌}
use mathlib.Core.Logic.{⊎_elim}
use mathlib.Core.Bool.{Bool, true, false}
use mathlib.Core.List.{List}
use Prim.Native.Nat.{ℕ, ◌+◌, ◌-◌, ◌≤◌, ◌<◌}
use native.Mathlib.Omega.{arith}
use lib.Dec.{leb}
use borrow.Author.Tests.{lt-ltb, le-ltb, le-leb, lt-leb}
use Rattle.laws.specs.Lists.{table, any}
use Rattle.laws.proofs.Tests.{le-or-lt}
use Rattle.calendar.specs.Dates.{in_calendar}
use Rattle.fields.specs.declared.code.Code.{Code}
use Rattle.store.specs.journals.Files.{file_at, file_count, files_of, same_file, records_of}
use Rattle.store.specs.Reads.{good_files}
use Rattle.store.proofs.Checks.{few-reports, few-corrections, counted}
use Rattle.filing.specs.declared.entering.kind.Filable.{Filable}
use Rattle.filing.specs.declared.entering.kind.Filable.TheVariants.{Default, Correction}
use Rattle.filing.specs.entering.Entering.{kind_number, most}
use Rattle.filing.specs.declared.checking.answer.NotFiled.TheVariants.{NoDay, FiledAlready}
use Rattle.filing.specs.checking.Checks.{has_room, text_checked, sought, day_checked}
use Rattle.store.specs.declared.journals.files.File.{File}
use Rattle.std.specs.List.{list_any, range_with_len}
use Rattle.store.proofs.Ranges.{any_of_table}

-- the files, one by one, as std's iterators go through them
pub any_in_files : (p : File → Bool) (files : List ℕ) → list_any (λ k. p (file_at files k)) (range_with_len 0 (file_count files)) ≡ any p (files_of files)
unfolding files_of
any_in_files p files = any_of_table (file_at files) p (file_count files)

-- ---- the room

-- what is left of a limit
left : (used m limit : ℕ) → used ≤ limit → leb m (limit - used) ≡ leb (used + m) limit
left used m limit h =
    ⊎_elim
    (λ (g : used + m ≤ limit). rw (le-leb m (limit - used) (omega arith), le-leb (used + m) limit g))
    (λ (g : limit < used + m). rw (lt-leb m (limit - used) (omega arith), lt-leb (used + m) limit g))
    (le-or-lt (used + m) limit)

-- the records of a kind in a well formed list of files keep to their limit
pub used-most : (f : List ℕ) → good_files f ≡ true → (kind : Filable) → records_of (kind_number kind) (files_of f) ≤ most kind
used-most f e Default = few-reports f e
used-most f e Correction = few-corrections f e

module _ (f : List ℕ) (e : good_files f ≡ true) (kind : Filable) (n used : ℕ) (p : n ≡ file_count f) (q : used ≡ records_of (kind_number kind) (table n (file_at f))) where
  used_all : used ≡ records_of (kind_number kind) (files_of f)
  used_all = q ∙ counted f n p (kind_number kind)

  pub used-fits : used ≤ most kind
  used-fits = omega (arith, used_all, used-most f e kind)

  pub room-left : (m : ℕ) → n < 1024 → leb m (most kind - used) ≡ has_room f kind m
  unfolding has_room
  room-left m h = left used m (most kind) used-fits ∙ rw (← p, ← used_all, lt-ltb n 1024 h)

-- no slot for one more file
pub room-none : (f : List ℕ) (kind : Filable) (n m : ℕ) → n ≡ file_count f → 1024 ≤ n → false ≡ has_room f kind m
unfolding has_room
room-none f kind n m p h = rw (← p, le-ltb n 1024 h)

-- ---- the day, then the files alike
module _ (files : List ℕ) (kind : Filable) (c : Code) (day : ℕ) (text : Result ℕ Fault) where
  pub day-outside : in_calendar day ≡ false → Err NoDay ≡ day_checked files kind c day text
  unfolding day_checked
  day-outside e = rw e

  -- what a search among the files found, for the number k of the kind
  module _ (e : in_calendar day ≡ true) (k : ℕ) (p : k ≡ kind_number kind) (found : Bool) (q : found ≡ any (same_file (record { kind = k; publisher = c.0; day = day; count = 0 })) (files_of files)) where
    alike : any (same_file (sought kind c.0 day)) (files_of files) ≡ found
    alike = sym (q ∙ ap (λ (n : ℕ). any (same_file (record { kind = n; publisher = c.0; day = day; count = 0 })) (files_of files)) p)

    pub day-alike : found ≡ true → Err FiledAlready ≡ day_checked files kind c day text
    unfolding day_checked
    day-alike t = rw (e, alike, t)

    pub day-new : found ≡ false → (r : Result (Code × ℕ) NotFiled) → r ≡ text_checked (has_room files kind) c text → r ≡ day_checked files kind c day text
    unfolding day_checked
    day-new t r s = rw (e, alike, t) s
