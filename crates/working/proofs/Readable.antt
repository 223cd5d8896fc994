-- Buffers that read as a store give what working out asks of the first files. Assumes nothing.
use mathlib.Core.Path.{◌≡◌, sym, ap, ◌∙◌}
use mathlib.Core.Bool.{true}
use mathlib.Core.List.{List}
use Prim.Native.Nat.{ℕ, ◌≤◌}
use native.Mathlib.Omega.{arith}
use Rattle.laws.specs.Lists.{table, all}
use Rattle.laws.proofs.Tables.{length-table, get_or-table, all-at, all-each}
use Rattle.store.specs.journals.Files.{file_at, file_count, files_of, good_file}
use Rattle.store.specs.Reads.{lent, is_readable}
use Rattle.store.proofs.Checks.{few-files, few-reports, few-corrections, long}
use Rattle.store.proofs.Whole.{whole_long, whole-files, files-good}
use Rattle.working.specs.Working.{Sound}
use Rattle.working.proofs.SlipLaws.{records-grow}

-- what holds of each of all files holds of each of the first n
first_good : (n m : ℕ) (files : List ℕ) → n ≤ m → all good_file (table m (file_at files)) ≡ true → all good_file (table n (file_at files)) ≡ true
first_good n m files h e =
    all-each good_file n (file_at files)
    (λ i b. ap good_file (sym (get_or-table m i (file_at files) (file_at files i) (omega arith)))
    ∙ all-at good_file (table m (file_at files)) i (file_at files i) e (omega (arith, length-table m (file_at files))))

pub readable-sound : (t f r c e : List ℕ) (n : ℕ) → is_readable (lent t f r c e) ≡ true → n ≤ file_count f → Sound n f r c
unfolding files_of
readable-sound t f r c e n whole h =
    let good = whole-files (lent t f r c e) whole in
    let room = long (lent t f r c e) (whole_long (lent t f r c e) whole) in
    let few = few-files f good in record {
      listed = omega (arith, room.long-files);
      few = omega arith;
      filed = h;
      good = first_good n (file_count f) f h (files-good f good);
      reports = omega (arith, records-grow 0 n (file_count f) (file_at f) h, few-reports f good);
      objections = omega (arith, records-grow 1 n (file_count f) (file_at f) h, few-corrections f good);
      regular_room = room.long-regular;
      correction_room = room.long-corrections;
    }
