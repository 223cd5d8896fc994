-- The file that came last, as the code finds it in the list of files. Assumes nothing.
use mathlib.Core.Path.{◌≡◌, sym, ap, ◌∙◌}
use mathlib.Core.List.{List, [], ◌∷◌, ◌++◌}
use Prim.Native.Nat.{ℕ, suc, ◌+◌, ◌-◌, ◌<◌}
use native.Mathlib.Omega.{arith}
use lib.ListN.{length, take, length-append}
use lib.Seq.{get_or_at}
use Rattle.laws.specs.Lists.{table}
use Rattle.model.specs.Model.{Filed}
use Rattle.store.specs.journals.Files.{file_at, file_count, records_of}
use Rattle.store.specs.declared.journals.files.File.{File}
use Rattle.store.specs.journals.Reads.{records_at, filed_after, filed_in, first_files, read_files}
use Rattle.store.proofs.journals.FirstFiles.{filed-end, first-of-all}
use Rattle.filing.specs.fitting.Renewing.{last_filed}
use Rattle.filing.specs.renewing.Turns.{filed_from}

-- one file behind others is the last
pub last_end : (fs : List Filed) (f : Filed) → last_filed (fs ++ (f ∷ [])) ≡ f
unfolding last_filed
last_end fs f =
    let n : length fs ≡ length (fs ++ (f ∷ [])) - 1 = omega (arith, length-append fs (f ∷ [])) in
    get_or_at fs f [] (record { kind = 0; publisher = 0; day = 0; records = [] }) (length (fs ++ (f ∷ [])) - 1) n

last_of : (r : ℕ → ℕ → List ℕ) (file : ℕ → File) (n m : ℕ) → n ≡ suc m → last_filed (filed_in r [] (table n file)) ≡ filed_from r (file m) (records_of (file m).kind (table m file))
unfolding table filed_from filed_after
last_of r file n m e =
    ap (λ (k : ℕ). last_filed (filed_in r [] (table k file))) e ∙ ap last_filed (filed-end r [] (table m file) (file m))
    ∙ last_end (filed_in r [] (table m file)) (filed_after r (table m file) (file m))

module _ (files regular corrections : List ℕ) where
  pub last-read : (f : File) (start m : ℕ) → 0 < file_count files → m + 1 ≡ file_count files → f ≡ file_at files m → start ≡ records_of f.kind (table m (file_at files))
      → last_filed (read_files files regular corrections) ≡ filed_from (records_at regular corrections) f start
  unfolding first_files
  last-read f start m h n e q =
      rw (q, e) (last_of (records_at regular corrections) (file_at files) (file_count files) m (omega arith))

  -- as many files as there are, are all
  pub all-files : (n : ℕ) → n ≡ file_count files → take n (read_files files regular corrections) ≡ read_files files regular corrections
  all-files n e =
      ap (λ (k : ℕ). take k (read_files files regular corrections)) e ∙ sym (first-of-all (file_count files) files regular corrections (omega arith))
