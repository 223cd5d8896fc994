-- The first files are the first of all files, and one file more comes behind the others. Assumes nothing.
use mathlib.Core.Path.{◌≡◌, refl, sym, ap, ◌∙◌}
use mathlib.Core.List.{List, [], ◌∷◌, ◌++◌, append_assoc, append-nil}
use Prim.Native.Nat.{ℕ, zero, suc, ◌≤◌}
use lib.ListN.{take}
use Rattle.laws.specs.Lists.{table}
use Rattle.laws.proofs.Tables.{take-table}
use Rattle.model.specs.Model.{Filed}
use Rattle.store.specs.journals.Files.{file_at, file_count}
use Rattle.store.specs.declared.journals.files.File.{File}
use Rattle.store.specs.journals.Reads.{records_at, filed_after, filed_in, first_files, read_files}

-- one file more
pub filed-end : (r : ℕ → ℕ → List ℕ) (before fs : List File) (f : File) → filed_in r before (fs ++ (f ∷ [])) ≡ filed_in r before fs ++ (filed_after r (before ++ fs) f ∷ [])
unfolding filed_in
filed-end r before [] f = rw (append-nil before)
filed-end r before (g ∷ fs) f =
    ap (λ (l : List Filed). filed_after r before g ∷ l)
    (filed-end r (before ++ (g ∷ [])) fs f
    ∙ ap (λ (b : List File). filed_in r (before ++ (g ∷ [])) fs ++ (filed_after r b f ∷ [])) (append_assoc before (g ∷ []) fs))

filed-first : (r : ℕ → ℕ → List ℕ) (before fs : List File) (n : ℕ) → filed_in r before (take n fs) ≡ take n (filed_in r before fs)
unfolding filed_in
filed-first r before fs zero = refl
filed-first r before [] (suc n) = refl
filed-first r before (f ∷ fs) (suc n) = ap (λ (l : List Filed). filed_after r before f ∷ l) (filed-first r (before ++ (f ∷ [])) fs n)

-- the first n files are the first n of all: what is worked out over them is what the entries were before the file n arrived
pub first-of-all : (n : ℕ) (files regular corrections : List ℕ) → n ≤ file_count files → first_files n files regular corrections ≡ take n (read_files files regular corrections)
unfolding first_files
first-of-all n files regular corrections h =
    ap (filed_in (records_at regular corrections) []) (sym (take-table n (file_count files) (file_at files) h))
    ∙ filed-first (records_at regular corrections) [] (table (file_count files) (file_at files)) n
