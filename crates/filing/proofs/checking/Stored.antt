-- The files and records that the store holds, counted in its list of files. Assumes nothing.
--     already-alike     a file alike is held exactly where one of its kind, publisher and day is listed
--     held-once         no file is held twice exactly where none is listed twice
--     held-count        as many files are held as are listed
--     held-records      the records held of a kind are those of its journal, one after the other
use mathlib.Core.Path.{◌≡◌, refl, sym, ap, ap₂, ◌∙◌}
use mathlib.Core.Bool.{Bool, true, false, cond, not, ◌&&◌, ◌||◌}
use mathlib.Core.List.{List, [], ◌∷◌, ◌++◌, flat_map, append-nil, append_assoc}
use Prim.Native.Nat.{ℕ, zero, suc, ◌+◌}
use native.Mathlib.Nat.{add-zero, add-suc}
use lib.Dec.{eqb}
use lib.ListN.{length}
use borrow.Author.Tests.{eqb-true}
use Rattle.laws.specs.Lists.{table, any, keep, none_twice, total}
use Rattle.laws.proofs.Lists.{keep_append, flat_append}
use Rattle.laws.proofs.Tables.{length-table}
use Rattle.model.specs.Model.{Filed, alike, no_file_twice}
use Rattle.store.specs.journals.Files.{file_at, file_count, files_of, same_file, records_in, records_of}
use Rattle.store.specs.journals.Reads.{records_at, filed_after, filed_in, first_files, read_files}
use Rattle.store.specs.declared.journals.files.File.{File}
use Rattle.store.proofs.journals.Counting.{records-end}
use Rattle.store.proofs.journals.FirstFiles.{filed-end}
use Rattle.filing.specs.entering.Entering.{file_in}
use Rattle.filing.specs.checking.Filing.{stored}

-- ---- files alike
turned : (p d k : Bool) → (p && (d && k)) ≡ (k && (p && d))
turned true true true = refl
turned true true false = refl
turned true false true = refl
turned true false false = refl
turned false d true = refl
turned false d false = refl

alike_same : (f : Filed) (r : ℕ → ℕ → List ℕ) (before : List File) (g : File) → alike f (filed_after r before g) ≡ same_file (file_in f) g
unfolding alike same_file file_in filed_after
alike_same f r before g = turned (eqb f.publisher g.publisher) (eqb f.day g.day) (eqb f.kind g.kind)

alike-any : (f : Filed) (r : ℕ → ℕ → List ℕ) (before fs : List File) → any (alike f) (filed_in r before fs) ≡ any (same_file (file_in f)) fs
unfolding filed_in any
alike-any f r before [] = refl
alike-any f r before (g ∷ fs) = ap₂ ◌||◌ (alike_same f r before g) (alike-any f r (before ++ (g ∷ [])) fs)

pub already-alike : (f : Filed) (files regular corrections : List ℕ) → any (alike f) (read_files files regular corrections) ≡ any (same_file (file_in f)) (files_of files)
unfolding first_files files_of
already-alike f files regular corrections = alike-any f (records_at regular corrections) [] (table (file_count files) (file_at files))

once-listed : (r : ℕ → ℕ → List ℕ) (before fs : List File) → no_file_twice (filed_in r before fs) ≡ none_twice same_file fs
unfolding filed_in no_file_twice none_twice same_file file_in filed_after
once-listed r before [] = refl
once-listed r before (g ∷ fs) = ap₂ (λ (a b : Bool). not a && b) (alike-any (filed_after r before g) r (before ++ (g ∷ [])) fs) (once-listed r (before ++ (g ∷ [])) fs)

pub held-once : (files regular corrections : List ℕ) → no_file_twice (read_files files regular corrections) ≡ none_twice same_file (files_of files)
unfolding first_files files_of
held-once files regular corrections = once-listed (records_at regular corrections) [] (table (file_count files) (file_at files))

-- ---- how many
filed-count : (r : ℕ → ℕ → List ℕ) (before fs : List File) → length (filed_in r before fs) ≡ length fs
unfolding filed_in
filed-count r before [] = refl
filed-count r before (f ∷ fs) = ap suc (filed-count r (before ++ (f ∷ [])) fs)

pub held-count : (files regular corrections : List ℕ) → length (read_files files regular corrections) ≡ file_count files
unfolding first_files
held-count files regular corrections =
    filed-count (records_at regular corrections) [] (table (file_count files) (file_at files)) ∙ length-table (file_count files) (file_at files)

-- ---- the records of a kind
-- one file more
pub stored-end : (kind : ℕ) (files : List Filed) (f : Filed) → stored kind (files ++ (f ∷ [])) ≡ stored kind files ++ cond (eqb f.kind kind) f.records []
unfolding stored keep flat_map
stored-end kind files f =
    ap (flat_map (λ (g : Filed). g.records)) (keep_append (λ (g : Filed). eqb g.kind kind) files (f ∷ []))
    ∙ flat_append (λ (g : Filed). g.records) (keep (λ (g : Filed). eqb g.kind kind) files) (keep (λ (g : Filed). eqb g.kind kind) (f ∷ []))
    ∙ ap (λ (l : List (List ℕ)). flat_map (λ (g : Filed). g.records) (keep (λ (g : Filed). eqb g.kind kind) files) ++ l) (go (eqb f.kind kind))
  where
    go : (t : Bool) → flat_map (λ (g : Filed). g.records) (cond t (f ∷ []) []) ≡ cond t f.records []
    go true = append-nil f.records
    go false = refl

-- a table goes on behind its first m elements
table_on : {A : Type 0} (m n : ℕ) (f : ℕ → A) → table (m + n) f ≡ table m f ++ table n (λ (i : ℕ). f (m + i))
unfolding table
table_on m zero f = ap (λ (k : ℕ). table k f) (add-zero m) ∙ sym (append-nil (table m f))
table_on {A} m (suc n) f =
    ap (λ (k : ℕ). table k f) (add-suc m n)
    ∙ ap (λ (l : List A). l ++ (f (m + n) ∷ [])) (table_on m n f) ∙ append_assoc (table m f) (table n (λ (i : ℕ). f (m + i))) (f (m + n) ∷ [])

-- a file's records go on behind those of the files before it, where it is of the kind
stored_next : (kind : ℕ) (r : ℕ → ℕ → List ℕ) (fs : List File) (f : File)
    → table (records_of kind fs) (r kind) ++ cond (eqb f.kind kind) (table f.count (λ (i : ℕ). r f.kind (records_of f.kind fs + i))) [] ≡ table (records_of kind fs + records_in kind f) (r kind)
unfolding records_in table
stored_next kind r fs f = go (eqb f.kind kind) refl
  where
    go : (t : Bool) → eqb f.kind kind ≡ t
        → table (records_of kind fs) (r kind) ++ cond t (table f.count (λ (i : ℕ). r f.kind (records_of f.kind fs + i))) [] ≡ table (records_of kind fs + cond t f.count 0) (r kind)
    go true e =
        ap (λ (k : ℕ). table (records_of kind fs) (r kind) ++ table f.count (λ (i : ℕ). r k (records_of k fs + i))) (eqb-true f.kind kind e)
        ∙ sym (table_on (records_of kind fs) f.count (r kind))
    go false e = append-nil (table (records_of kind fs) (r kind)) ∙ ap (λ (n : ℕ). table n (r kind)) (sym (add-zero (records_of kind fs)))

stored-step : (kind : ℕ) (r : ℕ → ℕ → List ℕ) (fs : List File) (f : File) → stored kind (filed_in r [] fs) ≡ table (records_of kind fs) (r kind)
    → stored kind (filed_in r [] (fs ++ (f ∷ []))) ≡ table (records_of kind (fs ++ (f ∷ []))) (r kind)
unfolding filed_after
stored-step kind r fs f ih =
    ap (stored kind) (filed-end r [] fs f)
    ∙ stored-end kind (filed_in r [] fs) (filed_after r fs f)
    ∙ ap (λ (l : List (List ℕ)). l ++ cond (eqb f.kind kind) (table f.count (λ (i : ℕ). r f.kind (records_of f.kind fs + i))) []) ih
    ∙ stored_next kind r fs f
    ∙ ap (λ (n : ℕ). table n (r kind)) (sym (records-end kind fs f))

stored-filed : (kind : ℕ) (r : ℕ → ℕ → List ℕ) (n : ℕ) (f : ℕ → File) → stored kind (filed_in r [] (table n f)) ≡ table (records_of kind (table n f)) (r kind)
unfolding table filed_in stored keep flat_map records_of total
stored-filed kind r zero f = refl
stored-filed kind r (suc n) f = stored-step kind r (table n f) (f n) (stored-filed kind r n f)

pub held-records : (kind : ℕ) (files regular corrections : List ℕ) → stored kind (read_files files regular corrections) ≡ table (records_of kind (files_of files)) (records_at regular corrections kind)
unfolding first_files files_of
held-records kind files regular corrections = stored-filed kind (records_at regular corrections) (file_count files) (file_at files)
