-- One file more in the list of files. Assumes nothing.
--     files-more      the list has the old files, and behind them the new one
--     listed_more     it is as well formed as the old list was, where the new file is in range, new and has room
--     filed-more      so the model's files are the old ones, and behind them the new one
use mathlib.Core.Path.{◌≡◌, refl, ap, ap₂, ◌∙◌}
use mathlib.Core.Bool.{Bool, true, false, not, ◌&&◌, ◌||◌}
use mathlib.Core.List.{List, [], ◌∷◌, ◌++◌, append_assoc}
use Prim.Native.Nat.{ℕ, ◌+◌, ◌*◌, ◌≤◌, ◌<◌}
use native.Mathlib.Omega.{arith}
use borrow.Author.Tests.{le-leb}
use lib.Dec.{leb}
use lib.ListN.{length, get_or}
use Rattle.laws.specs.Lists.{table, any, all, none_twice, total}
use Rattle.laws.specs.Overlay.{overlay}
use Rattle.laws.specs.Words.{low_first}
use Rattle.laws.proofs.Lists.{total-append}
use Rattle.laws.proofs.Overlay.{length-overlay}
use Rattle.laws.proofs.Tables.{table_more, table-cong, table-self, any-more, all_more}
use Rattle.laws.proofs.Tests.{and_left, and_right, and-true, or_left, or_right, eqb_comm, eqb_refl}
use Rattle.laws.proofs.Words.{word_same, word-before}
use Rattle.model.specs.Model.{Filed}
use Rattle.store.specs.journals.Files.{file_count, file_at, files_of, file_slot, good_file, same_file, records_in, records_of}
use Rattle.store.specs.journals.Reads.{filed_after, filed_in}
use Rattle.store.specs.declared.journals.files.File.{File}
use Rattle.store.proofs.journals.Counting.{records-end}
use Rattle.store.proofs.journals.FirstFiles.{filed-end}
use Rattle.store.proofs.journals.Reading.{Roomy, file-same, file-other, file-counted}
use Rattle.store.specs.Reads.{good_files}
use Rattle.store.proofs.Checks.{few-files, few-reports, few-corrections}
use Rattle.filing.specs.entering.Entering.{files_with}

-- ---- what the list reads as
module _ (files : List ℕ) (f : File) (fits : Roomy f) (slot : file_count files < 1024) (long : 8194 ≤ length files) where
  pub count-more : file_count (files_with files f) ≡ file_count files + 1
  unfolding file_count files_with
  count-more =
      word-before 2 (overlay files 0 (low_first 2 (file_count files + 1))) (2 + file_count files * 8) (file_slot f) 0 (omega arith)
      ∙ word_same 2 files 0 (file_count files + 1) (omega arith) (omega arith)

  file-stays : (k : ℕ) → k < file_count files → file_at (files_with files f) k ≡ file_at files k
  unfolding files_with
  file-stays k h = file-other (overlay files 0 (low_first 2 (file_count files + 1))) k (file_count files) f (λ e. omega arith) ∙ file-counted files k (file_count files + 1)

  file-new : file_at (files_with files f) (file_count files) ≡ f
  unfolding files_with
  file-new = file-same (overlay files 0 (low_first 2 (file_count files + 1))) (file_count files) f fits (omega (arith, length-overlay files 0 (low_first 2 (file_count files + 1))))

  pub files-more : files_of (files_with files f) ≡ files_of files ++ (f ∷ [])
  unfolding files_of
  files-more =
      ap (λ (k : ℕ). table k (file_at (files_with files f))) count-more
      ∙ table_more (file_count files) (file_at (files_with files f))
      ∙ ap₂ (λ (l : List File) (x : File). l ++ (x ∷ [])) (table-cong (file_count files) (file_at (files_with files f)) (file_at files) file-stays) file-new

pub length-files : (files : List ℕ) (f : File) → length (files_with files f) ≡ length files
unfolding files_with
length-files files f =
    length-overlay (overlay files 0 (low_first 2 (file_count files + 1))) (2 + file_count files * 8) (file_slot f)
    ∙ length-overlay files 0 (low_first 2 (file_count files + 1))

-- ---- it is well formed
-- no element twice, where the new one is none of the others
once_more : {A : Type 0} (same : A → A → Bool) → ((x y : A) → same x y ≡ same y x) → (l : List A) (x : A) → none_twice same l ≡ true → any (same x) l ≡ false → none_twice same (l ++ (x ∷ [])) ≡ true
unfolding none_twice any
once_more same comm [] x once new = refl
once_more same comm (y ∷ l) x once new =
    let here : any (same y) (l ++ (x ∷ [])) ≡ any (same y) l = any-more (same y) l x ∙ rw (comm y x, or_left (same x y) (any (same x) l) new) (or-none (any (same y) l)) in
    rw here
    (and-true (not (any (same y) l)) (none_twice same (l ++ (x ∷ [])))
    (and_left (not (any (same y) l)) (none_twice same l) once)
    (once_more same comm l x (and_right (not (any (same y) l)) (none_twice same l) once) (or_right (same x y) (any (same x) l) new)))
  where
    or-none : (t : Bool) → (t || false) ≡ t
    or-none true = refl
    or-none false = refl

same-comm : (f g : File) → same_file f g ≡ same_file g f
unfolding same_file
same-comm f g = λ i. eqb_comm f.kind g.kind i && (eqb_comm f.publisher g.publisher i && eqb_comm f.day g.day i)

-- what a well formed list of files is
pub record Listed (files : List ℕ) : Type 0 where
  pub few : file_count files ≤ 1024
  pub good : all good_file (files_of files) ≡ true
  pub once : none_twice same_file (files_of files) ≡ true
  pub reports : records_of 0 (files_of files) ≤ 8192
  pub corrections : records_of 1 (files_of files) ≤ 2048

pub listed : (files : List ℕ) → good_files files ≡ true → Listed files
unfolding good_files
listed files e =
    let g : Bool = all good_file (files_of files) in
    let o : Bool = none_twice same_file (files_of files) in
    let r : Bool = leb (records_of 0 (files_of files)) 8192 && leb (records_of 1 (files_of files)) 2048 in
    let rest = and_right (leb (file_count files) 1024) (g && (o && r)) e in
    record {
      few = few-files files e;
      good = and_left g (o && r) rest;
      once = and_left o r (and_right g (o && r) rest);
      reports = few-reports files e;
      corrections = few-corrections files e;
    }

pub listed-test : (files : List ℕ) → Listed files → good_files files ≡ true
unfolding good_files
listed-test files l =
    rw (
      le-leb (file_count files) 1024 l.few,
      l.good,
      l.once,
      le-leb (records_of 0 (files_of files)) 8192 l.reports,
      le-leb (records_of 1 (files_of files)) 2048 l.corrections,
    )

module _ (files : List ℕ) (f : File) (fits : Roomy f) (slot : file_count files < 1024) (long : 8194 ≤ length files) where
  pub records-more : (kind : ℕ) → records_of kind (files_of (files_with files f)) ≡ records_of kind (files_of files) + records_in kind f
  records-more kind = ap (records_of kind) (files-more files f fits slot long) ∙ records-end kind (files_of files) f

  pub listed_more : Listed files → good_file f ≡ true → any (same_file f) (files_of files) ≡ false → records_of 0 (files_of files) + records_in 0 f ≤ 8192 → records_of 1 (files_of files) + records_in 1 f ≤ 2048
      → Listed (files_with files f)
  listed_more l g new reports corrections = record {
    few = omega (arith, count-more files f fits slot long);
    good = ap (all good_file) (files-more files f fits slot long) ∙ all_more good_file (files_of files) f ∙ rw (l.good, g);
    once = ap (none_twice same_file) (files-more files f fits slot long) ∙ once_more same_file same-comm (files_of files) f l.once new;
    reports = omega (arith, records-more 0);
    corrections = omega (arith, records-more 1);
  }

-- ---- the model's files
-- the records of a file stand before the end of its journal
place-below : (before : List File) (f : File) (after : List File) (i : ℕ) → i < f.count → records_of f.kind before + i < records_of f.kind (before ++ (f ∷ after))
unfolding records_of records_in total
place-below before f after i h =
    let own : records_in f.kind f ≡ f.count = rw (eqb_refl f.kind) in
    omega (arith, total-append (records_in f.kind) before (f ∷ after), own)

-- where the stored records are as they were, the files read as they did
filed-kept : (r s : ℕ → ℕ → List ℕ) (before fs : List File) → ((kind place : ℕ) → place < records_of kind (before ++ fs) → s kind place ≡ r kind place)
    → filed_in s before fs ≡ filed_in r before fs
unfolding filed_in filed_after
filed-kept r s before [] kept = refl
filed-kept r s before (f ∷ fs) kept =
    let own : table f.count (λ (i : ℕ). s f.kind (records_of f.kind before + i)) ≡ table f.count (λ (i : ℕ). r f.kind (records_of f.kind before + i)) =
    table-cong f.count (λ (i : ℕ). s f.kind (records_of f.kind before + i)) (λ (i : ℕ). r f.kind (records_of f.kind before + i))
    (λ i h. kept f.kind (records_of f.kind before + i) (place-below before f fs i h)) in
    let rest : filed_in s (before ++ (f ∷ [])) fs ≡ filed_in r (before ++ (f ∷ [])) fs =
    filed-kept r s (before ++ (f ∷ [])) fs (λ kind place h. kept kind place (rw (← append_assoc before (f ∷ []) fs) h)) in
    λ k. record { kind = f.kind; publisher = f.publisher; day = f.day; records = own k } ∷ rest k

-- the new file, where its records stand behind the stored ones
filed-new : (s : ℕ → ℕ → List ℕ) (before : List File) (f : Filed) → ((i : ℕ) → i < length f.records → s f.kind (records_of f.kind before + i) ≡ get_or f.records i [])
    → filed_after s before (record { kind = f.kind; publisher = f.publisher; day = f.day; count = length f.records }) ≡ f
unfolding filed_after
filed-new s before f new =
    let own : table (length f.records) (λ (i : ℕ). s f.kind (records_of f.kind before + i)) ≡ f.records =
    table-cong (length f.records) (λ (i : ℕ). s f.kind (records_of f.kind before + i)) (λ (i : ℕ). get_or f.records i []) new
    ∙ table-self f.records [] (length f.records) refl in
    λ k. record { kind = f.kind; publisher = f.publisher; day = f.day; records = own k }

pub filed-more : (r s : ℕ → ℕ → List ℕ) (fs : List File) (f : Filed)
    → ((kind place : ℕ) → place < records_of kind fs → s kind place ≡ r kind place)
    → ((i : ℕ) → i < length f.records → s f.kind (records_of f.kind fs + i) ≡ get_or f.records i [])
    → filed_in s [] (fs ++ ((record { kind = f.kind; publisher = f.publisher; day = f.day; count = length f.records }) ∷ [])) ≡ filed_in r [] fs ++ (f ∷ [])
filed-more r s fs f kept new =
    filed-end s [] fs (record { kind = f.kind; publisher = f.publisher; day = f.day; count = length f.records })
    ∙ ap₂ (λ (l : List Filed) (x : Filed). l ++ (x ∷ [])) (filed-kept r s [] fs kept) (filed-new s fs f new)
