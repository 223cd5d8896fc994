-- What the buffers `files`, `regular` and `corrections` mean: the model's list of files, in order of arrival. Total: any bytes read as some list.
-- Assumes nothing: these are definitions.
use Rattle.std.specs.Prelude.{List, [], ◌∷◌, ◌++◌, ℕ, zero, suc, ◌+◌}
use Rattle.laws.specs.Lists.{table}
use Rattle.model.specs.Model.{Filed}
use Rattle.store.specs.journals.Files.{file_at, file_count, records_of}
use Rattle.store.specs.journals.Records.{record_at}
use Rattle.store.specs.declared.journals.files.File.{File}

-- the record at a place of the journal of a kind: that of kind 0 is the regular journal, that of kind 1 the correction journal
unfoldable pub records_at : List ℕ → List ℕ → ℕ → ℕ → List ℕ
records_at regular corrections zero place = record_at 45 regular place
records_at regular corrections (suc zero) place = record_at 98 corrections place
records_at regular corrections (suc (suc kind)) place = []

-- a file that comes after the files `before`: its records follow on theirs in the journal of its kind
unfoldable pub filed_after : (ℕ → ℕ → List ℕ) → List File → File → Filed
filed_after r before f = record {
  kind = f.kind;
  publisher = f.publisher;
  day = f.day;
  records = table f.count (λ (i : ℕ). r f.kind (records_of f.kind before + i));
}

unfoldable pub filed_in : (ℕ → ℕ → List ℕ) → List File → List File → List Filed
filed_in r before [] = []
filed_in r before (f ∷ fs) = filed_after r before f ∷ filed_in r (before ++ (f ∷ [])) fs

-- the first n files
unfoldable pub first_files : ℕ → List ℕ → List ℕ → List ℕ → List Filed
first_files n files regular corrections = filed_in (records_at regular corrections) [] (table n (file_at files))

-- all of them
abbrev pub read_files : List ℕ → List ℕ → List ℕ → List Filed
read_files files regular corrections = first_files (file_count files) files regular corrections
