-- The list of filed files, read from any bytes. Assumes nothing: these are definitions.
use Rattle.std.specs.Prelude.{ℕ, min, cond, List, ltb, length}
use Rattle.store.specs.declared.journals.files.File.{File}
use Rattle.store.specs.journals.Files.{file_count, file_at}

-- how many files the list tells of: none where it is too short to tell, and never more than it takes
abbrev pub files_in : List ℕ → ℕ
files_in files = cond (ltb (length files) 2) 0 (min (file_count files) 1024)

abbrev pub no_file : File
no_file = record { kind = 0; publisher = 0; day = 0; count = 0 }

-- the file at a place; one of no records where the list has no such place
abbrev pub file_in : List ℕ → ℕ → File
file_in files i = cond (ltb 1023 i) no_file (cond (ltb (length files) 8194) no_file (file_at files i))
