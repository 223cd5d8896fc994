-- What has to hold of any bytes before something is shown from them. A store that reads has it. Assumes nothing: these are definitions.
use Rattle.std.specs.Prelude.{Bool, ◌&&◌, List, ℕ, leb, length}
use Rattle.laws.specs.Lists.{all}
use Rattle.store.specs.journals.Files.{file_count, files_of, good_file, records_of}
use Rattle.store.specs.numbers.Lines.{line_count}

-- at most 1,024 files, each in range, with at most 8,192 reports and 2,048 corrections
unfoldable pub files_in_range : List ℕ → Bool
files_in_range f = leb (file_count f) 1024 && (all good_file (files_of f) && (leb (records_of 0 (files_of f)) 8192 && leb (records_of 1 (files_of f)) 2048))

-- room for what the limits allow, at most 1,024 lines, the list of files in range
unfoldable pub is_showable : List ℕ → List ℕ → List ℕ → List ℕ → Bool
is_showable t f r c =
    leb 14338 (length t)
    && (leb 8194 (length f) && (leb 368640 (length r) && (leb 200704 (length c) && (leb (line_count t) 1024 && files_in_range f))))
