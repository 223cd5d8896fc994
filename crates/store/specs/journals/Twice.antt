-- A number for a file's kind, publisher and day. Assumes nothing: these are definitions.
use Rattle.std.specs.Prelude.{List, ℕ, ◌+◌, ◌*◌}
use Rattle.laws.specs.Lists.{table}
use Rattle.store.specs.journals.Files.{file_at}
use Rattle.store.specs.declared.journals.files.File.{File}

unfoldable pub key_of : File → ℕ
key_of f = (f.kind * 65536 + f.publisher) * 65536 + f.day

-- those of the first n files
unfoldable pub keys_of : ℕ → List ℕ → List ℕ
keys_of n files = table n (λ (k : ℕ). key_of (file_at files k))
