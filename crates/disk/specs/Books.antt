-- The five buffers in one struct. Assumes nothing: these are definitions.
use Rattle.store.specs.Reads.{Buffers, lent}
use Rattle.disk.specs.declared.books.Books.{Books}

-- what they hold
abbrev pub buffers_of : Books → Buffers
buffers_of b = lent b.table b.files b.regular b.corrections b.entries
