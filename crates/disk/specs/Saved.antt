-- What loading says of the buffers. Assumes nothing: these are definitions.
use Rattle.std.specs.Prelude.{◌≡◌, true, Result, OnOk}
use Rattle.store.specs.Reads.{is_readable}
use Rattle.disk.specs.declared.books.Books.{Books}
use Rattle.disk.specs.declared.parts.HolidayList.{HolidayList}
use Rattle.disk.specs.declared.saved.LoadError.{LoadError}
use Rattle.disk.specs.Books.{buffers_of}

-- a store is loaded, with this program's holiday list or another, only where the buffers read as one
abbrev pub Loads : Result HolidayList LoadError → Books → Type 0
Loads loaded b = OnOk loaded (is_readable (buffers_of b) ≡ true)
