-- `filing::renewing::renew::renew` meets its contract: a store that reads gives what is asked, and the end of the loop is `counted-last` and `renewed-last`. Assumes nothing.
use mathlib.Core.Path.{◌≡◌, refl}
use Prim.Native.Nat.{◌+◌, ◌-◌}
use native.Mathlib.Omega.{arith}
use Rattle.laws.specs.Lists.{table}
use Rattle.store.specs.journals.Files.{file_at, file_count, records_of}
use Rattle.working.proofs.Readable.{readable-sound}
use Rattle.filing.proofs.renewing.Loop.{workable, counted-last, renewed-last}
use Rattle.filing.proofs.renewing.renew.renew.Goals as goal

pub file_count-n-requires : goal.file_count-n-requires
file_count-n-requires c =
    let a = c.args in
    let able = workable a.table.now a.files.now a.regular.now a.corrections.now a.entries.now c.requires.entries_value (file_count a.files.now) a.entries.now refl refl in
    omega (arith, able.sound.listed)

pub invariant_of-filed : goal.invariant_of-filed
invariant_of-filed c =
    let a = c.args in
    record { sound = readable-sound a.table.now a.files.now a.regular.now a.corrections.now a.entries.now c.file_count-n.result c.requires.entries_value (omega (arith, c.file_count-n.ensures.0)) }

pub renew_file-requires : goal.renew_file-requires
renew_file-requires c =
    let a = c.args in
    workable a.table.now a.files.now a.regular.now a.corrections.now a.entries.now c.requires.entries_value c.file_count-n.result a.entries.now c.file_count-n.ensures.0 refl

pub returns : goal.returns
returns c =
    let a = c.args in
    let f = c.records in
    let m = c.file_count-n.result - 1 in
    let n : m + 1 ≡ file_count a.files.now = omega (arith, c.requires.files_nonzero, c.file_count-n.ensures.0) in
    let start : f.result.start ≡ records_of f.result.file.kind (table m (file_at a.files.now)) = rw f.ensures.file f.ensures.start in
    let staged = rw f.ensures.journals at c.renew_file.ensures in record {
      value = counted-last a.table.now a.files.now a.regular.now a.corrections.now a.entries.now c.requires.entries_value m f.result.file f.result.start f.ensures.file start n _ f.result.file.count c.renew_file.result staged refl;
      entries_after = renewed-last a.table.now a.files.now a.regular.now a.corrections.now a.entries.now c.requires.entries_value m f.result.file f.result.start f.ensures.file start n _ f.result.file.count c.renew_file.result staged refl;
    }
