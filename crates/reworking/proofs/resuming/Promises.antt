-- The promises of demand 3 for a store that was reworked. Assumes nothing.
--     resumed-reached     buffers that reworking and then filing lead to read as a store that the model reaches
--     demand-3-resumed    in them every number's entry equals the one worked out afresh from the journals
use Rattle.std.specs.Prelude.{Option, Some}
use mathlib.Core.Path.{◌≡◌, ap, ◌∙◌}
use mathlib.Core.Bool.{true}
use mathlib.Core.List.{List, map}
use Prim.Native.Nat.{ℕ, ◌≤◌}
use lib.ListN.{length, take}
use lib.Seq.{take_all}
use Rattle.fields.specs.declared.number.Number.{Number}
use Rattle.model.specs.Rules.{TableLine}
use Rattle.model.specs.Model.{Filed, Reached, entry_over, no_file_twice}
use Rattle.model.proofs.Stores.{reached-worked}
use Rattle.rules.specs.Rules.{rules}
use Rattle.rules.proofs.Promises.{entries-worked-afresh}
use Rattle.store.specs.journals.Reads.{read_files}
use Rattle.store.specs.numbers.Lines.{lines_of}
use Rattle.store.specs.Reads.{Buffers, Held, lent, table_line, held, is_readable, reads}
use Rattle.store.proofs.Checks.{reads-some}
use Rattle.store.proofs.Whole.{whole-files, files-once}
use Rattle.filing.proofs.checking.Stored.{held-once}
use Rattle.filing.specs.Effect.{store_of}
use Rattle.filing.proofs.Promises.{read-so, filed-on}
use Rattle.reworking.specs.Reworking.{reworked_entries, entries_after}
use Rattle.reworking.proofs.Promises.{reworked-reads}
use Rattle.reworking.proofs.Listing.{accepted}
use Rattle.reworking.specs.resuming.Resumed.{Resumed, rework, file}

module _ (b : Buffers) (whole : is_readable b ≡ true) (n : ℕ) (all : length (held b).files ≤ n) where
  abbrev files : List Filed
  files = read_files b.files b.regular b.corrections

  abbrev lines : List (TableLine Number)
  lines = map table_line (lines_of b.table)

  once : no_file_twice files ≡ true
  once = held-once b.files b.regular b.corrections ∙ files-once b.files (whole-files b whole)

  over-all : take n files ≡ files
  unfolding held
  over-all = take_all n files all

  -- the buffers as they are left
  abbrev reworked : Buffers
  reworked = lent b.table b.files b.regular b.corrections (reworked_entries (take n files) lines b.entries)

  left-reached : (is_readable reworked ≡ true) × Reached rules (store_of (held reworked))
  left-reached =
      let w = read-so reworked _ (reworked-reads b whole n) in
      (w.0, rw (w.1, over-all) (reached-worked rules lines files once))

pub resumed-reached : {b : Buffers} → Resumed b → (is_readable b ≡ true) × Reached rules (store_of (held b))
unfolding held
resumed-reached (rework {b} {n} {count} {list} {entries} {listed} all s) =
    let a = accepted b n count list s.answers in
    let left : entries ≡ entries_after n (Some (held b)) b.entries = s.leaves ∙ ap (λ (h : Option Held). entries_after n h b.entries) a.1 in
    rw left (left-reached b a.0 n all)
resumed-reached (file c {kind} {publisher} {day} {text} s) = let p = resumed-reached c in filed-on kind publisher day text s p.0 p.1

-- demand 3: every number's entry equals the one worked out afresh from the journals
pub demand-3-resumed : {b : Buffers} → Resumed b → (reads b ≡ Some (held b)) × ((held b).entries ≡ map (entry_over rules (held b).files) (held b).lines)
demand-3-resumed {b} c = let p = resumed-reached c in (reads-some b p.0, entries-worked-afresh p.1)
