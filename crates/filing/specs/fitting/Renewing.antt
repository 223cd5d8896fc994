-- What the entries are after one more file, byte by byte. Assumes nothing: these are definitions.
use Rattle.std.specs.Prelude.{cond, ℕ, ◌-◌, length, get_or}
use mathlib.Core.List.{List, [], flat_map, zip_with}
use Rattle.laws.specs.Lists.{table}
use Rattle.laws.specs.Overlay.{overlay}
use Rattle.laws.specs.Slots.{slot_at}
use Rattle.fields.specs.declared.number.Number.{Number}
use Rattle.model.specs.Rules.{TableLine}
use Rattle.model.specs.Model.{Filed, named, entry_over}
use Rattle.rules.specs.Rules.{rules}
use Rattle.store.specs.entry_slots.Entries.{entry_slot}

-- a line's slot after one more file: the entry worked out afresh where the file names its number, else as it was
unfoldable pub renewed_slot : List Filed → Filed → TableLine Number → List ℕ → List ℕ
renewed_slot files f line slot = cond (named rules f line.number) (entry_slot (entry_over rules files line)) slot

-- the slots of all lines; every byte behind them stays
unfoldable pub renewed_entries : List Filed → Filed → List (TableLine Number) → List ℕ → List ℕ
renewed_entries files f lines entries =
    overlay entries 0 (flat_map (λ (s : List ℕ). s) (zip_with (renewed_slot files f) lines (table (length lines) (slot_at 0 100 entries))))

-- the file that came last; where there is none, one that has no records
abbrev pub no_file : Filed
no_file = record { kind = 0; publisher = 0; day = 0; records = [] }

unfoldable pub last_filed : List Filed → Filed
last_filed files = get_or files (length files - 1) no_file
