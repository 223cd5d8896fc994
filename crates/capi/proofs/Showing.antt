-- What the three ways out of showing an entry answer and leave. Assumes nothing.
use Rattle.std.specs.Prelude.{Ok, Err}
use mathlib.Core.Path.{◌≡◌, refl}
use mathlib.Core.List.{List}
use Prim.Native.Nat.{ℕ, ◌≤◌, ◌<◌}
use borrow.Author.Tests.{le-leb, lt-leb}
use lib.ListN.{length}
use Rattle.laws.specs.Overlay.{overlay}
use Rattle.entries.specs.declared.entry.Entry.{Entry}
use Rattle.store.specs.entry_slots.Entries.{entry_slot}
use Rattle.asking.specs.declared.answer.NotShown.{NotShown}
use Rattle.asking.specs.Numbers.{not_shown_told}
use Rattle.capi.specs.Show.{shown_number, shown_into, ShowsEntry}

-- no entry is to be shown
pub refused : (e : NotShown) (out : List ℕ) (n : ℕ) → n ≡ (not_shown_told e).number → ShowsEntry (Err e) out n out
unfolding shown_number shown_into
refused NotShown.UnknownNumber out n q = record { answers = q; leaves = refl }
refused NotShown.Unreadable out n q = record { answers = q; leaves = refl }

-- an entry is to be shown
pub short : (e : Entry) (out : List ℕ) → length out < 100 → ShowsEntry (Ok e) out 41 out
unfolding shown_number shown_into
short e out h = record { answers = rw (lt-leb 100 (length out) h); leaves = rw (lt-leb 100 (length out) h) }

pub written : (e : Entry) (out after : List ℕ) → 100 ≤ length out → after ≡ overlay out 0 (entry_slot e) → ShowsEntry (Ok e) out 0 after
unfolding shown_number shown_into
written e out after h w = record { answers = rw (le-leb 100 (length out) h); leaves = rw (le-leb 100 (length out) h) w }
