-- The rules can be met, and the definitions compute: two days, and a file of the first day that comes late. Assumes nothing.
use mathlib.Core.Path.{◌≡◌, refl}
use mathlib.Core.List.Permᴰ
use mathlib.Core.List.{[], ◌∷◌, flat_map, zip_with}
use Prim.Native.Nat.{ℕ, ◌+◌, ◌*◌}
use borrow.Author.Tests.{eqb-true, eq-eqb}
use lib.Dec.{eqb}
use lib.ListN.{get_or}
use Rattle.laws.specs.Lists.{table, keep, any}
use Rattle.laws.specs.Order.{in_order, put, not_after}
use Rattle.model.specs.Rules.{Rules, Line, Lawful}
use Rattle.model.specs.Model.{Filed, Store, Reached, start, file, started, filed, event_at, events, journal, alike, about, named, history, entry_over, count_of, line_of, before, verdict_over, judged, verdict_of, entries_before}
use Rattle.model.proofs.Stores.{Agree, any_order}

-- a record names its first byte and puts its second behind the entry's digits; its verdict is the entry that it finds
abbrev toy : Rules
toy = record {
  Number = ℕ;
  same = eqb;
  names = λ kind bytes. get_or bytes 0 0;
  class = λ kind bytes. kind;
  Entry = ℕ;
  first = λ line. line.owner;
  step = λ line entry e. 10 * entry + get_or e.bytes 1 0;
  verdict = λ line entry e. entry;
  unknown = λ e. 12;
}

lawful : Lawful toy
lawful = record { same_true = eqb-true; same_refl = λ n. eq-eqb n n refl; class-kind = λ k l r s e. e }

abbrev line : Line toy
line = record { number = 5; owner = 1; set_up = 0 }

abbrev monday : Filed
monday = record { kind = 1; publisher = 7; day = 100; records = (5 ∷ 2 ∷ []) ∷ (6 ∷ 9 ∷ []) ∷ (5 ∷ 3 ∷ []) ∷ [] }

abbrev tuesday : Filed
tuesday = record { kind = 1; publisher = 7; day = 101; records = (5 ∷ 4 ∷ []) ∷ [] }

abbrev late : Filed
late = record { kind = 0; publisher = 9; day = 100; records = (5 ∷ 8 ∷ []) ∷ [] }

abbrev here : Store toy
here = filed toy (filed toy (filed toy (started toy (line ∷ [])) monday) tuesday) late

abbrev there : Store toy
there = filed toy (filed toy (filed toy (started toy (line ∷ [])) monday) late) tuesday

-- what it takes to compute, named once: to unfold `shown` is to unfold all of these
shown : {A : Type 0} → A → A
unfolding started filed zip_with named entry_over history journal flat_map events table any about keep in_order put not_after count_of verdict_of judged line_of verdict_over before entries_before
shown x = x

-- the late file's record comes first, and the record that names another number is passed over
worked-late : shown here.entries ≡ 18234 ∷ []
unfolding shown
worked-late = refl

-- before it came
before-late : shown (entries_before toy here 2) ≡ 1234 ∷ []
unfolding shown
before-late = refl

-- a verdict at its own point of the history, not on the newest entry
verdict-between : shown (verdict_of toy here (event_at monday 2)) ≡ 182
unfolding shown
verdict-between = refl

-- a number that is not in the table
verdict-unknown : shown (verdict_of toy here (event_at monday 1)) ≡ 12
unfolding shown
verdict-unknown = refl

-- the count of answer 0 for the late file
count-late : shown (count_of toy here.files late) ≡ 4
unfolding shown
count-late = refl

reached-here : Reached toy here
unfolding started filed any alike
reached-here = file (file (file (start (line ∷ [])) monday refl) tuesday refl) late refl

reached-there : Reached toy there
unfolding started filed any alike
reached-there = file (file (file (start (line ∷ [])) monday refl) late refl) tuesday refl

-- the other site has the same
agree : Agree here there
unfolding started filed
agree = any_order toy lawful reached-here reached-there refl (∣ Permᴰ.cons refl (Permᴰ.swap refl refl) ∣₁)
