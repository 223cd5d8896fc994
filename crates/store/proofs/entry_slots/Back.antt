-- Reading after writing: an entry in range is read as it was written, every other as before, and its bytes are in range. Assumes nothing.
use Rattle.calendar.specs.declared.dates.CalendarDays.{CalendarDays}
use Rattle.std.specs.Prelude.{Option, Some, None}
use mathlib.Core.Path.{◌≡◌, refl, sym, ap, ◌∙◌}
use mathlib.Core.Bool.{Bool, true, false}
use mathlib.Core.List.{List, [], ◌∷◌, ◌++◌, flat_map, append-nil}
use Prim.Native.Nat.{ℕ, zero, suc, ◌+◌, ◌-◌, ◌*◌, ◌≤◌, ◌<◌}
use native.Mathlib.Nat.{zero-add}
use native.Mathlib.Omega.{arith}
use lib.Dec.{lit≤, lit<}
use lib.ListN.{length, get_or, replicate, length-append}
use lib.Seq.{take_all}
use borrow.Author.Tests.{le-leb, ne_eqb}
use Rattle.laws.specs.Lists.{all}
use Rattle.laws.specs.Overlay.{overlay, part}
use Rattle.laws.specs.Slots.{slot_at, is_zero}
use Rattle.laws.specs.Words.{low_first, word_of, word_at}
use Rattle.laws.proofs.Slots.{slot_same, slot-other, slot-flat, length-flat}
use Rattle.laws.proofs.Tables.{table-cong, table-self, all-each}
use Rattle.laws.proofs.Words.{word_first, word-behind, word_next}
use Rattle.store.proofs.slots.Widths.{word-one}
use Rattle.store.proofs.entry_slots.Places.{kind_small, length-place}
use Rattle.fields.specs.declared.kind.Kind.{Kind}
use Rattle.fields.specs.declared.kind.Kind.TheVariants.{P, L, Z}
use Rattle.entries.specs.declared.entry.Entry.{Entry}
use Rattle.entries.specs.declared.entry.Line.{Line}
use Rattle.entries.specs.declared.entry.Place.{Place}
use Rattle.entries.specs.Entry.{free_place, first_entry}
use Rattle.entries.specs.Report.{kind_no}
use Rattle.store.specs.entry_slots.Places.{kind_of, open_of, place_slot, place_of, good_open, good_place}
use Rattle.store.specs.entry_slots.Entries.{last_no, last_of, places_of, entry_slot, entry_of, entry_at, good_entry}

-- ---- what is in range
pub record FinePlace (p : Place) : Type 0 where
  pub free : p.taken ≡ false → p ≡ free_place
  pub date-in : p.report.date.0 ≤ 18992
  pub losing-in : p.report.losing.0 ≤ 999
  pub gaining-in : p.report.gaining.0 ≤ 999
  pub day-in : p.day.0 ≤ 18992
  pub at_in : p.at < 16777216

abbrev pub FineLast : Option CalendarDays → Type 0
FineLast None = Unit {0}
FineLast (Some d) = d.0 ≤ 18992

pub record FineEntry (e : Entry) : Type 0 where
  pub holder_in : e.holder.0 ≤ 999
  pub last-in : FineLast e.last
  pub eight : length e.places ≡ 8
  pub each : (i : ℕ) → i < 8 → FinePlace (get_or e.places i free_place)

-- ---- a place
kind-back : (k : Kind) → kind_of (1 + kind_no k) ≡ k
unfolding kind_of
kind-back P = refl
kind-back L = refl
kind-back Z = refl

free-slot : place_of (place_slot free_place) ≡ free_place
unfolding place_of place_slot word_at word_of part
free-slot = refl

free-good : good_place (place_slot free_place) ≡ true
unfolding good_place place_slot word_at word_of part all is_zero
free-good = refl

-- what stands behind the kind of an open report, field by field
abbrev numbered : Place → List ℕ
numbered p = low_first 3 p.at ++ []

abbrev dated : Place → List ℕ
dated p = low_first 2 p.day.0 ++ numbered p

abbrev to : Place → List ℕ
to p = low_first 2 p.report.gaining.0 ++ dated p

abbrev from : Place → List ℕ
from p = low_first 2 p.report.losing.0 ++ to p

abbrev on : Place → List ℕ
on p = low_first 2 p.report.date.0 ++ from p

abbrev kind-byte : Place → List ℕ
kind-byte p = (1 + kind_no p.report.kind) ∷ []

opened : (p : Place) → p.taken ≡ true → place_slot p ≡ kind-byte p ++ on p
unfolding place_slot
opened p e = rw e

first-is : (p : Place) → word_at 1 (kind-byte p ++ on p) 0 ≡ 1 + kind_no p.report.kind
first-is p = word-one (kind-byte p ++ on p) 0 (omega (arith, length-append (kind-byte p) (on p)))

module _ (p : Place) (f : FinePlace p) (e : p.taken ≡ true) where
  open-back : open_of ((kind-byte p) ++ (on p)) ≡ p
  unfolding open_of
  open-back =
      let k = ap kind_of (first-is p) ∙ kind-back p.report.kind in
      let a = word-behind 2 1 0 (kind-byte p) (on p) refl ∙ word_first 2 p.report.date.0 (from p) (omega (arith, f.date-in)) in
      let l = word-behind 2 1 2 (kind-byte p) (on p) refl ∙ word_next 2 2 p.report.date.0 0 (from p) ∙ word_first 2 p.report.losing.0 (to p) (omega (arith, f.losing-in)) in
      let g = word-behind 2 1 4 (kind-byte p) (on p) refl
      ∙ word_next 2 2 p.report.date.0 2 (from p)
      ∙ word_next 2 2 p.report.losing.0 0 (to p)
      ∙ word_first 2 p.report.gaining.0 (dated p) (omega (arith, f.gaining-in)) in
      let d = word-behind 2 1 6 (kind-byte p) (on p) refl
      ∙ word_next 2 2 p.report.date.0 4 (from p)
      ∙ word_next 2 2 p.report.losing.0 2 (to p)
      ∙ word_next 2 2 p.report.gaining.0 0 (dated p)
      ∙ word_first 2 p.day.0 (numbered p) (omega (arith, f.day-in)) in
      let n = word-behind 3 1 8 (kind-byte p) (on p) refl
      ∙ word_next 3 2 p.report.date.0 6 (from p)
      ∙ word_next 3 2 p.report.losing.0 4 (to p)
      ∙ word_next 3 2 p.report.gaining.0 2 (dated p)
      ∙ word_next 3 2 p.day.0 0 (numbered p)
      ∙ word_first 3 p.at [] f.at_in in
      λ i. record {
        taken = sym e i;
        report = record { kind = k i; date = record { 0 = a i }; losing = record { 0 = l i }; gaining = record { 0 = g i } };
        day = record { 0 = d i };
        at = n i;
      }

  taken_back : place_of (place_slot p) ≡ p
  unfolding place_of
  taken_back = rw (opened p e, (first-is p), ne_eqb (1 + kind_no p.report.kind) 0 (λ q. omega arith)) open-back

  open-good : good_open p ≡ true
  unfolding good_open
  open-good =
      rw (
        le-leb p.report.date.0 18992 f.date-in,
        le-leb p.report.losing.0 999 f.losing-in,
        le-leb p.report.gaining.0 999 f.gaining-in,
        le-leb p.day.0 18992 f.day-in,
      )

  taken-good : good_place (place_slot p) ≡ true
  unfolding good_place
  taken-good =
      rw (
        opened p e,
        (first-is p),
        ne_eqb (1 + kind_no p.report.kind) 0 (λ q. omega arith),
        le-leb (1 + kind_no p.report.kind) 3 (omega (arith, kind_small p.report.kind)),
        open-back,
      )
      open-good

pub place-back : (p : Place) → FinePlace p → place_of (place_slot p) ≡ p
place-back p f = go p.taken refl
  where
    go : (t : Bool) → p.taken ≡ t → place_of (place_slot p) ≡ p
    go true e = taken_back p f e
    go false e = rw (f.free e) free-slot

pub place-good : (p : Place) → FinePlace p → good_place (place_slot p) ≡ true
place-good p f = go p.taken refl
  where
    go : (t : Bool) → p.taken ≡ t → good_place (place_slot p) ≡ true
    go true e = taken-good p f e
    go false e = rw (f.free e) free-good

-- ---- an entry
last-back : (l : Option CalendarDays) → last_of (last_no l) ≡ l
unfolding last_of last_no
last-back None = refl
last-back (Some d) =
    let n : d.0 + 1 - 1 ≡ d.0 = omega arith in
    rw (ne_eqb (d.0 + 1) 0 (λ q. omega arith)) (λ i. Some (record { 0 = n i }))

last-small : (l : Option CalendarDays) → FineLast l → last_no l ≤ 18993
unfolding last_no
last-small None f = lit≤ tt
last-small (Some d) f = omega arith

abbrev flat : Entry → List ℕ
flat e = flat_map place_slot e.places

-- an entry with eight places takes 100 bytes, whatever it holds
places-length : (e : Entry) → length e.places ≡ 8 → length (flat e) ≡ 96
places-length e eight = length-flat 12 place_slot length-place e.places ∙ ap (λ (n : ℕ). n * 12) eight

pub slot-length : (e : Entry) → length e.places ≡ 8 → length (entry_slot e) ≡ 100
unfolding entry_slot low_first
slot-length e eight = omega (arith, places-length e eight)

module _ (e : Entry) (f : FineEntry e) where
  flat-length : length (flat e) ≡ 96
  flat-length = places-length e f.eight

  pub length-entry : length (entry_slot e) ≡ 100
  length-entry = slot-length e f.eight

  places-part : part (entry_slot e) 4 96 ≡ (flat e)
  unfolding entry_slot low_first part
  places-part = take_all 96 (flat e) (omega (arith, flat-length))

  place-slot : (i : ℕ) → i < 8 → slot_at 0 12 (flat e) i ≡ place_slot (get_or e.places i free_place)
  place-slot i h =
      ap (λ (l : List ℕ). slot_at 0 12 l i) (sym (append-nil (flat e)))
      ∙ slot-flat 12 place_slot length-place [] e.places [] i free_place (omega (arith, f.eight))

  places-back : places_of (flat e) ≡ e.places
  unfolding places_of
  places-back =
      table-cong 8 (λ (i : ℕ). place_of (slot_at 0 12 (flat e) i)) (λ (i : ℕ). get_or e.places i free_place)
      (λ i h. ap place_of (place-slot i h) ∙ place-back (get_or e.places i free_place) (f.each i h))
      ∙ table-self e.places free_place 8 f.eight

  holder-back : word_at 2 (entry_slot e) 0 ≡ e.holder.0
  unfolding entry_slot
  holder-back = word_first 2 e.holder.0 (low_first 2 (last_no e.last) ++ (flat e)) (omega (arith, f.holder_in))

  last_word : word_at 2 (entry_slot e) 2 ≡ last_no e.last
  unfolding entry_slot
  last_word =
      word_next 2 2 e.holder.0 0 (low_first 2 (last_no e.last) ++ (flat e))
      ∙ word_first 2 (last_no e.last) (flat e) (omega (arith, last-small e.last f.last-in))

  pub entry-back : entry_of (entry_slot e) ≡ e
  unfolding entry_of
  entry-back =
      let l : last_of (word_at 2 (entry_slot e) 2) ≡ e.last = ap last_of last_word ∙ last-back e.last in
      let p : places_of (part (entry_slot e) 4 96) ≡ e.places = ap places_of places-part ∙ places-back in
      λ i. record { holder = record { 0 = holder-back i }; last = l i; places = p i }

  pub entry-fine : good_entry (entry_slot e) ≡ true
  unfolding good_entry
  entry-fine =
      rw (
        holder-back,
        le-leb e.holder.0 999 f.holder_in,
        last_word,
        le-leb (last_no e.last) 18993 (last-small e.last f.last-in),
        places-part,
      )
      (all-each good_place 8 (slot_at 0 12 (flat e)) (λ i h. ap good_place (place-slot i h) ∙ place-good (get_or e.places i free_place) (f.each i h)))

  -- reading after writing: the entry that was written, every other as before
  pub entry-same : (entries : List ℕ) (k : ℕ) → k * 100 + 100 ≤ length entries → entry_at (overlay entries (k * 100) (entry_slot e)) k ≡ e
  unfolding entry_at
  entry-same entries k h =
      ap (λ (at : ℕ). entry_of (slot_at 0 100 (overlay entries at (entry_slot e)) k)) (sym (zero-add (k * 100)))
      ∙ ap entry_of (slot_same 0 100 entries k (entry_slot e) (omega arith) length-entry)
      ∙ entry-back

  pub entry_other : (entries : List ℕ) (j k : ℕ) → (j ≡ k → ⊥) → entry_at (overlay entries (k * 100) (entry_slot e)) j ≡ entry_at entries j
  unfolding entry_at
  entry_other entries j k ne =
      ap (λ (at : ℕ). entry_of (slot_at 0 100 (overlay entries at (entry_slot e)) j)) (sym (zero-add (k * 100)))
      ∙ ap entry_of (slot-other 0 100 entries j k (entry_slot e) ne length-entry)

-- ---- the first entry of a line
free-fine : FinePlace free_place
free-fine = record { free = λ e. refl; date-in = lit≤ tt; losing-in = lit≤ tt; gaining-in = lit≤ tt; day-in = lit≤ tt; at_in = lit< tt }

all-free : (n i : ℕ) → get_or (replicate n free_place) i free_place ≡ free_place
all-free zero i = refl
all-free (suc n) zero = refl
all-free (suc n) (suc i) = all-free n i

pub first_fine : (line : Line) → line.owner.0 ≤ 999 → FineEntry (first_entry line)
first_fine line h = record { holder_in = h; last-in = tt; eight = refl; each = λ i b. rw (all-free 8 i) free-fine }
