-- What reworking promises. Assumes nothing.
--     reworked-reads       after answer 0 the buffers read as the same table and files, and every entry is the one worked out over the first n files
--     listed-exactly       a line is listed exactly if its stored entry was not the one worked out
--     figure-listed        the figure is how many lines are listed
--     all-files            over the first `all_files` files of a store is over all
--     none-again           a second time, nothing is listed
--     none-in-a-reached    nor, over all files, in a store that starting and filing lead to
use Rattle.std.proofs.lemmas.Option.{none-some, same_Some}
use Rattle.std.specs.Prelude.{Some}
use mathlib.Core.Path.{◌≡◌, refl, sym, ap, subst, ◌∙◌}
use mathlib.Core.Bool.{Bool, true, false, not}
use mathlib.Core.List.Memᴰ
use mathlib.Core.List.{List, [], ◌∷◌, map, flat_map, zip_with, ◌++◌, Memᴰ}
use mathlib.Core.Logic.{⊎_elim}
use Prim.Native.Nat.{ℕ, zero, suc, ◌≤◌, ◌<◌}
use native.Mathlib.Nat.{eq-or-lt_of_le}
use native.Mathlib.Omega.{arith}
use lib.ListN.{length, get_or, take, length-map}
use lib.Seq.{take_all}
use Rattle.laws.specs.Lists.{table, keep, all}
use Rattle.laws.specs.Overlay.{overlay}
use Rattle.laws.specs.Slots.{slot_at}
use Rattle.laws.proofs.Lists.{keep-none, keep-mem, keep-passes, keep-map, mem_below, mem-keep, zip-map, zip-at}
use Rattle.laws.proofs.Overlay.{length-overlay}
use Rattle.laws.proofs.Slots.{slot-laid}
use Rattle.laws.proofs.Tables.{length-table, get_or-table, table-cong, table-self, map-table, all-each}
use Rattle.fields.specs.declared.number.Number.{Number}
use Rattle.entries.specs.declared.entry.Entry.{Entry}
use Rattle.entries.proofs.comparing.SameLaws.{same-entry-refl}
use Rattle.model.specs.Rules.{TableLine}
use Rattle.model.specs.Model.{Filed, Store, Reached, entry_over}
use Rattle.rules.specs.Rules.{rules}
use Rattle.rules.proofs.Promises.{entries-worked-afresh}
use Rattle.store.specs.journals.Files.{file_count}
use Rattle.store.specs.journals.Reads.{read_files}
use Rattle.store.specs.numbers.Lines.{line_count, line_at, lines_of}
use Rattle.store.specs.entry_slots.Entries.{entry_of, entry_at, good_entry}
use Rattle.store.proofs.entry_slots.Back.{length-entry, entry-back, entry-fine}
use Rattle.store.specs.Reads.{Buffers, Held, lent, table_line, held, long_enough, is_readable, reads}
use Rattle.store.proofs.Checks.{long, few-lines, few-files, read-entries, reads-some, reads_none}
use Rattle.store.proofs.Whole.{whole_long, whole-table, whole-files, whole-records}
use Rattle.filing.proofs.fitting.Worked.{worked-fits}
use Rattle.asking.specs.answering.Figure.{differs, how_many, figure_of}
use Rattle.asking.proofs.Standings.{length-first}
use Rattle.reworking.specs.Reworking.{worked_slot, reworked_entries, places, changed_lines, all_files, rework_answer, with_room, line_of}
use Rattle.std.specs.Prelude.{Ok}
use Rattle.reworking.proofs.Answers.{with-room}

-- ---- the store after reworking
flat-slots : (files : List Filed) (lines : List (TableLine Number)) → flat_map (worked_slot files) lines ≡ flat_map (λ (s : List ℕ). s) (map (worked_slot files) lines)
unfolding flat_map
flat-slots files [] = refl
flat-slots files (l ∷ ls) = ap (λ r. worked_slot files l ++ r) (flat-slots files ls)

module _ (b : Buffers) (whole : is_readable b ≡ true) (n : ℕ) where
  abbrev files : List Filed
  files = take n (read_files b.files b.regular b.corrections)

  abbrev lines : List (TableLine Number)
  lines = map table_line (lines_of b.table)

  abbrev slots : List (List ℕ)
  slots = map (worked_slot files) lines

  abbrev after : List ℕ
  after = reworked_entries files lines b.entries

  lines-table : lines ≡ table (line_count b.table) (line_of b.table)
  unfolding lines_of
  lines-table = map-table table_line (line_count b.table) (line_at b.table)

  slots-table : slots ≡ table (line_count b.table) (λ (k : ℕ). worked_slot files (line_of b.table k))
  slots-table = ap (map (worked_slot files)) lines-table ∙ map-table (worked_slot files) (line_count b.table) (line_of b.table)

  slots-count : length slots ≡ line_count b.table
  slots-count = ap length slots-table ∙ length-table (line_count b.table) (λ (k : ℕ). worked_slot files (line_of b.table k))

  slot-at : (k : ℕ) → k < line_count b.table → get_or slots k [] ≡ worked_slot files (line_of b.table k)
  slot-at k h = ap (λ (l : List (List ℕ)). get_or l k []) slots-table ∙ get_or-table (line_count b.table) k (λ (j : ℕ). worked_slot files (line_of b.table j)) [] h

  slot-width : (k : ℕ) → k < length slots → length (get_or slots k []) ≡ 100
  unfolding worked_slot
  slot-width k h =
      let c = slots-count in
      let below : k < line_count b.table = omega arith in
      ap length (slot-at k below) ∙ length-entry _ (worked-fits b whole k below n)

  slot_of : (k : ℕ) → k < line_count b.table → slot_at 0 100 after k ≡ worked_slot files (line_of b.table k)
  unfolding reworked_entries
  slot_of k h =
      ap (λ (l : List ℕ). slot_at 0 100 (overlay b.entries 0 l) k) (flat-slots files lines)
      ∙ slot-laid 100 b.entries slots slot-width
      (omega (arith, slots-count, few-lines b.table (whole-table b whole), (long b (whole_long b whole)).long-entries)) k (omega (arith, slots-count))
      ∙ slot-at k h

  abbrev with : Buffers
  with = lent b.table b.files b.regular b.corrections after

  still-long : long_enough with ≡ true
  unfolding long_enough reworked_entries
  still-long = rw (length-overlay b.entries 0 (flat_map (worked_slot files) lines)) (whole_long b whole)

  reworked-good : all good_entry (table (line_count b.table) (slot_at 0 100 after)) ≡ true
  unfolding worked_slot
  reworked-good = all-each good_entry (line_count b.table) (slot_at 0 100 after) (λ k h. ap good_entry (slot_of k h) ∙ entry-fine _ (worked-fits b whole k h n))

  pub reworked-readable : is_readable with ≡ true
  reworked-readable = sym (read-entries with still-long (whole-table b whole) (whole-files b whole) (whole-records b whole) (line_count b.table) refl) ∙ reworked-good

  -- each line's entry is the one worked out
  pub reworked-entry : (k : ℕ) → k < line_count b.table → entry_at after k ≡ entry_over rules files (line_of b.table k)
  unfolding entry_at worked_slot
  reworked-entry k h = ap entry_of (slot_of k h) ∙ entry-back _ (worked-fits b whole k h n)

  entries-are : table (line_count b.table) (entry_at after) ≡ map (entry_over rules files) lines
  entries-are =
      table-cong (line_count b.table) (entry_at after) (λ (k : ℕ). entry_over rules files (line_of b.table k)) reworked-entry
      ∙ sym (ap (map (entry_over rules files)) lines-table ∙ map-table (entry_over rules files) (line_count b.table) (line_of b.table))

  pub reworked-reads : reads with ≡ Some (record { lines = lines; files = read_files b.files b.regular b.corrections; entries = map (entry_over rules files) lines })
  unfolding held
  reworked-reads = reads-some with reworked-readable ∙ (λ i. Some (record { lines = lines; files = read_files b.files b.regular b.corrections; entries = entries-are i }))

-- ---- what is listed
pub below-mem : (n i : ℕ) → i < n → Memᴰ i (table n (λ (k : ℕ). k))
unfolding table
below-mem zero i h = absurd (omega arith)
below-mem (suc n) i h = ⊎_elim (λ (e : i ≡ n). Memᴰ.append_right (table n (λ (k : ℕ). k)) (Memᴰ.head e)) (λ (l : i < n). Memᴰ.append_left (n ∷ []) (below-mem n i l)) (eq-or-lt_of_le (omega arith))

-- the places at which a test holds are exactly those
pub places-exactly : (tests : List Bool) (i : ℕ) → (Memᴰ i (places tests) → (i < length tests) × (get_or tests i false ≡ true)) × ((i < length tests) → get_or tests i false ≡ true → Memᴰ i (places tests))
unfolding places
places-exactly tests i = (
  λ m. (
    let w = mem_below (length tests) (λ (k : ℕ). k) (mem-keep (λ (k : ℕ). get_or tests k false) (table (length tests) (λ (k : ℕ). k)) m) in omega (arith, w.1, w.2),
    keep-passes (λ (k : ℕ). get_or tests k false) (table (length tests) (λ (k : ℕ). k)) m,
  ),
  λ h e. keep-mem (λ (k : ℕ). get_or tests k false) (below-mem (length tests) i h) e,
)

zip-below : {A B C : Type 0} (f : A → B → C) (l : List A) (m : List B) (i : ℕ) → i < length l → i < length m → i < length (zip_with f l m)
unfolding zip_with
zip-below f [] m i h k = absurd (omega arith)
zip-below f (x ∷ l) [] i h k = absurd (omega arith)
zip-below f (x ∷ l) (y ∷ m) zero h k = omega arith
zip-below f (x ∷ l) (y ∷ m) (suc i) h k = let w = zip-below f l m i (omega arith) (omega arith) in omega arith

-- a line is listed exactly if its stored entry is not the one worked out: what `changed-at` says of two entries, at each place
pub listed-exactly : (files : List Filed) (lines : List (TableLine Number)) (entries : List Entry) (line : TableLine Number) (entry : Entry) (i : ℕ) → i < length lines → i < length entries
    → (Memᴰ i (changed_lines files lines entries) → differs files (get_or lines i line) (get_or entries i entry) ≡ true)
    × (differs files (get_or lines i line) (get_or entries i entry) ≡ true → Memᴰ i (changed_lines files lines entries))
unfolding changed_lines
listed-exactly files lines entries line entry i h k =
    let tests = zip_with (differs files) lines entries in
    let at : get_or tests i false ≡ differs files (get_or lines i line) (get_or entries i entry) = zip-at (differs files) lines entries i line entry false h k in
    let exact = places-exactly tests i in (
      λ m. sym at ∙ (exact.0 m).1,
      λ e. exact.1 (zip-below (differs files) lines entries i h k) (at ∙ e),
    )

-- as many are listed as tests hold
places-many : (tests : List Bool) → how_many tests ≡ length (places tests)
unfolding places
places-many tests =
    let at : ℕ → Bool = λ (i : ℕ). get_or tests i false in
    let all : List ℕ = table (length tests) (λ (i : ℕ). i) in
    ap how_many (sym (map-table at (length tests) (λ (i : ℕ). i) ∙ table-self tests false (length tests) refl))
    ∙ ap length (sym (keep-map at (λ (b : Bool). b) at all (λ x m. refl)))
    ∙ length-map (keep at all) at

-- the number that is printed and the lines that are listed agree
pub figure-listed : (lines : List (TableLine Number)) (files : List Filed) (entries : List Entry) → figure_of lines files entries ≡ length (changed_lines files lines entries)
unfolding figure_of changed_lines
figure-listed lines files entries = places-many (zip_with (differs files) lines entries)

-- ---- all files
all_held : (b : Buffers) → is_readable b ≡ true → take all_files (held b).files ≡ (held b).files
unfolding held
all_held b whole =
    take_all 1024 (read_files b.files b.regular b.corrections)
    (omega (arith, length-first (file_count b.files) b.files b.regular b.corrections, few-files b.files (whole-files b whole)))

pub all-files : (b : Buffers) (h : Held) → reads b ≡ Some h → take all_files h.files ≡ h.files
all-files b h q = go (is_readable b) refl
  where
    go : (w : Bool) → is_readable b ≡ w → take all_files h.files ≡ h.files
    go true whole = subst (λ (g : Held). take all_files g.files ≡ g.files) (same_Some (held b) h (sym (reads-some b whole) ∙ q)) (all_held b whole)
    go false unread = absurd (none-some h (sym (reads_none b unread) ∙ q))

never-holds : {A : Type 0} (l : List A) (i : ℕ) → get_or (map (λ (x : A). false) l) i false ≡ false
never-holds [] i = refl
never-holds (x ∷ l) zero = refl
never-holds (x ∷ l) (suc i) = never-holds l i

-- where every entry is the one worked out, nothing is listed
none-changed : (files : List Filed) (lines : List (TableLine Number)) → changed_lines files lines (map (entry_over rules files) lines) ≡ []
unfolding changed_lines places differs
none-changed files lines =
    let same : zip_with (differs files) lines (map (entry_over rules files) lines) ≡ map (λ (l : TableLine Number). false) lines =
    zip-map (differs files) (entry_over rules files) (λ (l : TableLine Number). false) (λ l. ap not (same-entry-refl (entry_over rules files l))) lines in
    ap places same ∙ keep-none (λ (i : ℕ). get_or (map (λ (l : TableLine Number). false) lines) i false) (table (length (map (λ (l : TableLine Number). false) lines)) (λ (i : ℕ). i)) (λ i m. never-holds lines i)

pub none-again : (b : Buffers) (whole : is_readable b ≡ true) (n : ℕ) (list : List ℕ) → 1024 ≤ length list
    → rework_answer n (with_room list (with b whole n)) ≡ Ok 0
none-again b whole n list room = ap (rework_answer n) (with-room (with b whole n) n list room ∙ reworked-reads b whole n) ∙ ap (λ (l : List ℕ). Ok (length l)) (none-changed _ _)

pub none-in-a-reached : {s : Store rules} → Reached rules s → changed_lines s.files s.lines s.entries ≡ []
none-in-a-reached {s} r = ap (changed_lines s.files s.lines) (entries-worked-afresh r) ∙ none-changed s.files s.lines
