-- Whatever answer 0 leaves reads as the given table, no file, and the first entries; a refusal leaves the buffers as they were. Assumes nothing.
use Rattle.std.specs.Prelude.{Err, Ok, Result}
use Rattle.std.specs.Prelude.{Option, Some, None}
use mathlib.Core.Path.{◌≡◌, refl, sym, ap, ◌∙◌}
use mathlib.Core.Bool.{Bool, true, false, cond, ◌&&◌}
use mathlib.Core.List.{List, [], ◌∷◌, ◌++◌, map, flat_map, append_assoc}
use Prim.Native.Nat.{ℕ, ◌+◌, ◌≤◌, ◌<◌}
use native.Mathlib.Nat.{zero-add}
use native.Mathlib.Omega.{arith}
use lib.Dec.{leb, lit<}
use lib.ListN.{length, drop, get_or, length-append}
use borrow.Author.Tests.{leb-true, le-leb}
use Rattle.laws.specs.Lists.{table, all, none_twice, total}
use Rattle.laws.specs.Overlay.{overlay}
use Rattle.laws.specs.Slots.{slot_at}
use Rattle.laws.specs.Split.{split}
use Rattle.laws.specs.Words.{low_first, word_at}
use Rattle.laws.proofs.Overlay.{length-overlay, overlay-parts}
use Rattle.laws.proofs.Slots.{slot-flat, length-flat}
use Rattle.laws.proofs.Tables.{all-at, all-each, table-cong, table-self, map-table}
use Rattle.laws.proofs.Tests.{and_left, and_right}
use Rattle.laws.proofs.Words.{word_first, word_same, length-low_first}
use Rattle.fields.specs.Number.{same_number}
use Rattle.store.specs.journals.Files.{file_count, file_at, files_of, records_of}
use Rattle.store.specs.numbers.Lines.{line_slot, line_of, line_at, line_count, lines_of, number_at, good_line}
use Rattle.store.specs.declared.numbers.lines.Line.{Line}
use Rattle.store.proofs.numbers.Fitting.{good-roomy, good-owner}
use Rattle.store.proofs.numbers.Reading.{length-line, line-back}
use Rattle.store.specs.entry_slots.Entries.{entry_of, entry_at, good_entry}
use Rattle.store.proofs.entry_slots.Back.{first_fine, entry-back, entry-fine}
use Rattle.store.specs.journals.Reads.{records_at, filed_in, first_files, read_files}
use Rattle.store.specs.Reads.{Buffers, table_line, held, long_enough, good_table, good_files, good_records, is_readable, reads}
use Rattle.store.proofs.Checks.{Long, long, reads-some}
use Rattle.starting.specs.tables.Given.{line_given, end_given, with_line, lines_given, number_of_line, checked, table_of}
use Rattle.starting.specs.Start.{first_of, first_slot, answer_of, start_answer, with_table, start_buffers, Starts, started_with}
use Rattle.starting.specs.declared.start.NotStarted.{NotStarted}
use Rattle.starting.specs.declared.start.NotStarted.TheVariants.{Short}
use Rattle.starting.proofs.Beginning.{length-first}
use Rattle.starting.proofs.tables.Reading.{line-good}
use Rattle.starting.proofs.tables.Spreading.{no_line}

-- ---- what is known of a table that a text gives
not_some : (ls : List Line) → None ≡ Some ls → ⊥
not_some ls e = let z : ◌≡◌ {A = ℕ} 0 1 = cc in omega arith

given-good : (ps : List (List ℕ)) (ls : List Line) → lines_given ps ≡ Some ls → all good_line ls ≡ true
unfolding lines_given all
given-good [] ls e = absurd (not_some ls e)
given-good (l ∷ []) ls e = go l e
  where
    go : (l : List ℕ) → end_given l ≡ Some ls → all good_line ls ≡ true
    go [] q = let nothing : [] ≡ ls = cc in rw (← nothing)
    go (b ∷ bs) q = absurd (not_some ls q)
given-good (l ∷ m ∷ more) ls e = go (line_given l) (lines_given (m ∷ more)) refl refl e (given-good (m ∷ more))
  where
    go : (r : Option Line) (o : Option (List Line)) → line_given l ≡ r → lines_given (m ∷ more) ≡ o → with_line r o ≡ Some ls
        → ((ks : List Line) → lines_given (m ∷ more) ≡ Some ks → all good_line ks ≡ true) → all good_line ls ≡ true
    go (Some x) (Some ks) p q h ih =
        let both : x ∷ ks ≡ ls = cc in
        rw (← both, line-good x l p, ih ks q)
    go (Some x) None p q h ih = absurd (not_some ls h)
    go None o p q h ih = absurd (not_some ls h)

-- the lines are well formed, at most 1,024, with no number twice
pub record Table (ls : List Line) : Type 0 where
  pub good : all good_line ls ≡ true
  pub few : length ls ≤ 1024
  pub once : none_twice same_number (map number_of_line ls) ≡ true

pub table-good : (text : List ℕ) (ls : List Line) → table_of text ≡ Some ls → Table ls
unfolding table_of checked
table-good text ls e = go (lines_given (split 10 text)) refl e
  where
    go : (o : Option (List Line)) → lines_given (split 10 text) ≡ o → checked o ≡ Some ls → Table ls
    go None p q = absurd (not_some ls q)
    go (Some ks) p q = at (leb (length ks) 1024 && none_twice same_number (map number_of_line ks)) refl q
      where
        at : (t : Bool) → (leb (length ks) 1024 && none_twice same_number (map number_of_line ks)) ≡ t → cond t (Some ks) None ≡ Some ls → Table ls
        at false r h = absurd (not_some ls h)
        at true r h =
            let same : ks ≡ ls = cc in
            rw (← same)
            (record {
              good = given-good (split 10 text) ks p;
              few = leb-true (length ks) 1024 (and_left (leb (length ks) 1024) (none_twice same_number (map number_of_line ks)) r);
              once = and_right (leb (length ks) 1024) (none_twice same_number (map number_of_line ks)) r;
            })

-- ---- what is written from the start on
front : (xs ys : List ℕ) → length ys ≤ length xs → overlay xs 0 ys ≡ ys ++ drop (length ys) xs
front xs ys h =
    let e : 0 + length ys ≡ length ys = zero-add (length ys) in
    overlay-parts xs 0 ys (omega arith) ∙ ap (λ (k : ℕ). ys ++ drop k xs) e

-- ---- the table
module _ (t : List ℕ) (ls : List Line) (w : Table ls) (room : 14338 ≤ length t) where
  after : overlay t 0 (low_first 2 (length ls) ++ flat_map line_slot ls) ≡ low_first 2 (length ls) ++ (flat_map line_slot ls ++ drop (length (low_first 2 (length ls) ++ flat_map line_slot ls)) t)
  after =
      front t (low_first 2 (length ls) ++ flat_map line_slot ls)
      (omega (arith, w.few, length-append (low_first 2 (length ls)) (flat_map line_slot ls), length-low_first 2 (length ls), length-flat 14 line_slot length-line ls))
      ∙ append_assoc (low_first 2 (length ls)) (flat_map line_slot ls) (drop (length (low_first 2 (length ls) ++ flat_map line_slot ls)) t)

  pub count-back : line_count (overlay t 0 (low_first 2 (length ls) ++ flat_map line_slot ls)) ≡ length ls
  unfolding line_count
  count-back =
      ap (λ (b : List ℕ). word_at 2 b 0) after
      ∙ word_first 2 (length ls) (flat_map line_slot ls ++ drop (length (low_first 2 (length ls) ++ flat_map line_slot ls)) t) (omega (arith, w.few))

  line-at : (i : ℕ) → i < length ls → line_at (overlay t 0 (low_first 2 (length ls) ++ flat_map line_slot ls)) i ≡ get_or ls i no_line
  unfolding line_at
  line-at i h =
      ap (λ (b : List ℕ). line_of (slot_at 2 14 b i)) after
      ∙ ap (λ (k : ℕ). line_of (slot_at k 14 (low_first 2 (length ls) ++ (flat_map line_slot ls ++ drop (length (low_first 2 (length ls) ++ flat_map line_slot ls)) t)) i)) (sym (length-low_first 2 (length ls)))
      ∙ ap line_of (slot-flat 14 line_slot length-line (low_first 2 (length ls)) ls (drop (length (low_first 2 (length ls) ++ flat_map line_slot ls)) t) i no_line h)
      ∙ line-back (get_or ls i no_line) (good-roomy (get_or ls i no_line) (all-at good_line ls i no_line w.good h))

  lines_at : table (length ls) (line_at (overlay t 0 (low_first 2 (length ls) ++ flat_map line_slot ls))) ≡ ls
  lines_at =
      table-cong (length ls) (line_at (overlay t 0 (low_first 2 (length ls) ++ flat_map line_slot ls))) (λ (i : ℕ). get_or ls i no_line) line-at
      ∙ table-self ls no_line (length ls) refl

  pub lines-back : lines_of (overlay t 0 (low_first 2 (length ls) ++ flat_map line_slot ls)) ≡ ls
  unfolding lines_of
  lines-back = ap (λ (k : ℕ). table k (line_at (overlay t 0 (low_first 2 (length ls) ++ flat_map line_slot ls)))) count-back ∙ lines_at

  numbers-back : table (length ls) (number_at (overlay t 0 (low_first 2 (length ls) ++ flat_map line_slot ls))) ≡ map number_of_line ls
  unfolding number_at
  numbers-back = sym (map-table number_of_line (length ls) (line_at (overlay t 0 (low_first 2 (length ls) ++ flat_map line_slot ls)))) ∙ ap (map number_of_line) lines_at

  pub table-reads : good_table (overlay t 0 (low_first 2 (length ls) ++ flat_map line_slot ls)) ≡ true
  unfolding good_table
  table-reads = rw (lines-back, count-back, le-leb (length ls) 1024 w.few, w.good, numbers-back, w.once)

-- ---- no file
module _ (f : List ℕ) (room : 8194 ≤ length f) where
  none-counted : file_count (overlay f 0 (low_first 2 0)) ≡ 0
  unfolding file_count
  none-counted = word_same 2 f 0 0 (omega arith) (lit< tt)

  pub no-files : files_of (overlay f 0 (low_first 2 0)) ≡ []
  unfolding files_of table
  no-files = ap (λ (k : ℕ). table k (file_at (overlay f 0 (low_first 2 0)))) none-counted

  pub files-read : good_files (overlay f 0 (low_first 2 0)) ≡ true
  unfolding good_files records_of total all none_twice
  files-read = rw (none-counted, no-files)

  pub records-read : (r c : List ℕ) → good_records (overlay f 0 (low_first 2 0)) r c ≡ true
  unfolding good_records records_of total table all
  records-read r c = rw no-files

-- ---- the first entries
module _ (e : List ℕ) (ls : List Line) (w : Table ls) (room : 102400 ≤ length e) where
  entry-slot : (i : ℕ) → i < length ls → slot_at 0 100 (overlay e 0 (flat_map first_slot ls)) i ≡ first_slot (get_or ls i no_line)
  entry-slot i h =
      ap (λ (b : List ℕ). slot_at 0 100 b i) (front e (flat_map first_slot ls) (omega (arith, w.few, length-flat 100 first_slot length-first ls)))
      ∙ slot-flat 100 first_slot length-first [] ls (drop (length (flat_map first_slot ls)) e) i no_line h

  owned : (i : ℕ) → i < length ls → (get_or ls i no_line).owner.0 ≤ 999
  owned i h = good-owner (get_or ls i no_line) (all-at good_line ls i no_line w.good h)

  pub entries-read : all good_entry (table (length ls) (slot_at 0 100 (overlay e 0 (flat_map first_slot ls)))) ≡ true
  unfolding first_slot
  entries-read =
      all-each good_entry (length ls) (slot_at 0 100 (overlay e 0 (flat_map first_slot ls)))
      (λ i h. ap good_entry (entry-slot i h) ∙ entry-fine (first_of (get_or ls i no_line)) (first_fine (record { owner = (get_or ls i no_line).owner; setup = (get_or ls i no_line).setup }) (owned i h)))

  pub entries-back : table (length ls) (entry_at (overlay e 0 (flat_map first_slot ls))) ≡ map first_of ls
  unfolding entry_at first_slot
  entries-back =
      table-cong (length ls) (entry_at (overlay e 0 (flat_map first_slot ls))) (λ (i : ℕ). first_of (get_or ls i no_line))
      (λ i h. ap entry_of (entry-slot i h) ∙ entry-back (first_of (get_or ls i no_line)) (first_fine (record { owner = (get_or ls i no_line).owner; setup = (get_or ls i no_line).setup }) (owned i h)))
      ∙ sym (map-table first_of (length ls) (λ (i : ℕ). get_or ls i no_line))
      ∙ ap (map first_of) (table-self ls no_line (length ls) refl)

-- ---- the whole
module _ (b : Buffers) (ls : List Line) (w : Table ls) (enough : long_enough b ≡ true) where
  room : Long b
  room = long b enough

  still-long : long_enough (with_table (Some ls) b) ≡ true
  unfolding long_enough
  still-long =
      rw (
        length-overlay b.table 0 (low_first 2 (length ls) ++ flat_map line_slot ls),
        length-overlay b.files 0 (low_first 2 0),
        length-overlay b.entries 0 (flat_map first_slot ls),
      )
      enough

  readable : is_readable (with_table (Some ls) b) ≡ true
  unfolding is_readable
  readable =
      rw (
        still-long,
        table-reads b.table ls w room.long-table,
        files-read b.files room.long-files,
        records-read b.files room.long-files b.regular b.corrections,
        count-back b.table ls w room.long-table,
        entries-read b.entries ls w room.long-entries,
      )

  holds : held (with_table (Some ls) b) ≡ started_with ls
  unfolding held started_with first_files filed_in files_of
  holds =
      let l : map table_line (lines_of (with_table (Some ls) b).table) ≡ map table_line ls = ap (map table_line) (lines-back b.table ls w room.long-table) in
      let f : read_files (with_table (Some ls) b).files b.regular b.corrections ≡ [] = ap (filed_in (records_at b.regular b.corrections) []) (no-files b.files room.long-files) in
      let e : table (line_count (with_table (Some ls) b).table) (entry_at (with_table (Some ls) b).entries) ≡ map first_of ls =
      ap (λ (k : ℕ). table k (entry_at (with_table (Some ls) b).entries)) (count-back b.table ls w room.long-table) ∙ entries-back b.entries ls w room.long-entries in
      λ i. record { lines = l i; files = f i; entries = e i }

  pub table-held : reads (with_table (Some ls) b) ≡ Some (started_with ls)
  table-held = reads-some (with_table (Some ls) b) readable ∙ ap Some holds

-- what answer 0 leaves reads as exactly the given table, no file, and one first entry for each line
pub started-reads : (text : List ℕ) (before after : Buffers) (n : ℕ) → Starts text before (Ok n) after
    → (ls : List Line) × (table_of text ≡ Some ls) × (n ≡ length ls) × (reads after ≡ Some (started_with ls))
unfolding start_answer start_buffers
started-reads text before after n s = go (long_enough before) (table_of text) refl refl s.answers s.leaves
  where
    go : (t : Bool) (o : Option (List Line)) → long_enough before ≡ t → table_of text ≡ o → Ok n ≡ cond t (answer_of (table_of text)) (Err Short) → after ≡ cond t (with_table (table_of text) before) before
        → (ls : List Line) × (table_of text ≡ Some ls) × (n ≡ length ls) × (reads after ≡ Some (started_with ls))
    go true (Some ls) p q a l =
        let counted : n ≡ length ls = cc in
        (ls, q, counted, ap reads (l ∙ ap (λ (o : Option (List Line)). with_table o before) q) ∙ table-held before ls (table-good text ls q) p)
    go true None p q a l = let z : ◌≡◌ {A = ℕ} 0 1 = cc in absurd (omega arith)
    go false o p q a l = let z : ◌≡◌ {A = ℕ} 0 1 = cc in absurd (omega arith)

-- a refusal writes nothing
pub refused-stays : (text : List ℕ) (before after : Buffers) (answer : Result ℕ NotStarted) → Starts text before answer after → ((n : ℕ) → answer ≡ Ok n → ⊥) → after ≡ before
unfolding start_answer start_buffers
refused-stays text before after answer s never = go (long_enough before) (table_of text) refl refl s.answers s.leaves
  where
    go : (t : Bool) (o : Option (List Line)) → long_enough before ≡ t → table_of text ≡ o → answer ≡ cond t (answer_of (table_of text)) (Err Short) → after ≡ cond t (with_table (table_of text) before) before
        → after ≡ before
    go true (Some ls) p q a l = absurd (never (length ls) (a ∙ ap answer_of q))
    go true None p q a l = l ∙ ap (λ (o : Option (List Line)). with_table o before) q
    go false o p q a l = l
