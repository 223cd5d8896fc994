-- The answers on where a line stands and on a number's entry, put together from what the code found. Assumes nothing.
use Rattle.std.specs.Option.{option_map}
use Rattle.std.specs.Prelude.{Some, None, Ok, Err}
use mathlib.Core.Path.{◌≡◌, refl, sym, ap, ◌∙◌}
use mathlib.Core.Bool.{Bool, true, false, cond, ◌&&◌}
use mathlib.Core.List.{List, [], ◌∷◌, ◌++◌}
use Prim.Native.Nat.{ℕ, suc, ◌+◌, ◌*◌, ◌≤◌, ◌<◌}
use native.Mathlib.Omega.{arith}
use borrow.Author.Tests.{ltb-true, ltb-false, leb-true}
use lib.Dec.{leb, ltb}
use lib.ListN.{length, take}
use lib.Seq.{take_all}
use Rattle.laws.specs.Lists.{table}
use Rattle.laws.proofs.Tests.{and_left, and_right}
use Rattle.laws.proofs.Tables.{length-table, map-table}
use Rattle.fields.specs.declared.number.Number.{Number}
use Rattle.entries.specs.declared.entry.Entry.{Entry}
use Rattle.verdict.specs.declared.step.Standing.{Standing}
use Rattle.model.specs.Rules.{TableLine}
use Rattle.model.specs.Model.{Filed, entry_over}
use Rattle.store.specs.journals.Files.{file_at, file_count}
use Rattle.store.specs.journals.Reads.{filed_in, first_files, read_files, records_at}
use Rattle.store.specs.declared.journals.files.File.{File}
use Rattle.rules.specs.Rules.{rules, standings}
use Rattle.rules.proofs.Promises.{standing-entry}
use Rattle.store.specs.numbers.Lines.{line_at, line_count, lines_of}
use Rattle.store.specs.entry_slots.Entries.{entry_at}
use Rattle.store.specs.numbers.Find.{found_line}
use Rattle.store.specs.Reads.{table_line}
use Rattle.asking.specs.declared.answer.NotShown.{NotShown}
use Rattle.asking.specs.declared.looks.NotSeen.{NotSeen}
use Rattle.asking.specs.Items.{item_at}
use Rattle.asking.specs.Standing.{lines_in, held_as, entry_in, entry_before, has_entries}
use Rattle.asking.specs.Showable.{is_showable}
use Rattle.asking.specs.Looks.{look_of, entry_looked, before_looked, stood_on, stood_at, standing_looked}
use Rattle.working.specs.Working.{Sound}
use Rattle.asking.proofs.Showing.{Showable, showable, sound}
use Rattle.asking.proofs.Lines.{item-table, item-beyond, found-line, no_line, found-entry, no-entry}

-- ---- the first files
length-filed : (r : ℕ → ℕ → List ℕ) (before fs : List File) → length (filed_in r before fs) ≡ length fs
unfolding filed_in
length-filed r before [] = refl
length-filed r before (f ∷ fs) = ap suc (length-filed r (before ++ (f ∷ [])) fs)

pub length-first : (n : ℕ) (f r c : List ℕ) → length (first_files n f r c) ≡ n
unfolding first_files
length-first n f r c = length-filed (records_at r c) [] (table n (file_at f)) ∙ length-table n (file_at f)

take-among : {A : Type 0} (l : List A) (n k : ℕ) → length l ≡ k → take (cond (ltb n k) n k) l ≡ take n l
take-among l n k e = go (ltb n k) refl
  where
    go : (b : Bool) → ltb n k ≡ b → take (cond b n k) l ≡ take n l
    go true q = refl
    go false q = take_all k l (omega arith) ∙ sym (take_all n l (omega (arith, ltb-false n k q)))

pub among_below : (n k m : ℕ) → m ≡ cond (ltb n k) n k → m ≤ k
among_below n k m e = rw e (go (ltb n k) refl)
  where
    go : (b : Bool) → ltb n k ≡ b → cond b n k ≤ k
    go true q = omega (arith, ltb-true n k q)
    go false q = omega arith

pub among_files : (f r c : List ℕ) (n m : ℕ) → m ≡ cond (ltb n (file_count f)) n (file_count f) → take m (read_files f r c) ≡ take n (read_files f r c)
among_files f r c n m e = ap (λ (k : ℕ). take k (read_files f r c)) e ∙ take-among (read_files f r c) n (file_count f) (length-first (file_count f) f r c)

-- ---- where a line stands
module _ (t : List ℕ) (files : List Filed) (n i : ℕ) where
  pub stood-beyond : line_count t ≤ i → Err NotSeen.UnknownNumber ≡ stood_at (lines_in t) files n i
  unfolding stood_at lines_of
  stood-beyond h =
      sym
      (ap (stood_on (take n files))
      (ap (λ l. item_at l i) (map-table table_line (line_count t) (line_at t)) ∙ item-beyond (line_count t) i (λ (j : ℕ). table_line (line_at t j)) h))

  pub stood-here : (s : Standing) → i < line_count t → s ≡ entry_over standings (take n files) (table_line (line_at t i)) → Ok s ≡ stood_at (lines_in t) files n i
  unfolding stood_at lines_of
  stood-here s h e =
      ap Ok e
      ∙ sym
      (ap (stood_on (take n files))
      (ap (λ l. item_at l i) (map-table table_line (line_count t) (line_at t)) ∙ item-table (line_count t) i (λ (j : ℕ). table_line (line_at t j)) h))

-- ---- the stored entry
pub record Roomy (t e : List ℕ) : Type 0 where
  pub long-table : 14338 ≤ length t
  pub long-entries : 102400 ≤ length e
  pub few-lines : line_count t ≤ 1024

pub has_room : (t e : List ℕ) → has_entries t e ≡ true → Roomy t e
unfolding has_entries
has_room t e h =
    let a : Bool = leb 14338 (length t) in
    let b : Bool = leb 102400 (length e) in
    let d : Bool = leb (line_count t) 1024 in
    let h₁ = and_right a (b && d) h in
    record {
      long-table = leb-true 14338 (length t) (and_left a (b && d) h);
      long-entries = leb-true 102400 (length e) (and_left b d h₁);
      few-lines = leb-true (line_count t) 1024 (and_right b d h₁);
    }

module _ (t : List ℕ) (x : Number) (room : 2 + line_count t * 14 ≤ length t) where
  module _ (g : ℕ → Entry) where
    pub held-unknown : None ≡ found_line t x → Err NotShown.UnknownNumber ≡ entry_in (lines_in t) (table (line_count t) g) x
    unfolding entry_in
    held-unknown q = sym (ap held_as (no-entry t x room g q))

    pub held-here : (i : ℕ) (y : Entry) → Some i ≡ found_line t x → y ≡ g i → Ok y ≡ entry_in (lines_in t) (table (line_count t) g) x
    unfolding entry_in
    held-here i y q p = ap Ok p ∙ sym (ap held_as (found-entry t x room g i q))

  -- ---- the entry before a file arrived
  module _ (files : List Filed) (n : ℕ) where
    pub before-unknown : None ≡ found_line t x → Err NotShown.UnknownNumber ≡ entry_before (lines_in t) files n x
    unfolding entry_before
    before-unknown q = sym (ap (λ l. held_as (option_map (entry_over rules (take n files)) l)) (no_line t x room q))

    pub before_here : (i : ℕ) (y : Entry) (s : Standing) → Some i ≡ found_line t x → s ≡ entry_over standings (take n files) (table_line (line_at t i)) → y ≡ s.entry
        → Ok y ≡ entry_before (lines_in t) files n x
    unfolding entry_before
    before_here i y s q e p =
        ap Ok (p ∙ ap (λ (u : Standing). u.entry) e ∙ standing-entry (take n files) (table_line (line_at t i)))
        ∙ sym (ap (λ l. held_as (option_map (entry_over rules (take n files)) l)) (found-line t x room i q))

-- ---- a look at a stored entry
module _ (t e : List ℕ) (x : Number) where
  pub entry_unshowable : has_entries t e ≡ false → Err NotSeen.Unshowable ≡ entry_looked t e x
  unfolding entry_looked
  entry_unshowable h = rw h

  module _ (yes : has_entries t e ≡ true) where
    line_room : 2 + line_count t * 14 ≤ length t
    line_room = let s = has_room t e yes in omega (arith, s.long-table, s.few-lines)

    pub entry_unknown : None ≡ found_line t x → Err NotSeen.UnknownNumber ≡ entry_looked t e x
    unfolding entry_looked
    entry_unknown q = rw yes (ap look_of (held-unknown t x line_room (entry_at e) q))

    pub entry_here : (i : ℕ) (y : Entry) → Some i ≡ found_line t x → y ≡ entry_at e i → Ok y ≡ entry_looked t e x
    unfolding entry_looked
    entry_here i y q p = rw yes (ap look_of (held-here t x line_room (entry_at e) i y q p))

-- ---- and at any line or entry over the first files
module _ (t f r c : List ℕ) (n : ℕ) where
  -- working out over them is sound
  pub sound_among : (m : ℕ) → Showable t f r c → m ≡ cond (ltb n (file_count f)) n (file_count f) → Sound m f r c
  sound_among m s e = sound t f r c m s (among_below n (file_count f) m e)

  over-files : (line : TableLine Number) (m : ℕ) → m ≡ cond (ltb n (file_count f)) n (file_count f) → entry_over standings (take m (read_files f r c)) line ≡ entry_over standings (take n (read_files f r c)) line
  over-files line m e = ap (λ (l : List Filed). entry_over standings l line) (among_files f r c n m e)

  pub before_unshowable : (x : Number) → is_showable t f r c ≡ false → Err NotSeen.Unshowable ≡ before_looked t f r c n x
  unfolding before_looked
  before_unshowable x h = rw h

  pub stood_unshowable : (i : ℕ) → is_showable t f r c ≡ false → Err NotSeen.Unshowable ≡ standing_looked t f r c n i
  unfolding standing_looked
  stood_unshowable i h = rw h

  module _ (yes : is_showable t f r c ≡ true) where
    shown_room : 2 + line_count t * 14 ≤ length t
    shown_room = let s = showable t f r c yes in omega (arith, s.long-table, s.few-lines)

    pub before_unknown : (x : Number) → None ≡ found_line t x → Err NotSeen.UnknownNumber ≡ before_looked t f r c n x
    unfolding before_looked
    before_unknown x q = rw yes (ap look_of (before-unknown t x shown_room (read_files f r c) n q))

    pub entry_before_here : (x : Number) (i m : ℕ) (s : Standing) → Some i ≡ found_line t x → m ≡ cond (ltb n (file_count f)) n (file_count f)
        → s ≡ entry_over standings (take m (read_files f r c)) (table_line (line_at t i)) → Ok s.entry ≡ before_looked t f r c n x
    unfolding before_looked
    entry_before_here x i m s q em e =
        rw yes (ap look_of (before_here t x shown_room (read_files f r c) n i s.entry s q (e ∙ over-files (table_line (line_at t i)) m em) refl))

    pub stood_beyond : (i k : ℕ) → k ≡ line_count t → k ≤ i → Err NotSeen.UnknownNumber ≡ standing_looked t f r c n i
    unfolding standing_looked
    stood_beyond i k ek h = rw yes (stood-beyond t (read_files f r c) n i (omega (arith, ek)))

    pub stood_here : (i k m : ℕ) (s : Standing) → k ≡ line_count t → i < k → m ≡ cond (ltb n (file_count f)) n (file_count f)
        → s ≡ entry_over standings (take m (read_files f r c)) (table_line (line_at t i)) → Ok s ≡ standing_looked t f r c n i
    unfolding standing_looked
    stood_here i k m s ek h em e = rw yes (stood-here t (read_files f r c) n i s (omega (arith, ek)) (e ∙ over-files (table_line (line_at t i)) m em))
