-- The line that is found in the buffer is the model's line of the number, and the entry beside it the model's. Assumes nothing.
use Rattle.std.proofs.lemmas.Option.{slice_get-get_or, slice_get_past}
use Rattle.std.specs.Option.{option_map}
use Rattle.std.specs.Prelude.{Some, None}
use mathlib.Core.Path.{◌≡◌, refl, sym, ap, ◌∙◌}
use mathlib.Core.Bool.{Bool, true, false, cond}
use mathlib.Core.List.{◌++◌, [], ◌∷◌, List, [], ◌∷◌, map}
use Prim.Native.Nat.{ℕ, suc, ◌+◌, ◌*◌, ◌≤◌, ◌<◌}
use native.Mathlib.Omega.{arith}
use borrow.Author.Tests.{ltb-true, ltb-false, le-leb}
use lib.Dec.{ltb}
use lib.ListN.{length, get_or}
use Rattle.laws.specs.Lists.{table, first_at}
use Rattle.laws.proofs.Tables.{length-table, get_or-table}
use Rattle.fields.specs.Number.{same_number}
use Rattle.fields.specs.declared.number.Number.{Number}
use Rattle.entries.specs.declared.entry.Entry.{Entry}
use Rattle.model.specs.Model.{line_of, entry_of}
use Rattle.rules.specs.Rules.{rules}
use Rattle.store.specs.numbers.Lines.{line_at, line_count, lines_of}
use Rattle.store.specs.numbers.Find.{is_of, found_line}
use Rattle.store.specs.declared.numbers.lines.Line.{Line}
use Rattle.store.specs.Reads.{table_line}
use Rattle.asking.specs.Items.{item_at}
use Rattle.asking.specs.Standing.{lines_in}

-- ---- the element at a place
pub item-at : {A : Type 0} (l : List A) (i : ℕ) (d : A) → i < length l → item_at l i ≡ Some (get_or l i d)
item-at l i d h = slice_get-get_or l i d h

pub item-none : {A : Type 0} (l : List A) (i : ℕ) → length l ≤ i → item_at l i ≡ None
item-none l i h = slice_get_past l i h

-- behind a list in front of it
pub item-behind : {A : Type 0} (l m : List A) (i : ℕ) → item_at (l ++ m) (length l + i) ≡ item_at m i
item-behind [] m i = let e : 0 + i ≡ i = omega arith in rw e refl
item-behind (x ∷ l) m i =
    let e : length (x ∷ l) + i ≡ suc (length l + i) = omega arith in
    rw e (item-behind l m i)

pub item-table : {A : Type 0} (n i : ℕ) (f : ℕ → A) → i < n → item_at (table n f) i ≡ Some (f i)
item-table n i f h = item-at (table n f) i (f i) (rw (length-table n f) h) ∙ ap Some (get_or-table n i f (f i) h)

pub item-beyond : {A : Type 0} (n i : ℕ) (f : ℕ → A) → n ≤ i → item_at (table n f) i ≡ None
item-beyond n i f h = item-none (table n f) i (rw (length-table n f) h)

-- ---- the model's line and entry of a number, by the place of its line
module _ (x : Number) where
  line-item : (ls : List Line) → line_of rules (map table_line ls) x ≡ option_map table_line (item_at ls (first_at (is_of x) ls))
  unfolding line_of is_of
  line-item [] = refl
  line-item (l ∷ ls) = go (same_number l.number x) (line-item ls)
    where
      go : (t : Bool) → line_of rules (map table_line ls) x ≡ option_map table_line (item_at ls (first_at (is_of x) ls)) → cond t (Some (table_line l)) (line_of rules (map table_line ls) x) ≡ option_map table_line (item_at (l ∷ ls) (cond t 0 (suc (first_at (is_of x) ls))))
      go true ih = refl
      go false ih = ih

  entry-item : (ls : List Line) (es : List Entry) → length es ≡ length ls → entry_of rules (map table_line ls) es x ≡ item_at es (first_at (is_of x) ls)
  unfolding entry_of is_of
  entry-item [] [] e = refl
  entry-item [] (y ∷ es) e = absurd (omega arith)
  entry-item (l ∷ ls) [] e = absurd (omega arith)
  entry-item (l ∷ ls) (y ∷ es) e = go (same_number l.number x) (entry-item ls es (omega arith))
    where
      go : (t : Bool) → entry_of rules (map table_line ls) es x ≡ item_at es (first_at (is_of x) ls) → cond t (Some y) (entry_of rules (map table_line ls) es x) ≡ item_at (y ∷ es) (cond t 0 (suc (first_at (is_of x) ls)))
      go true ih = refl
      go false ih = ih

-- ---- what is found
module _ (t : List ℕ) (x : Number) (room : 2 + line_count t * 14 ≤ length t) where
  -- the place at which the search ends
  abbrev place : ℕ
  place = first_at (is_of x) (lines_of t)

  at_place : (i : ℕ) → Some i ≡ found_line t x → (i < line_count t) × (place ≡ i)
  unfolding found_line
  at_place i e = go (ltb place (line_count t)) refl (e ∙ ap (λ (b : Bool). cond b (cond (ltb place (line_count t)) (Some place) None) None) (le-leb (2 + line_count t * 14) (length t) room))
    where
      go : (b : Bool) → ltb place (line_count t) ≡ b → Some i ≡ cond b (Some place) None → (i < line_count t) × (place ≡ i)
      go true q h = let s : place ≡ i = cc in (rw s at (ltb-true place (line_count t) q), s)
      go false q h = let z : ◌≡◌ {A = ℕ} 0 1 = cc in absurd (omega arith)

  at-end : None ≡ found_line t x → line_count t ≤ place
  unfolding found_line
  at-end e = go (ltb place (line_count t)) refl (e ∙ ap (λ (b : Bool). cond b (cond (ltb place (line_count t)) (Some place) None) None) (le-leb (2 + line_count t * 14) (length t) room))
    where
      go : (b : Bool) → ltb place (line_count t) ≡ b → None ≡ cond b (Some place) None → line_count t ≤ place
      go true q h = let z : ◌≡◌ {A = ℕ} 0 1 = cc in absurd (omega arith)
      go false q h = ltb-false place (line_count t) q

  pub found_below : (i : ℕ) → Some i ≡ found_line t x → i < line_count t
  found_below i e = (at_place i e).0

  pub found-line : (i : ℕ) → Some i ≡ found_line t x → line_of rules (lines_in t) x ≡ Some (table_line (line_at t i))
  unfolding lines_of
  found-line i e =
      line-item x (lines_of t) ∙ ap (λ (k : ℕ). option_map table_line (item_at (lines_of t) k)) (at_place i e).1
      ∙ ap (option_map table_line) (item-table (line_count t) i (line_at t) (at_place i e).0)

  pub no_line : None ≡ found_line t x → line_of rules (lines_in t) x ≡ None
  unfolding lines_of
  no_line e = line-item x (lines_of t) ∙ ap (option_map table_line) (item-beyond (line_count t) place (line_at t) (at-end e))

  module _ (g : ℕ → Entry) where
    as_many : length (table (line_count t) g) ≡ length (lines_of t)
    unfolding lines_of
    as_many = length-table (line_count t) g ∙ sym (length-table (line_count t) (line_at t))

    pub found-entry : (i : ℕ) → Some i ≡ found_line t x → entry_of rules (lines_in t) (table (line_count t) g) x ≡ Some (g i)
    found-entry i e =
        entry-item x (lines_of t) (table (line_count t) g) as_many ∙ ap (item_at (table (line_count t) g)) (at_place i e).1
        ∙ item-table (line_count t) i g (at_place i e).0

    pub no-entry : None ≡ found_line t x → entry_of rules (lines_in t) (table (line_count t) g) x ≡ None
    no-entry e = entry-item x (lines_of t) (table (line_count t) g) as_many ∙ item-beyond (line_count t) place g (at-end e)
