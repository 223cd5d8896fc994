-- The figure: counted line by line; nothing in every store reached from a start, and otherwise the number of entries that were changed. Assumes nothing.
--     figure-of-changes     where the entries of a reached store were replaced by any others, the figure is the number of places at which they differ
--     figure-nothing        in a reached store it is 0
--     changed-at            a place counts exactly if the two entries there are not equal
use Rattle.std.specs.Prelude.{Ok, Err}
use mathlib.Core.Path.{◌≡◌, refl, sym, ap, ◌∙◌}
use mathlib.Core.Bool.{Bool, true, false, cond, not, true≢false}
use mathlib.Core.List.{List, [], ◌∷◌, ◌++◌, map, zip_with}
use Prim.Native.Nat.{ℕ, zero, suc, ◌+◌}
use native.Mathlib.Omega.{arith}
use lib.ListN.{length, take}
use lib.Seq.{take_all}
use Rattle.laws.specs.Lists.{table, keep}
use Rattle.laws.proofs.Lists.{length-keep-end}
use Rattle.laws.proofs.Tables.{table_more, length-table, map-table}
use Rattle.fields.specs.declared.number.Number.{Number}
use Rattle.entries.specs.declared.entry.Entry.{Entry}
use Rattle.entries.specs.comparing.Same.{same_entry}
use Rattle.entries.proofs.comparing.SameLaws.{same-entry-equal, same-entry-refl}
use Rattle.model.specs.Rules.{TableLine}
use Rattle.model.specs.Model.{Filed, Store, Reached, entry_over}
use Rattle.verdict.specs.declared.step.Standing.{Standing}
use Rattle.rules.specs.Rules.{rules, standings}
use Rattle.rules.proofs.Promises.{entries-worked-afresh, standing-entry}
use Rattle.store.specs.journals.Files.{file_count}
use Rattle.store.specs.journals.Reads.{read_files}
use Rattle.store.specs.numbers.Lines.{line_count, line_at, lines_of}
use Rattle.store.specs.entry_slots.Entries.{entry_at}
use Rattle.store.specs.Reads.{table_line, lent, held, is_readable, reads}
use Rattle.store.proofs.Checks.{reads-some, reads_none}
use Rattle.asking.specs.Standing.{lines_in}
use Rattle.asking.proofs.Standings.{length-first}
use Rattle.asking.specs.answering.Figure.{differs, how_many, figure_of, figure_asked, differing}

-- ---- one entry
pub differs-found : (files : List Filed) (line : TableLine Number) (held : Entry) (s : Standing) (stored : Entry) (same : Bool) → s ≡ entry_over standings files line → stored ≡ held → same ≡ same_entry stored s.entry
    → not same ≡ differs files line held
unfolding differs
differs-found files line held s stored same es eh e =
    ap not (e ∙ (λ j. same_entry (eh j) ((ap (λ (u : Standing). u.entry) es ∙ standing-entry files line) j)))

pub other_differs : (files : List Filed) (line : TableLine Number) (held : Entry) (s : Standing) (other : Bool) → s ≡ entry_over standings files line → other ≡ not (same_entry held s.entry) → other ≡ differs files line held
other_differs files line held s other es e = e ∙ differs-found files line held s held (same_entry held s.entry) es refl refl

-- ---- two tables side by side
zip_end : {A B C : Type 0} (f : A → B → C) (l : List A) (m : List B) (x : A) (y : B) → length l ≡ length m → zip_with f (l ++ (x ∷ [])) (m ++ (y ∷ [])) ≡ zip_with f l m ++ (f x y ∷ [])
unfolding zip_with
zip_end f [] [] x y h = refl
zip_end f [] (b ∷ m) x y h = absurd (omega arith)
zip_end f (a ∷ l) [] x y h = absurd (omega arith)
zip_end f (a ∷ l) (b ∷ m) x y h = ap (λ k. f a b ∷ k) (zip_end f l m x y (omega arith))

pub zip-table : {A B C : Type 0} (f : A → B → C) (n : ℕ) (g : ℕ → A) (h : ℕ → B) → zip_with f (table n g) (table n h) ≡ table n (λ (i : ℕ). f (g i) (h i))
unfolding table zip_with
zip-table f zero g h = refl
zip-table f (suc n) g h = zip_end f (table n g) (table n h) (g n) (h n) (length-table n g ∙ sym (length-table n h)) ∙ ap (λ k. k ++ (f (g n) (h n) ∷ [])) (zip-table f n g h)

-- ---- a turn of the count
module _ (files : List Filed) (t e : List ℕ) where
  abbrev here : ℕ → Bool
  here i = differs files (table_line (line_at t i)) (entry_at e i)

  pub differing_none : 0 ≡ differing files t e 0
  unfolding differing table keep
  differing_none = refl

  pub differing_more : (i count m : ℕ) (d : Bool) → d ≡ here i → m ≡ cond d 1 0 → count ≡ differing files t e i → count + m ≡ differing files t e (i + 1)
  unfolding differing
  differing_more i count m d ed em ec =
      (λ j. ec j + (em ∙ ap (λ (u : Bool). cond u 1 0) ed) j)
      ∙ sym (ap how_many (table_more i here) ∙ length-keep-end (λ (u : Bool). u) (table i here) (here i))

  pub figure-counted : differing files t e (line_count t) ≡ figure_of (lines_in t) files (table (line_count t) (entry_at e))
  unfolding differing figure_of lines_of
  figure-counted =
      ap how_many
      (sym (ap (λ (l : List (TableLine Number)). zip_with (differs files) l (table (line_count t) (entry_at e))) (map-table table_line (line_count t) (line_at t))
      ∙ zip-table (differs files) (line_count t) (λ (i : ℕ). table_line (line_at t i)) (entry_at e)))

-- ---- the answers
module _ (t f r c e : List ℕ) where
  pub figure_unread : is_readable (lent t f r c e) ≡ false → Err (record {}) ≡ figure_asked (reads (lent t f r c e))
  figure_unread h = ap figure_asked (sym (reads_none (lent t f r c e) h))

  pub figure_answer : is_readable (lent t f r c e) ≡ true → (n m count : ℕ) → n ≡ file_count f → m ≡ line_count t → count ≡ differing (take n (read_files f r c)) t e m
      → Ok count ≡ figure_asked (reads (lent t f r c e))
  unfolding held
  figure_answer h n m count en em ec =
      ap Ok
      (ec ∙ ap (λ (k : ℕ). differing (take n (read_files f r c)) t e k) em
      ∙ ap (λ (fs : List Filed). differing fs t e (line_count t)) (take_all n (read_files f r c) (omega (arith, length-first (file_count f) f r c)))
      ∙ figure-counted (read_files f r c) t e)
      ∙ ap figure_asked (sym (reads-some (lent t f r c e) h))

-- ---- what the figure shows
-- two entries are not equal
abbrev pub unlike : Entry → Entry → Bool
unlike x y = not (same_entry y x)

-- at how many places two lists of entries are not equal
abbrev pub changes : List Entry → List Entry → ℕ
changes before after = how_many (zip_with unlike before after)

zip-worked : (g : TableLine Number → Entry) (lines : List (TableLine Number)) (es : List Entry) → zip_with (λ (line : TableLine Number) (x : Entry). unlike (g line) x) lines es ≡ zip_with unlike (map g lines) es
unfolding zip_with
zip-worked g [] es = refl
zip-worked g (l ∷ ls) [] = refl
zip-worked g (l ∷ ls) (y ∷ es) = ap (λ k. unlike (g l) y ∷ k) (zip-worked g ls es)

-- what would the figure have shown if the entries had been wrong: exactly how many were
pub figure-of-changes : {s : Store rules} → Reached rules s → (es : List Entry) → figure_of s.lines s.files es ≡ changes s.entries es
unfolding figure_of differs
figure-of-changes {s} r es =
    ap how_many (zip-worked (entry_over rules s.files) s.lines es) ∙ ap (λ (l : List Entry). changes l es) (sym (entries-worked-afresh r))

no-changes : (es : List Entry) → changes es es ≡ 0
unfolding zip_with keep
no-changes [] = refl
no-changes (y ∷ es) = rw (same-entry-refl y) (no-changes es)

pub figure-nothing : {s : Store rules} → Reached rules s → figure_of s.lines s.files s.entries ≡ 0
figure-nothing {s} r = figure-of-changes r s.entries ∙ no-changes s.entries

-- a place counts exactly if the two entries there are not equal
pub changed-at : (x y : Entry) → (unlike x y ≡ false → y ≡ x) × (y ≡ x → unlike x y ≡ false)
changed-at x y = (λ e. go (same_entry y x) refl e, λ e. rw (e, same-entry-refl x))
  where
    go : (b : Bool) → same_entry y x ≡ b → not b ≡ false → y ≡ x
    go true q h = same-entry-equal y x q
    go false q h = absurd (true≢false h)
