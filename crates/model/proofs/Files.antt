-- Files, their records and the history of a number. What is assumed of the rules stands in each law.
--     event-of, journal-file           a record of the journal is the one at its place of a file
--     once_more, once-tested           no file twice (`Once`): after one more file, and from the computed test
--     journal-own, journal-other       the records of a file join their journal behind the others, and the other journal is as it was
--     both-journals                    the two journals hold the records of all files
--     journal-decided                  no two records have the same place in the processing order
--     history-other, renewed-worked    a file that doesn't name a number leaves its history; a renewed entry is the one worked out afresh
--     history-perm, history-at         these records in any order lead to the same history; a record stands at its point of it
--     history-depends, entry-depends   what the entry of a number depends on
use Rattle.std.specs.Option.{option_map}
use Rattle.std.specs.Prelude.{Some}
use mathlib.Core.Path.{◌≡◌, refl, sym, ap, ◌∙◌}
use mathlib.Core.Logic.{⊎_elim, ∥∥₁_elim, ∥∥₁_map}
use mathlib.Core.Bool.{Bool, true, false, cond, not, ◌&&◌, ◌||◌, true≢false}
use mathlib.Core.List.Memᴰ
use mathlib.Core.List.{List, [], ◌∷◌, ◌++◌, append-nil, map, flat_map, Memᴰ, is_set, Perm}
use Prim.Native.Nat.{ℕ}
use native.Mathlib.Nat.{ℕ_set}
use borrow.Author.Tests.{eq-eqb, ne_eqb}
use lib.Dec.{eqb}
use lib.ListN.{length}
use Rattle.laws.specs.Lists.{keep, any}
use Rattle.laws.specs.Order.{in_order, Decided}
use Rattle.model.specs.Rules.{Line, Event, Event-set, Rules, Lawful}
use Rattle.model.specs.Model.{Filed, event_at, events, journal, journal_of, about, named, key, not_later, history, entry_over, verdict_over, worked, before, alike, no_file_twice, renewed, entry_of, line_of}
use Rattle.laws.proofs.Tests.{eqb_comm}
use Rattle.laws.proofs.Lists.{keep_append, keep-end-yes, keep-end-no, keep-none, keep-perm, keep_same, parts-perm, mem-keep, keep-mem, any-no, mem-table, mem-flat, flat_append, flat-perm}
use Rattle.laws.proofs.Tables.{any-more}
use Rattle.laws.proofs.Order.{perm-in_order, at-point}
use Rattle.laws.proofs.ByKey.{after_both, by_key}

-- ---- files and their records
-- a record of a file is the one at its place
pub event-of : {e : Event} (f : Filed) → Memᴰ e (events f) → e ≡ event_at f e.place
unfolding events
event-of f m = let r = mem-table (length f.records) (event_at f) m in r.1 ∙ ap (event_at f) (sym (ap (λ (d : Event). d.place) r.1))

-- no file twice: files of the same publisher, day and kind are the same file
abbrev pub Once : List Filed → Type 0
Once files = (f g : Filed) → Memᴰ f files → Memᴰ g files → f.publisher ≡ g.publisher → f.day ≡ g.day → f.kind ≡ g.kind → f ≡ g

alike-true : (f g : Filed) → f.publisher ≡ g.publisher → f.day ≡ g.day → f.kind ≡ g.kind → alike f g ≡ true
unfolding alike
alike-true f g p d k = rw (eq-eqb f.publisher g.publisher p, eq-eqb f.day g.day d, eq-eqb f.kind g.kind k)

once-cons : (files : List Filed) (h : Filed) → Once files → any (alike h) files ≡ false → Once (h ∷ files)
once-cons files h once new f g (Memᴰ.head e) (Memᴰ.head q) p d k = e ∙ sym q
once-cons files h once new f g (Memᴰ.head e) (Memᴰ.tail n) p d k =
    absurd (true≢false (sym (alike-true h g (cc) (cc) (cc)) ∙ any-no (alike h) files new n))
once-cons files h once new f g (Memᴰ.tail m) (Memᴰ.head e) p d k =
    absurd (true≢false (sym (alike-true h f (cc) (cc) (cc)) ∙ any-no (alike h) files new m))
once-cons files h once new f g (Memᴰ.tail m) (Memᴰ.tail n) p d k = once f g m n p d k

pub once_more : (files : List Filed) (h : Filed) → Once files → any (alike h) files ≡ false → Once (files ++ (h ∷ []))
once_more files h once new f g j k = once-cons files h once new f g (first f j) (first g k)
  where
    first : (e : Filed) → Memᴰ e (files ++ (h ∷ [])) → Memᴰ e (h ∷ files)
    first e m = ⊎_elim (λ k. Memᴰ.tail k) (λ k. Memᴰ.head (Memᴰ.eq_of_singleton k)) (Memᴰ.append_cases files m)

-- what a reader of the list tests
pub once-tested : (files : List Filed) → no_file_twice files ≡ true → Once files
unfolding no_file_twice
once-tested [] h = λ f g j k p d q. absurd (Memᴰ.not-nil j)
once-tested (h ∷ files) e = go (any (alike h) files) refl e (once-tested files)
  where
    go : (t : Bool) → any (alike h) files ≡ t → (not t && no_file_twice files) ≡ true → (no_file_twice files ≡ true → Once files) → Once (h ∷ files)
    go true q e ih = absurd (true≢false (sym e))
    go false q e ih = once-cons files h (ih e) q

alike-comm : (f g : Filed) → alike f g ≡ alike g f
unfolding alike
alike-comm f g = λ k. eqb_comm f.publisher g.publisher k && (eqb_comm f.day g.day k && eqb_comm f.kind g.kind k)

-- and what is true of it after one more file
pub twice-more : (files : List Filed) (h : Filed) → no_file_twice (files ++ (h ∷ [])) ≡ (no_file_twice files && not (any (alike h) files))
unfolding no_file_twice any
twice-more [] h = refl
twice-more (f ∷ files) h =
    rw (any-more (alike f) files h, alike-comm f h, twice-more files h) (go (any (alike f) files) (alike h f) (no_file_twice files) (any (alike h) files))
  where
    go : (a x b c : Bool) → (not (a || x) && (b && not c)) ≡ ((not a && b) && not (x || c))
    go true x b c = refl
    go false true true c = refl
    go false true false c = refl
    go false false b c = refl

pub journal-one : (files : List Filed) (f : Filed) → journal (files ++ (f ∷ [])) ≡ journal files ++ events f
unfolding journal
journal-one files f = flat_append events files (f ∷ []) ∙ ap (λ (l : List Event). flat_map events files ++ l) (unfold flat_map in append-nil (events f))

-- a record of the journal is one of a file
pub journal-file : {e : Event} (files : List Filed) → Memᴰ e (journal files) → (f : Filed) × Memᴰ f files × Memᴰ e (events f)
unfolding journal
journal-file files m = mem-flat events files m

-- the file's records join their journal behind the stored ones, and the other journal is as it was
module _ (files : List Filed) (f : Filed) (kind : ℕ) where
  pub journal-own : f.kind ≡ kind → journal_of kind (files ++ (f ∷ [])) ≡ journal_of kind files ++ events f
  unfolding journal_of
  journal-own h = ap journal (keep-end-yes _ files f (eq-eqb f.kind kind h)) ∙ journal-one _ f

  pub journal-other : (f.kind ≡ kind → ⊥) → journal_of kind (files ++ (f ∷ [])) ≡ journal_of kind files
  unfolding journal_of
  journal-other h = ap journal (keep-end-no _ files f (ne_eqb f.kind kind h))

-- the two journals hold the records of all files, where each file is of one of two kinds
pub both-journals : (k m : ℕ) (files : List Filed) → ((f : Filed) → Memᴰ f files → eqb f.kind m ≡ not (eqb f.kind k)) → Perm (journal_of k files ++ journal_of m files) (journal files)
unfolding journal_of journal
both-journals k m files h =
    rw (keep_same _ (λ (f : Filed). not (eqb f.kind k)) files h, ← flat_append events (keep (λ (f : Filed). eqb f.kind k) files) (keep (λ (f : Filed). not (eqb f.kind k)) files))
    (∣ flat-perm events (parts-perm (λ (f : Filed). eqb f.kind k) files) ∣₁)

module _ (R : Rules) (L : Lawful R) where
  -- no two records of the journal have the same place in the processing order
  pub journal-decided : (files : List Filed) → Once files → Decided (not_later R) (journal files)
  journal-decided files once a b j k p q =
      let f = journal-file files j in
      let g = journal-file files k in
      let a_at = event-of f.0 f.2 in
      let b_at = event-of g.0 g.2 in
      let keys : key R a ≡ key R b = after_both (key R a) (key R b) p q in
      let kinds : a.kind ≡ b.kind = L.class-kind a.kind b.kind a.bytes b.bytes (cc) in
      let same : f.0 ≡ g.0 = once f.0 g.0 f.1 g.1 (cc) (cc) (cc) in
      let places : a.place ≡ b.place = cc in
      a_at ∙ (λ i. event_at (same i) (places i)) ∙ sym b_at

module _ (R : Rules) where
  -- a file that doesn't name the number leaves its history as it was
  pub history-other : (files : List Filed) (f : Filed) (n : R.Number) → named R f n ≡ false → history R (files ++ (f ∷ [])) n ≡ history R files n
  unfolding history named
  history-other files f n h =
      ap (in_order (not_later R))
      (ap (keep (about R n)) (journal-one files f) ∙ keep_append (about R n) (journal files) (events f)
      ∙ ap (λ (l : List Event). keep (about R n) (journal files) ++ l) (keep-none (about R n) (events f) (λ e m. any-no (about R n) (events f) h m))
      ∙ append-nil (keep (about R n) (journal files)))

  entry_other : (files : List Filed) (f : Filed) (line : Line R) → named R f line.number ≡ false → entry_over R (files ++ (f ∷ [])) line ≡ entry_over R files line
  unfolding entry_over
  entry_other files f line h = rw (history-other files f line.number h)

  -- an entry that was worked out is worked out again where the file is filed
  pub renewed-worked : (files : List Filed) (f : Filed) (line : Line R) → renewed R files f line (entry_over R files line) ≡ entry_over R (files ++ (f ∷ [])) line
  renewed-worked files f line = go (named R f line.number) refl
    where
      go : (t : Bool) → named R f line.number ≡ t → cond t (entry_over R (files ++ (f ∷ [])) line) (entry_over R files line) ≡ entry_over R (files ++ (f ∷ [])) line
      go true e = refl
      go false e = sym (entry_other files f line e)

  -- the entry beside a number's line, where each line's entry is worked out from the line
  pub entry-of : (g : Line R → R.Entry) (lines : List (Line R)) (n : R.Number) → entry_of R lines (map g lines) n ≡ option_map g (line_of R lines n)
  unfolding entry_of line_of
  entry-of g [] n = refl
  entry-of g (l ∷ ls) n = go (R.same l.number n) (entry-of g ls n)
    where
      go : (t : Bool) → entry_of R ls (map g ls) n ≡ option_map g (line_of R ls n) → cond t (Some (g l)) (entry_of R ls (map g ls) n) ≡ option_map g (cond t (Some l) (line_of R ls n))
      go true ih = refl
      go false ih = ih

-- ---- what the entry of a number depends on: the records that name it, in whatever order they came
module _ (R : Rules) (L : Lawful R) (fs : List Filed) (once : Once fs) where
  kept-decided : (n : R.Number) → Decided (not_later R) (keep (about R n) (journal fs))
  kept-decided n a b j k = journal-decided R L fs once a b (mem-keep (about R n) (journal fs) j) (mem-keep (about R n) (journal fs) k)

  -- these records in any order, once they are put in order, are the history
  pub history-perm : (n : R.Number) {l : List Event} → Perm (keep (about R n) (journal fs)) l → history R fs n ≡ in_order (not_later R) l
  unfolding history
  history-perm n p =
      ∥∥₁_elim p (is_set (Event-set ℕ_set (is_set ℕ_set)) _ _) (λ d. perm-in_order (not_later R) (by_key (key R)) d (kept-decided n))

  -- a record that names the number stands at its point of the history: those before it, itself, the others
  pub history-at : (n : R.Number) (e : Event) → Memᴰ e (journal fs) → about R n e ≡ true → (rest : List Event) × (history R fs n ≡ before R e (history R fs n) ++ (e ∷ rest))
  unfolding history before
  history-at n e m h = at-point (not_later R) (by_key (key R)) e (keep (about R n) (journal fs)) (kept-decided n) (keep-mem (about R n) m h)

  module _ (gs : List Filed) where
    pub history-depends : (n : R.Number) → Perm (keep (about R n) (journal fs)) (keep (about R n) (journal gs)) → history R fs n ≡ history R gs n
    unfolding history
    history-depends n p = history-perm n p

    pub entry-depends : (line : Line R) → Perm (keep (about R line.number) (journal fs)) (keep (about R line.number) (journal gs)) → entry_over R fs line ≡ entry_over R gs line
    unfolding entry_over
    entry-depends line p = rw (history-depends line.number p)

    -- the same files in another order
    module _ (p : Perm fs gs) where
      pub history-any-order : (n : R.Number) → history R fs n ≡ history R gs n
      unfolding journal
      history-any-order n = history-depends n (∥∥₁_map p (λ d. keep-perm (about R n) (flat-perm events d)))

      pub entry-any-order : (line : Line R) → entry_over R fs line ≡ entry_over R gs line
      unfolding entry_over
      entry-any-order line = rw (history-any-order line.number)

      pub verdict-any-order : (line : Line R) (e : Event) → verdict_over R fs line e ≡ verdict_over R gs line e
      unfolding verdict_over
      verdict-any-order line e = ap (λ (l : List Event). R.verdict line (worked R line (before R e l)) e) (history-any-order line.number)
