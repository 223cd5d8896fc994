-- The theorems on stores. What is assumed of the rules stands in each.
--     entries-worked, entry-worked    demand 3: in every store that is reached, each entry is the one worked out afresh from the files
--     entry-untouched                 filing leaves the entry of a number that the file doesn't name as it was, in any store
--     number-depends                  the entry of a number depends on its line and the records that name it
--     entries-before, was             what the first n files lead to is what the entries were when only these had arrived
--     reached-once                    no file twice
--     reached-worked                  where no file is twice and each entry is the one worked out, the store is one that is reached
--     any_order                       the order of arrival plays no part
use Rattle.std.specs.Option.{option_map}
use Rattle.std.specs.Prelude.{Option, Some, None}
use mathlib.Core.Path.{◌≡◌, refl, sym, ap, ◌∙◌, subst}
use mathlib.Core.Logic.{⊎_elim}
use mathlib.Core.Bool.{Bool, true, false, cond, not}
use mathlib.Core.List.Memᴰ
use mathlib.Core.List.{List, [], ◌∷◌, ◌++◌, append-nil, append_assoc, map, flat_map, zip_with, Perm}
use Prim.Native.Nat.{ℕ, ◌≤◌, ◌<◌}
use native.Mathlib.Omega.{arith}
use lib.ListN.{length, length-append, length-map}
use lib.Seq.{take_at}
use Rattle.laws.specs.Lists.{keep, any}
use Rattle.laws.specs.Order.{in_order}
use Rattle.model.specs.Rules.{Line, Event, Rules, Lawful}
use Rattle.model.specs.Model.{Filed, Store, Reached, start, file, alike, no_file_twice, journal, about, named, history, entry_over, started, renewed, filed, number_of, entry_of, line_of, judged, verdict_of, entries_before, Later, now, then}
use Rattle.laws.proofs.Tests.{le-or-lt, and_left, and_right, not_yes}
use Rattle.laws.proofs.Lists.{zip-map, none-in-front}
use Rattle.model.proofs.Files.{Once, once_more, twice-more, renewed-worked, entry-of, entry-depends, history-any-order, entry-any-order, verdict-any-order}

module _ (R : Rules) where
  -- without a file, the first entry
  entry-none : (line : Line R) → R.first line ≡ entry_over R [] line
  unfolding entry_over history journal flat_map keep in_order
  entry-none line = refl

  -- each entry is worked out over its history
  pub entries-worked : {s : Store R} → Reached R s → s.entries ≡ map (entry_over R s.files) s.lines
  unfolding started filed
  entries-worked (start lines) = λ k. map (λ (line : Line R). entry-none line k) lines
  entries-worked (file {s = s} r f once) =
      rw (entries-worked r) (zip-map (renewed R s.files f) (entry_over R s.files) (entry_over R (s.files ++ (f ∷ []))) (renewed-worked R s.files f) s.lines)

  pub entries-length : {s : Store R} → Reached R s → length s.entries ≡ length s.lines
  entries-length {s} r = ap length (entries-worked r) ∙ length-map s.lines (entry_over R s.files)

  -- the same of a number: its entry is that of its line
  pub entry-worked : {s : Store R} → Reached R s → (n : R.Number) → entry_of R s.lines s.entries n ≡ option_map (entry_over R s.files) (line_of R s.lines n)
  entry-worked {s} r n = rw (entries-worked r) (entry-of R (entry_over R s.files) s.lines n)

-- ---- filing leaves the entries of all other numbers as they are
module _ (R : Rules) (L : Lawful R) where
  pub entry-untouched : (s : Store R) (f : Filed) (n : R.Number) → named R f n ≡ false → entry_of R (filed R s f).lines (filed R s f).entries n ≡ entry_of R s.lines s.entries n
  unfolding filed entry_of zip_with
  entry-untouched s f n h = go s.lines s.entries
    where
      here : (l : Line R) (e : R.Entry) (rest old : Option R.Entry) → rest ≡ old → (t : Bool) → R.same l.number n ≡ t → cond t (Some (renewed R s.files f l e)) rest ≡ cond t (Some e) old
      here l e rest old ih true q = rw (L.same_true l.number n q, h)
      here l e rest old ih false q = ih

      go : (ls : List (Line R)) (es : List R.Entry) → entry_of R ls (zip_with (renewed R s.files f) ls es) n ≡ entry_of R ls es n
      go [] es = refl
      go (l ∷ ls) [] = refl
      go (l ∷ ls) (e ∷ es) = here l e (entry_of R ls (zip_with (renewed R s.files f) ls es) n) (entry_of R ls es n) (go ls es) (R.same l.number n) refl

-- ---- the stores of the past
module _ (R : Rules) where
  later-lines : {s t : Store R} → Later R s t → t.lines ≡ s.lines
  unfolding filed
  later-lines now = refl
  later-lines (then l f) = later-lines l

  later-files : {s t : Store R} → Later R s t → (rest : List Filed) × (t.files ≡ s.files ++ rest)
  unfolding filed
  later-files {s} now = ([], sym (append-nil s.files))
  later-files {s} (then l f) = let r = later-files l in (r.0 ++ (f ∷ []), ap (λ (fs : List Filed). fs ++ (f ∷ [])) r.1 ∙ append_assoc s.files r.0 (f ∷ []))

  -- the first files, as many as the store had then, lead to the entries that it had
  pub entries-before : {s t : Store R} → Reached R s → Later R s t → entries_before R t (length s.files) ≡ s.entries
  unfolding entries_before
  entries-before {s} {t} r l =
      let rest = later-files l in
      rw (later-lines l, rest.1, take_at s.files rest.0 (length s.files) refl) (sym (entries-worked R r))

  -- and there was such a store for each number of files
  pub was : {t : Store R} → Reached R t → (n : ℕ) → n ≤ length t.files → (s : Store R) × Reached R s × Later R s t × (length s.files ≡ n)
  unfolding started filed
  was {t} (start lines) n h = (t, start lines, now, omega arith)
  was (file {s = s} r f once) n h =
      ⊎_elim (λ (k : n ≤ length s.files). let w = was r n k in (w.0, w.1, then w.2 f, w.3))
      (λ (k : length s.files < n). (filed R s f, file r f once, now, omega (arith, length-append s.files (f ∷ [])))) (le-or-lt n (length s.files))

  -- no file twice
  pub reached-once : {s : Store R} → Reached R s → Once s.files
  unfolding started filed
  reached-once (start lines) = λ f g j k p d q. absurd (Memᴰ.not-nil j)
  reached-once (file {s = s} r h new) = once_more s.files h (reached-once r) new

-- ---- a store without a file twice whose entries are the ones worked out is reached, however its entries came to be
once-in-front : (a b : List Filed) → no_file_twice (a ++ b) ≡ true → no_file_twice a ≡ true
unfolding no_file_twice
once-in-front [] b h = refl
once-in-front (f ∷ a) b h =
    rw (none-in-front (alike f) a b (not_yes (any (alike f) (a ++ b)) (and_left (not (any (alike f) (a ++ b))) (no_file_twice (a ++ b)) h)))
    (once-in-front a b (and_right (not (any (alike f) (a ++ b))) (no_file_twice (a ++ b)) h))

module _ (R : Rules) where
  -- filing these files, one after the other
  reach-on : {s : Store R} → Reached R s → (fs : List Filed) → no_file_twice (s.files ++ fs) ≡ true → (t : Store R) × Reached R t × (t.lines ≡ s.lines) × (t.files ≡ s.files ++ fs)
  unfolding filed
  reach-on {s} r [] h = (s, r, refl, sym (append-nil s.files))
  reach-on {s} r (f ∷ fs) h =
      let e : (s.files ++ (f ∷ [])) ++ fs ≡ s.files ++ (f ∷ fs) = append_assoc s.files (f ∷ []) fs in
      let once : no_file_twice ((s.files ++ (f ∷ [])) ++ fs) ≡ true = ap no_file_twice e ∙ h in
      let new : any (alike f) s.files ≡ false = not_yes _ (and_right (no_file_twice s.files) _ (sym (twice-more s.files f) ∙ once-in-front (s.files ++ (f ∷ [])) fs once)) in
      let w = reach-on {s = filed R s f} (file r f new) fs once in
      (w.0, w.1, w.2, w.3 ∙ e)

  pub reached-worked : (lines : List (Line R)) (files : List Filed) → no_file_twice files ≡ true → Reached R (record { lines = lines; files = files; entries = map (entry_over R files) lines })
  unfolding started
  reached-worked lines files once =
      let w = reach-on (start lines) files once in
      let worked : w.0.entries ≡ map (entry_over R files) lines = entries-worked R w.1 ∙ (λ k. map (entry_over R (w.3 k)) (w.2 k)) in
      subst (Reached R) (λ k. record { lines = w.2 k; files = w.3 k; entries = worked k }) w.1

-- ---- what the entry of a number depends on: its line and the records that name it, in two stores that may differ in all else
module _ (R : Rules) (L : Lawful R) where
  -- the line of a number has this number
  line-number : (lines : List (Line R)) (n : R.Number) (line : Line R) → line_of R lines n ≡ Some line → line.number ≡ n
  unfolding line_of
  line-number [] n line e = let z : ◌≡◌ {A = ℕ} 0 1 = cc in absurd (omega arith)
  line-number (l ∷ ls) n line e = go (R.same l.number n) refl e (line-number ls n line)
    where
      go : (t : Bool) → R.same l.number n ≡ t → cond t (Some l) (line_of R ls n) ≡ Some line → (line_of R ls n ≡ Some line → line.number ≡ n) → line.number ≡ n
      go true q h ih = let here : l ≡ line = cc in ap (λ (m : Line R). m.number) (sym here) ∙ L.same_true l.number n q
      go false q h ih = ih h

  pub number-depends : {s t : Store R} → Reached R s → Reached R t → (n : R.Number) → line_of R s.lines n ≡ line_of R t.lines n → Perm (keep (about R n) (journal s.files)) (keep (about R n) (journal t.files)) → entry_of R s.lines s.entries n ≡ entry_of R t.lines t.entries n
  number-depends {s} {t} r q n lines p = entry-worked R r n ∙ rw lines (go (line_of R t.lines n) refl) ∙ sym (entry-worked R q n)
    where
      go : (l : Option (Line R)) → line_of R t.lines n ≡ l → option_map (entry_over R s.files) l ≡ option_map (entry_over R t.files) l
      go None e = refl
      go (Some line) e =
          let own : n ≡ line.number = sym (line-number t.lines n line e) in
          ap Some (entry-depends R L s.files (reached-once R r) t.files line (rw own at p))

-- ---- two stores with the same table and the same files, whatever the order in which they came
pub record Agree {R : Rules} (s t : Store R) : Type 0 where
  pub entries : s.entries ≡ t.entries
  pub histories : (n : R.Number) → history R s.files n ≡ history R t.files n
  pub verdicts : (e : Event) → verdict_of R s e ≡ verdict_of R t e

pub any_order : (R : Rules) → Lawful R → {s t : Store R} → Reached R s → Reached R t → s.lines ≡ t.lines → Perm s.files t.files → Agree s t
unfolding verdict_of judged
any_order R L {s} {t} r q table p = record {
  entries = entries-worked R r ∙ (λ k. map (λ (line : Line R). entry-any-order R L s.files once t.files p line k) (table k)) ∙ sym (entries-worked R q);
  histories = history-any-order R L s.files once t.files p;
  verdicts = λ e. rw table (go e (line_of R t.lines (number_of R e)));
}
  where
    once : Once s.files
    once = reached-once R r

    go : (e : Event) (l : Option (Line R)) → judged R s.files e l ≡ judged R t.files e l
    go e None = refl
    go e (Some line) = verdict-any-order R L s.files once t.files p line e
