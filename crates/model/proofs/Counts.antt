-- The count of answer 0 is that of the records which working out goes through: the histories of the numbers that the file names. What is assumed of the
-- rules stands in each law.
--     count-histories    over the numbers of the file, each once
--     count-listed       over whichever list of them is gone through
use mathlib.Core.Path.{◌≡◌, refl, sym, ap, ◌∙◌}
use mathlib.Core.Bool.{Bool, true, false, cond, ◌||◌}
use mathlib.Core.List.{List, [], ◌∷◌, map}
use Prim.Native.Nat.{ℕ, ◌+◌}
use lib.ListN.{length}
use Rattle.laws.specs.Lists.{keep, any, distinct, total}
use Rattle.model.specs.Rules.{Event, Rules, Lawful}
use Rattle.model.specs.Model.{Filed, events, journal, number_of, about, named, not_later, history, count_of, numbers_of}
use Rattle.laws.proofs.Lists.{keep-none, keep_same, length-either}
use Rattle.laws.proofs.Order.{length-in_order}

-- none is there twice
abbrev pub Apart : {A : Type 0} → (A → A → Bool) → List A → Type 0
Apart same [] = Unit {0}
Apart same (x ∷ l) = (any (same x) l ≡ false) × Apart same l

module _ (R : Rules) (L : Lawful R) where
  same-comm : (m n : R.Number) → R.same m n ≡ R.same n m
  same-comm m n = go (R.same m n) (R.same n m) refl refl
    where
      go : (s t : Bool) → R.same m n ≡ s → R.same n m ≡ t → s ≡ t
      go true true e f = refl
      go true false e f = let q : m ≡ n = L.same_true m n e in cc
      go false true e f = let q : n ≡ m = L.same_true n m f in cc
      go false false e f = refl

  any-named : (n : R.Number) (l : List Event) → any (about R n) l ≡ any (R.same n) (map (number_of R) l)
  unfolding any about
  any-named n [] = refl
  any-named n (e ∷ l) = λ k. same-comm (number_of R e) n k || any-named n l k

  -- a number that is among them is among them under each of its names
  moved : (m n : R.Number) (ns : List R.Number) → R.same m n ≡ true → any (R.same m) ns ≡ any (R.same n) ns
  moved m n ns q = ap (λ (k : R.Number). any (R.same k) ns) (L.same_true m n q)

  -- the records that name one of some numbers, none of which is there twice, are those of each number together
  count-each : (l : List Event) (ns : List R.Number) → Apart R.same ns → length (keep (λ (e : Event). any (R.same (number_of R e)) ns) l) ≡ total (λ (n : R.Number). length (keep (about R n) l)) ns
  unfolding any total about
  count-each l [] h = ap length (keep-none (λ (e : Event). false) l (λ e m. refl))
  count-each l (n ∷ ns) h =
      length-either (λ (e : Event). R.same (number_of R e) n) (λ (e : Event). any (R.same (number_of R e)) ns) (λ e q. moved (number_of R e) n ns q ∙ h.0) l
      ∙ ap (λ (k : ℕ). length (keep (about R n) l) + k) (count-each l ns h.1)

  -- whichever list of the file's numbers is gone through
  pub count-listed : (files : List Filed) (f : Filed) (ns : List R.Number) → Apart R.same ns → ((n : R.Number) → named R f n ≡ any (R.same n) ns) → count_of R files f ≡ total (λ (n : R.Number). length (history R files n)) ns
  unfolding count_of history
  count-listed files f ns h e =
      ap length (keep_same _ _ (journal files) (λ d m. e (number_of R d))) ∙ count-each (journal files) ns h
      ∙ (λ k. total (λ (n : R.Number). sym (length-in_order (not_later R) (keep (about R n) (journal files))) k) ns)

  any-distinct : (n : R.Number) (ns : List R.Number) → any (R.same n) (distinct R.same ns) ≡ any (R.same n) ns
  unfolding any distinct
  any-distinct n [] = refl
  any-distinct n (m ∷ ns) = go (any (R.same m) ns) (R.same n m) refl refl (any-distinct n ns)
    where
      go : (s t : Bool) → any (R.same m) ns ≡ s → R.same n m ≡ t → any (R.same n) (distinct R.same ns) ≡ any (R.same n) ns → any (R.same n) (cond s (distinct R.same ns) (m ∷ distinct R.same ns)) ≡ (t || any (R.same n) ns)
      go true true e f ih = ih ∙ moved n m ns f ∙ e
      go true false e f ih = ih
      go false true e f ih = rw f
      go false false e f ih = rw f ih

  apart_distinct : (ns : List R.Number) → Apart R.same (distinct R.same ns)
  unfolding distinct
  apart_distinct [] = tt
  apart_distinct (n ∷ ns) = go (any (R.same n) ns) refl (apart_distinct ns)
    where
      go : (t : Bool) → any (R.same n) ns ≡ t → Apart R.same (distinct R.same ns) → Apart R.same (cond t (distinct R.same ns) (n ∷ distinct R.same ns))
      go true e ih = ih
      go false e ih = (any-distinct n ns ∙ e, ih)

  pub count-histories : (files : List Filed) (f : Filed) → count_of R files f ≡ total (λ (n : R.Number). length (history R files n)) (numbers_of R f)
  unfolding numbers_of named
  count-histories files f =
      count-listed files f (distinct R.same (map (number_of R) (events f))) (apart_distinct (map (number_of R) (events f)))
      (λ n. any-named n (events f) ∙ sym (any-distinct n (map (number_of R) (events f))))
