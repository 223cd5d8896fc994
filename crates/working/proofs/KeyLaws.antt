-- The keys: each gives its record back, and sorted they are the history. Assumes nothing.
use mathlib.Core.Path.{◌≡◌, refl, sym, ap, ◌∙◌}
use mathlib.Core.Logic.{⊎_elim}
use mathlib.Core.Bool.{Bool, cond, not}
use mathlib.Core.List.{List, [], ◌∷◌, map, foldl, Memᴰ}
use Prim.Native.Nat.{ℕ, zero, suc, ◌+◌, ◌*◌, ◌/◌, ◌%◌, ◌≤◌, ◌<◌}
use native.Mathlib.Omega.{arith}
use borrow.Author.Tests.{eq-eqb, ne_eqb, lt-ltb, le-ltb, le-leb, lt-leb}
use lib.Dec.{eqb, leb, ltb}
use lib.ListN.{length, get_or, length-map}
use Rattle.laws.specs.Lists.{table, keep}
use Rattle.laws.specs.Order.{in_order, sorted, not_after}
use Rattle.laws.specs.Keys.{packed, Fits}
use Rattle.laws.proofs.Lists.{keep-map, mem-keep}
use Rattle.laws.proofs.Order.{mem-in_order, length-in_order}
use Rattle.laws.proofs.Folds.{fold-map, fold-agree, fold-keep}
use Rattle.laws.proofs.Tests.{le-or-lt}
use Rattle.laws.proofs.Keys.{onward-keep, onward-both, map-onward, map-in_order, packed-order, tagged-order}
use Rattle.fields.specs.declared.number.Number.{Number}
use Rattle.model.specs.Rules.{Event}
use Rattle.model.specs.Model.{journal, about, not_later, history, before}
use Rattle.store.specs.journals.Files.{records_of}
use Rattle.store.specs.journals.Records.{record_at, record_in, shown_in}
use Rattle.store.specs.declared.journals.files.File.{File}
use Rattle.store.specs.declared.journals.records.Journal.TheVariants.{Regular, Correction}
use Rattle.rules.specs.Records.{class_in}
use Rattle.rules.specs.Rules.{rules}
use Rattle.rules.proofs.Lawful.{lawful, class-of-reports, class-of-corrections}
use Rattle.store.specs.journals.Reads.{records_at, filed_in}
use Rattle.working.specs.Slips.{Slip, slip_at, slips, about_slip, key_by, key_of, keys_of, class_behind, kind_behind, journal_behind, event_behind}
use Rattle.working.proofs.SlipLaws.{Ranged, Kept, Rise, event_of, kept, rise, slips-journal}

-- ---- numbers in a key
module _ (d c p l i : ℕ) (hd : d < 32768) (hc : c < 16) (hp : p < 1024) (hl : l < 8192) (hi : i < 8192) where
  index_in : key_by d c p l i % 8192 ≡ i
  unfolding key_by
  index_in = omega arith

  place_in : key_by d c p l i / 8192 % 8192 ≡ l
  unfolding key_by
  place_in = omega arith

  publisher-in : key_by d c p l i / 8192 / 8192 % 1024 ≡ p
  unfolding key_by
  publisher-in = omega arith

  class-in : class_behind (key_by d c p l i) ≡ c
  unfolding key_by class_behind
  class-in = omega arith

  day-in : key_by d c p l i / 8192 / 8192 / 1024 / 16 % 32768 ≡ d
  unfolding key_by
  day-in = omega arith

-- ---- what is in a journal is shown
shown-stored : (width : ℕ) (journal : List ℕ) (k : ℕ) → k < 8192 → k < length journal / width → record_in width 8192 journal k ≡ record_at width journal k
unfolding record_in
shown-stored width journal k h e = rw (lt-ltb k 8192 h, lt-ltb k (length journal / width) e)

-- ---- a slip in its bounds
pub record Bounded (r : ℕ → ℕ → List ℕ) (s : Slip) : Type 0 where
  pub kinds : s.kind ≤ 1
  pub days : s.day < 32768
  pub classes : s.class ≡ class_in s.kind (r s.kind s.index)
  pub low : s.class < 16
  pub publishers : s.publisher < 1024
  pub places : s.place < 8192
  pub indices : s.index + 6144 * s.kind < 8192

-- days, classes, publishers, places in a file, places in a journal
abbrev bounds : List ℕ
bounds = 32768 ∷ 16 ∷ 1024 ∷ 8192 ∷ 8192 ∷ []

abbrev digits : Slip → List ℕ
digits s = s.day ∷ s.class ∷ s.publisher ∷ s.place ∷ s.index ∷ []

is-packed : (s : Slip) → key_of s ≡ packed bounds (digits s)
unfolding key_by
is-packed s = omega arith

-- only a correction has class 2
kind-by-class : (kind : ℕ) (bytes : List ℕ) → kind ≤ 1 → eqb (class_in kind bytes) 2 ≡ eqb kind 1
kind-by-class zero bytes h = ne_eqb (class_in 0 bytes) 2 (λ e. omega (arith, (class-of-reports bytes).0))
kind-by-class (suc zero) bytes h = eq-eqb (class_in 1 bytes) 2 (class-of-corrections bytes)
kind-by-class (suc (suc kind)) bytes h = absurd (omega arith)

pub class-below : (kind : ℕ) (bytes : List ℕ) → kind ≤ 1 → class_in kind bytes < 16
class-below zero bytes h = omega (arith, (class-of-reports bytes).1)
class-below (suc zero) bytes h = omega (arith, class-of-corrections bytes)
class-below (suc (suc kind)) bytes h = absurd (omega arith)

kind-back : (kind : ℕ) → kind ≤ 1 → cond (eqb kind 1) 1 0 ≡ kind
kind-back zero h = refl
kind-back (suc zero) h = refl
kind-back (suc (suc kind)) h = absurd (omega arith)

module _ (regular corrections : List ℕ) (long : 368640 ≤ length regular) (wide : 200704 ≤ length corrections) where
  abbrev r : ℕ → ℕ → List ℕ
  r = records_at regular corrections

  -- ---- each key gives its record back
  shown-kind : (kind place : ℕ) → kind ≤ 1 → place + 6144 * kind < 8192 → shown_in (cond (eqb kind 1) Correction Regular) regular corrections 8192 place ≡ r kind place
  unfolding records_at
  shown-kind zero place h b = shown-stored 45 regular place (omega arith) (omega arith)
  shown-kind (suc zero) place h b = shown-stored 98 corrections place (omega arith) (omega arith)
  shown-kind (suc (suc kind)) place h b = absurd (omega arith)

  module _ (s : Slip) (b : Bounded r s) where
    class_back : class_behind (key_of s) ≡ s.class
    class_back = class-in s.day s.class s.publisher s.place s.index b.days b.low b.publishers b.places (omega (arith, b.indices))

    index_back : key_of s % 8192 ≡ s.index
    index_back = index_in s.day s.class s.publisher s.place s.index b.days b.low b.publishers b.places (omega (arith, b.indices))

    correction-back : eqb (class_behind (key_of s)) 2 ≡ eqb s.kind 1
    correction-back = ap (λ (c : ℕ). eqb c 2) (class_back ∙ b.classes) ∙ kind-by-class s.kind (r s.kind s.index) b.kinds

    kinds-back : kind_behind (key_of s) ≡ s.kind
    kinds-back = ap (λ (t : Bool). cond t 1 0) correction-back ∙ kind-back s.kind b.kinds

    bytes_back : shown_in (journal_behind (key_of s)) regular corrections 8192 (key_of s % 8192) ≡ r s.kind s.index
    bytes_back =
        (λ j. shown_in (cond (correction-back j) Correction Regular) regular corrections 8192 (index_back j))
        ∙ shown-kind s.kind s.index b.kinds b.indices

    pub behind : event_behind regular corrections (key_of s) ≡ event_of r s
    unfolding event_behind
    behind = λ j. record {
      kind = kinds-back j;
      publisher = publisher-in s.day s.class s.publisher s.place s.index b.days b.low b.publishers b.places (omega (arith, b.indices)) j;
      day = day-in s.day s.class s.publisher s.place s.index b.days b.low b.publishers b.places (omega (arith, b.indices)) j;
      place = place_in s.day s.class s.publisher s.place s.index b.days b.low b.publishers b.places (omega (arith, b.indices)) j;
      bytes = bytes_back j;
    }

    fits : Fits bounds (digits s)
    fits = (b.days, (b.low, (b.publishers, (b.places, (omega (arith, b.indices), tt)))))

  -- ---- the keys come in the processing order
  abbrev later : Slip → Slip → Bool
  later s t = not_later rules (event_of r s) (event_of r t)

  key-order : (s t : Slip) → Bounded r s → Bounded r t → Rise s t → later s t ≡ leb (key_of s) (key_of t)
  key-order s t b c q =
      sym
      ((λ j. leb (is-packed s j) (is-packed t j)) ∙ packed-order bounds (digits s) (digits t) (fits s b) (fits t c)
      ∙ tagged-order (s.day ∷ s.class ∷ s.publisher ∷ s.place ∷ []) (t.day ∷ t.class ∷ t.publisher ∷ t.place ∷ []) s.index t.index refl
      (λ e. q (lawful.class-kind s.kind t.kind (r s.kind s.index) (r t.kind t.index) (sym b.classes ∙ ap (λ (l : List ℕ). get_or l 1 0) e ∙ c.classes)))
      ∙ (λ j. not_after (s.day ∷ b.classes j ∷ s.publisher ∷ s.place ∷ []) (t.day ∷ c.classes j ∷ t.publisher ∷ t.place ∷ [])))

  -- without the place in the journal the key is that of the processing order
  front : (s : Slip) → s.index < 8192 → key_of s / 8192 ≡ packed (32768 ∷ 16 ∷ 1024 ∷ 8192 ∷ []) (s.day ∷ s.class ∷ s.publisher ∷ s.place ∷ [])
  unfolding key_by
  front s h = omega arith

  not-leb : (a b : ℕ) → not (leb a b) ≡ ltb b a
  not-leb a b = ⊎_elim (λ (h : a ≤ b). rw (le-leb a b h, le-ltb b a h)) (λ (h : b < a). rw (lt-leb a b h, lt-ltb b a h)) (le-or-lt a b)

  key-before : (s m : Slip) → Bounded r s → Bounded r m → ltb (key_of s / 8192) (key_of m / 8192) ≡ not (not_later rules (event_of r m) (event_of r s))
  key-before s m b c =
      let bs : List ℕ = 32768 ∷ 16 ∷ 1024 ∷ 8192 ∷ [] in
      let xs : List ℕ = s.day ∷ s.class ∷ s.publisher ∷ s.place ∷ [] in
      let ys : List ℕ = m.day ∷ m.class ∷ m.publisher ∷ m.place ∷ [] in
      (λ j. ltb (front s (omega (arith, b.indices)) j) (front m (omega (arith, c.indices)) j))
      ∙ sym (not-leb (packed bs ys) (packed bs xs))
      ∙ ap not (packed-order bs ys xs (c.days, (c.low, (c.publishers, (c.places, tt)))) (b.days, (b.low, (b.publishers, (b.places, tt))))
      ∙ (λ j. not_after (m.day ∷ c.classes j ∷ m.publisher ∷ m.place ∷ []) (s.day ∷ b.classes j ∷ s.publisher ∷ s.place ∷ [])))

  module _ (file : ℕ → File) (n : ℕ) (ranged : (j : ℕ) → j < n → Ranged (file j)) (reports : records_of 0 (table n file) ≤ 8192) (objections : records_of 1 (table n file) ≤ 2048) where
    limit : (s : Slip) → Kept r file n s → (kind : ℕ) → s.kind ≡ kind → s.index + 6144 * kind < 8192
    limit s w zero e = let h : s.index < records_of 0 (table n file) = rw e at w.stored in omega arith
    limit s w (suc zero) e = let h : s.index < records_of 1 (table n file) = rw e at w.stored in omega arith
    limit s w (suc (suc kind)) e = absurd (omega (arith, w.kinds))

    pub bounded : (s : Slip) → Kept r file n s → Bounded r s
    bounded s w = record {
      kinds = w.kinds;
      days = w.days;
      classes = w.classes;
      low = omega (arith, w.classes, class-below s.kind (r s.kind s.index) w.kinds);
      publishers = w.publishers;
      places = omega (arith, w.places, limit s w s.kind refl);
      indices = limit s w s.kind refl;
    }

    -- a slip of a file in its bounds
    pub bounded_at : (k i : ℕ) → k < n → i < (file k).count → records_of (file k).kind (table k file) + (file k).count + 6144 * (file k).kind ≤ 8192 → Bounded r (slip_at r (file k) (records_of (file k).kind (table k file)) i)
    bounded_at k i h b w = record {
      kinds = (ranged k h).kinds;
      days = (ranged k h).days;
      classes = refl;
      low = class-below (file k).kind (r (file k).kind (records_of (file k).kind (table k file) + i)) (ranged k h).kinds;
      publishers = (ranged k h).publishers;
      places = omega (arith, w);
      indices = omega (arith, w);
    }

    module _ (number : Number) where
      -- the slips of the number, in order of arrival and in processing order
      abbrev found : List Slip
      found = keep (about_slip r number) (slips r file n)

      abbrev ordered : List Slip
      ordered = in_order later found

      found-bounded : (s : Slip) → Memᴰ s found → Bounded r s
      found-bounded s m = bounded s (kept r file n ranged s (mem-keep (about_slip r number) (slips r file n) m))

      keys-sorted : map key_of ordered ≡ sorted (keys_of r number file n)
      unfolding keys_of
      keys-sorted =
          map-onward key_of later leb found
          (onward-both (Bounded r) Rise (λ (s t : Slip). later s t ≡ leb (key_of s) (key_of t)) key-order found found-bounded
          (onward-keep Rise (about_slip r number) (slips r file n) (rise r file n ranged)))

      about-same : (s : Slip) → about_slip r number s ≡ about rules number (event_of r s)
      unfolding about_slip about
      about-same s = refl

      history-slips : map (event_of r) ordered ≡ history rules (filed_in r [] (table n file)) number
      unfolding history
      history-slips =
          map-in_order (event_of r) later (not_later rules) found (λ s t i j. refl)
          ∙ ap (in_order (not_later rules))
          (keep-map (event_of r) (about rules number) (about_slip r number) (slips r file n) (λ s m. about-same s)
          ∙ ap (keep (about rules number)) (slips-journal r file n))

      -- what is folded over the sorted keys is folded over the history
      pub fold-keys : {S : Type 0} (step : S → Event → S) (s : S) → foldl (λ (t : S) (k : ℕ). step t (event_behind regular corrections k)) s (sorted (keys_of r number file n)) ≡ foldl step s (history rules (filed_in r [] (table n file)) number)
      fold-keys {S} step s =
          ap (foldl (λ (t : S) (k : ℕ). step t (event_behind regular corrections k)) s) (sym keys-sorted)
          ∙ fold-map (λ (t : S) (k : ℕ). step t (event_behind regular corrections k)) key_of s ordered
          ∙ fold-agree (λ (t : S) (x : Slip). step t (event_behind regular corrections (key_of x))) (λ (t : S) (x : Slip). step t (event_of r x)) ordered
          (λ x m t. ap (step t) (behind x (found-bounded x (mem-in_order later found m)))) s
          ∙ sym (fold-map step (event_of r) s ordered)
          ∙ ap (foldl step s) history-slips

      -- there is a key for each record of the history
      pub keys-count : length (keys_of r number file n) ≡ length (history rules (filed_in r [] (table n file)) number)
      unfolding keys_of
      keys-count =
          length-map found key_of ∙ sym (length-in_order later found) ∙ sym (length-map ordered (event_of r)) ∙ ap length history-slips

      -- what is folded over those sorted keys that come before that of a record is folded over the history before it
      module _ (m : Slip) (bm : Bounded r m) where
        abbrev is_before : ℕ → Bool
        is_before key = ltb (key / 8192) (key_of m / 8192)

        before-slip : (s : Slip) → Memᴰ s ordered → not (not_later rules (event_of r m) (event_of r s)) ≡ is_before (key_of s)
        before-slip s i = sym (key-before s m (found-bounded s (mem-in_order later found i)) bm)

        kept-before : map (event_of r) (keep (λ (s : Slip). is_before (key_of s)) ordered) ≡ before rules (event_of r m) (history rules (filed_in r [] (table n file)) number)
        unfolding before
        kept-before =
            keep-map (event_of r) (λ (d : Event). not (not_later rules (event_of r m) d)) (λ (s : Slip). is_before (key_of s)) ordered (λ s i. sym (before-slip s i))
            ∙ ap (keep (λ (d : Event). not (not_later rules (event_of r m) d))) history-slips

        pub fold-before : {S : Type 0} (step : S → Event → S) (s : S) → foldl (λ (t : S) (k : ℕ). cond (is_before k) (step t (event_behind regular corrections k)) t) s (sorted (keys_of r number file n)) ≡ foldl step s (before rules (event_of r m) (history rules (filed_in r [] (table n file)) number))
        fold-before {S} step s =
            fold-keep (λ (t : S) (k : ℕ). step t (event_behind regular corrections k)) is_before s (sorted (keys_of r number file n))
            ∙ ap (λ (l : List ℕ). foldl (λ (t : S) (k : ℕ). step t (event_behind regular corrections k)) s (keep is_before l)) (sym keys-sorted)
            ∙ ap (foldl (λ (t : S) (k : ℕ). step t (event_behind regular corrections k)) s) (sym (keep-map key_of is_before (λ (x : Slip). is_before (key_of x)) ordered (λ x i. refl)))
            ∙ fold-map (λ (t : S) (k : ℕ). step t (event_behind regular corrections k)) key_of s (keep (λ (x : Slip). is_before (key_of x)) ordered)
            ∙ fold-agree (λ (t : S) (x : Slip). step t (event_behind regular corrections (key_of x))) (λ (t : S) (x : Slip). step t (event_of r x)) (keep (λ (x : Slip). is_before (key_of x)) ordered)
            (λ x i t. ap (step t) (behind x (found-bounded x (mem-in_order later found (mem-keep (λ (y : Slip). is_before (key_of y)) ordered i))))) s
            ∙ sym (fold-map step (event_of r) s (keep (λ (x : Slip). is_before (key_of x)) ordered))
            ∙ ap (foldl step s) kept-before
