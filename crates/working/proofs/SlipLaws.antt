-- The slips stand for the journal's records, each in its bounds, and rise along each journal. Assumes nothing.
use mathlib.Core.Path.{◌≡◌, refl, sym, ap, subst, ◌∙◌}
use mathlib.Core.Logic.{⊎_elim}
use mathlib.Core.List.Memᴰ
use mathlib.Core.List.{List, [], ◌∷◌, ◌++◌, map, map-append, append-nil, flat_map, Memᴰ}
use Prim.Native.Nat.{ℕ, zero, suc, ◌+◌, ◌≤◌, ◌<◌}
use native.Mathlib.Decide.{ℕ_discrete}
use native.Mathlib.Omega.{arith}
use borrow.Author.Tests.{eq-eqb, ne_eqb}
use lib.ListN.{length, length-append}
use Rattle.laws.specs.Lists.{table, total}
use Rattle.laws.proofs.Lists.{flat_append, mem_below}
use Rattle.laws.proofs.Tables.{length-table, get_or-table, table-cong, map-table}
use Rattle.laws.proofs.Keys.{Onward, onward-end, onward-append}
use Rattle.model.specs.Rules.{Event}
use Rattle.model.specs.Model.{event_at, events, journal}
use Rattle.store.specs.journals.Files.{records_in, records_of}
use Rattle.store.specs.declared.journals.files.File.{File}
use Rattle.store.proofs.journals.Counting.{records-end}
use Rattle.rules.specs.Records.{class_in}
use Rattle.store.specs.journals.Reads.{filed_after, filed_in}
use Rattle.working.specs.Slips.{Slip, slip_at, slips_of, slips}
use Rattle.store.proofs.journals.FirstFiles.{filed-end}

-- ---- how many records the files of a kind have
pub own-records : (f : File) (kind : ℕ) → f.kind ≡ kind → records_in kind f ≡ f.count
unfolding records_in
own-records f kind e = rw (eq-eqb f.kind kind e)

pub records-more : (kind k : ℕ) (file : ℕ → File) → records_of kind (table (suc k) file) ≡ records_of kind (table k file) + records_in kind (file k)
unfolding table
records-more kind k file = records-end kind (table k file) (file k)

pub records-grow : (kind k n : ℕ) (file : ℕ → File) → k ≤ n → records_of kind (table k file) ≤ records_of kind (table n file)
records-grow kind k zero file h = let e : k ≡ 0 = omega arith in rw e (omega arith)
records-grow kind k (suc n) file h = elim (ℕ_discrete k (suc n)) [
  | yes e ↦ rw e (omega arith)
  | no ne ↦ omega (arith, records-grow kind k n file (omega arith), records-more kind n file)
]

-- ---- the slips are the journal's records
module _ (r : ℕ → ℕ → List ℕ) where
  -- the record of a slip
  abbrev pub event_of : Slip → Event
  event_of s = record { kind = s.kind; publisher = s.publisher; day = s.day; place = s.place; bytes = r s.kind s.index }

  slips-events : (before : List File) (f : File) → map event_of (slips_of r f (records_of f.kind before) f.count) ≡ events (filed_after r before f)
  unfolding events filed_after
  slips-events before f =
      let start = records_of f.kind before in
      let at : ℕ → List ℕ = λ (i : ℕ). r f.kind (start + i) in
      map-table event_of f.count (slip_at r f start)
      ∙ table-cong f.count (λ (i : ℕ). event_of (slip_at r f start i)) (event_at (filed_after r before f))
      (λ i h j. record { kind = f.kind; publisher = f.publisher; day = f.day; place = i; bytes = sym (get_or-table f.count i at [] h) j })
      ∙ ap (λ (m : ℕ). table m (event_at (filed_after r before f))) (sym (length-table f.count at))

  pub slips-journal : (file : ℕ → File) (n : ℕ) → map event_of (slips r file n) ≡ journal (filed_in r [] (table n file))
  unfolding slips journal table filed_in flat_map
  slips-journal file zero = refl
  slips-journal file (suc n) =
      let own = filed_after r (table n file) (file n) in
      let before = filed_in r [] (table n file) in
      map-append event_of (slips r file n) (slips_of r (file n) (records_of (file n).kind (table n file)) (file n).count)
      ∙ (λ j. slips-journal file n j ++ slips-events (table n file) (file n) j)
      ∙ ap (λ (l : List Event). flat_map events before ++ l) (sym (append-nil (events own)))
      ∙ sym (flat_append events before (own ∷ []))
      ∙ ap (flat_map events) (sym (filed-end r [] (table n file) (file n)))

-- ---- each slip is in its bounds
pub record Ranged (f : File) : Type 0 where
  pub kinds : f.kind ≤ 1
  pub publishers : f.publisher < 1024
  pub days : f.day < 32768

pub record Kept (r : ℕ → ℕ → List ℕ) (file : ℕ → File) (k : ℕ) (s : Slip) : Type 0 where
  pub kinds : s.kind ≤ 1
  pub publishers : s.publisher < 1024
  pub days : s.day < 32768
  pub classes : s.class ≡ class_in s.kind (r s.kind s.index)
  pub places : s.place ≤ s.index
  pub stored : s.index < records_of s.kind (table k file)

-- of two slips of one journal, the first stands before the second
abbrev pub Rise : Slip → Slip → Type 0
Rise s t = s.kind ≡ t.kind → s.index ≤ t.index

module _ (r : ℕ → ℕ → List ℕ) (file : ℕ → File) where
  kept_more : (k : ℕ) (s : Slip) → Kept r file k s → Kept r file (suc k) s
  kept_more k s w = record {
    kinds = w.kinds;
    publishers = w.publishers;
    days = w.days;
    classes = w.classes;
    places = w.places;
    stored = omega (arith, w.stored, records-more s.kind k file);
  }

  kept_new : (k i : ℕ) → Ranged (file k) → i < (file k).count → Kept r file (suc k) (slip_at r (file k) (records_of (file k).kind (table k file)) i)
  kept_new k i g h = record {
    kinds = g.kinds;
    publishers = g.publishers;
    days = g.days;
    classes = refl;
    places = omega arith;
    stored = omega (arith, records-more (file k).kind k file, own-records (file k) (file k).kind refl);
  }

  pub kept : (k : ℕ) → ((j : ℕ) → j < k → Ranged (file j)) → (s : Slip) → Memᴰ s (slips r file k) → Kept r file k s
  unfolding slips
  kept zero g s m = absurd (Memᴰ.not-nil m)
  kept (suc k) g s m =
      ⊎_elim (λ i. kept_more k s (kept k (λ j h. g j (omega arith)) s i))
      (λ i. let w = mem_below (file k).count (slip_at r (file k) (records_of (file k).kind (table k file))) i in
      subst (Kept r file (suc k)) (sym w.2) (kept_new k w.0 (g k (omega arith)) w.1))
      (Memᴰ.append_cases (slips r file k) m)

  -- ---- and behind all others of its journal that come before it
  rise-file : (f : File) (start n : ℕ) → Onward Rise (slips_of r f start n)
  unfolding table
  rise-file f start zero = tt
  rise-file f start (suc n) =
      onward-end Rise (slips_of r f start n) (slip_at r f start n) (rise-file f start n)
      (λ s m. let w = mem_below n (slip_at r f start) m in
      let e : s.index ≡ start + w.0 = ap (λ (t : Slip). t.index) w.2 in
      λ q. omega (arith, w.1))

  pub rise : (k : ℕ) → ((j : ℕ) → j < k → Ranged (file j)) → Onward Rise (slips r file k)
  unfolding slips
  rise zero g = tt
  rise (suc k) g =
      let start = records_of (file k).kind (table k file) in
      onward-append Rise (slips r file k) (slips_of r (file k) start (file k).count) (rise k (λ j h. g j (omega arith))) (rise-file (file k) start (file k).count)
      (λ s t i j. let w = mem_below (file k).count (slip_at r (file k) start) j in
      let e : t.index ≡ start + w.0 = ap (λ (u : Slip). u.index) w.2 in
      let q : t.kind ≡ (file k).kind = ap (λ (u : Slip). u.kind) w.2 in
      let before = (kept k (λ j h. g j (omega arith)) s i).stored in
      λ p. let same : records_of s.kind (table k file) ≡ start = ap (λ (x : ℕ). records_of x (table k file)) (p ∙ q) in omega arith)

  -- ---- how many there are
  both : (f : File) → f.kind ≤ 1 → records_in 0 f + records_in 1 f ≡ f.count
  unfolding records_in
  both f h = elim (ℕ_discrete f.kind 0) [
    | yes e ↦ rw (eq-eqb f.kind 0 e, ne_eqb f.kind 1 (λ q. omega arith)) (omega arith)
    | no ne ↦ let e : f.kind ≡ 1 = omega arith in rw (ne_eqb f.kind 0 ne, eq-eqb f.kind 1 e) (omega arith)
  ]

  pub slips-more : (k : ℕ) → length (slips r file (suc k)) ≡ length (slips r file k) + (file k).count
  unfolding slips
  slips-more k =
      let start = records_of (file k).kind (table k file) in
      length-append (slips r file k) (slips_of r (file k) start (file k).count)
      ∙ ap (λ (n : ℕ). length (slips r file k) + n) (length-table (file k).count (slip_at r (file k) start))

  none : (kind : ℕ) → records_of kind (table 0 file) ≡ 0
  unfolding records_of table total
  none kind = refl

  slips-none : length (slips r file 0) ≡ 0
  unfolding slips
  slips-none = refl

  pub slips-length : (k : ℕ) → ((j : ℕ) → j < k → Ranged (file j)) → length (slips r file k) ≡ records_of 0 (table k file) + records_of 1 (table k file)
  slips-length zero g = omega (arith, slips-none, none 0, none 1)
  slips-length (suc k) g =
      omega (arith, slips-more k, slips-length k (λ j h. g j (omega arith)), records-more 0 k file, records-more 1 k file, both (file k) (g k (omega arith)).kinds)
