-- One pass over the first files for the records that pass a test: what a turn of each loop lays down, and that there is room for it. Assumes nothing.
use mathlib.Core.Path.{◌≡◌, refl, sym, ap, subst, ◌∙◌}
use mathlib.Core.Bool.{Bool, true, false}
use mathlib.Core.List.{List, [], ◌∷◌, ◌++◌, map, map-append}
use Prim.Native.Nat.{ℕ, suc, ◌+◌, ◌≤◌, ◌<◌}
use native.Mathlib.Numerals.{add-one}
use native.Mathlib.Omega.{arith}
use lib.ListN.{length, set, length-append, length-map}
use Rattle.laws.specs.Lists.{table, keep}
use Rattle.laws.proofs.Lists.{keep_append, keep-end-yes, keep-end-no, keep-at-most}
use Rattle.laws.proofs.Tables.{table_more}
use Rattle.store.specs.journals.Files.{file_at, records_of}
use Rattle.store.specs.declared.journals.files.File.{File}
use Rattle.store.specs.journals.Reads.{records_at}
use Rattle.fields.specs.declared.number.Number.{Number}
use Rattle.fields.specs.Number.{same_number}
use Rattle.rules.specs.Records.{number_in}
use Rattle.working.specs.Slips.{Slip, slip_at, slips_of, slips, about_slip, key_of, keys_of}
use Rattle.working.specs.Working.{Sound, Behind, Gathered}
use Rattle.working.proofs.GatherLaws.{ranged}
use Rattle.working.proofs.SlipLaws.{records-grow, slips-length, slips-more}
use Rattle.working.specs.Passing.{passes_at, Passing}
use Rattle.working.specs.indexing.Index.{may_name, candidate, listed_in, listed, Listed}
use Rattle.working.proofs.indexing.Laying.{behind-none, behind_more}

-- ---- the records of one file
module _ (p : Slip → Bool) (r : ℕ → ℕ → List ℕ) (f : File) (start : ℕ) where
  listed-none : listed_in p r f start 0 ≡ []
  unfolding listed_in table keep
  listed-none = refl

  listed-yes : (i : ℕ) → p (slip_at r f start i) ≡ true → listed_in p r f start (i + 1) ≡ listed_in p r f start i ++ (key_of (slip_at r f start i) ∷ [])
  unfolding listed_in
  listed-yes i e =
      ap (λ (l : List Slip). map key_of (keep p l)) (table_more i (slip_at r f start))
      ∙ ap (map key_of) (keep-end-yes p (slips_of r f start i) (slip_at r f start i) e)
      ∙ map-append key_of (keep p (slips_of r f start i)) (slip_at r f start i ∷ [])

  listed-no : (i : ℕ) → p (slip_at r f start i) ≡ false → listed_in p r f start (i + 1) ≡ listed_in p r f start i
  unfolding listed_in
  listed-no i e =
      ap (λ (l : List Slip). map key_of (keep p l)) (table_more i (slip_at r f start))
      ∙ ap (map key_of) (keep-end-no p (slips_of r f start i) (slip_at r f start i) e)

  pub file-none : (keys : List ℕ) (at : ℕ) → Behind keys at (listed_in p r f start 0) keys at
  file-none keys at = rw listed-none (behind-none keys at)

  module _ (before keys : List ℕ) (at k i : ℕ) (inv : Behind before at (listed_in p r f start i) keys k) where
    pub file-yes : (v : ℕ) → k < length keys → p (slip_at r f start i) ≡ true → v ≡ key_of (slip_at r f start i) → Behind before at (listed_in p r f start (i + 1)) (set keys k v) (k + 1)
    file-yes v h e q =
        subst (λ (l : List ℕ). Behind before at l (set keys k v) (k + 1)) (ap (λ (x : ℕ). listed_in p r f start i ++ (x ∷ [])) q ∙ sym (listed-yes i e))
        (behind_more v h inv)

    pub file-no : p (slip_at r f start i) ≡ false → Behind before at (listed_in p r f start (i + 1)) keys k
    file-no e = subst (λ (l : List ℕ). Behind before at l keys k) (sym (listed-no i e)) inv

-- ---- file by file
module _ (p : Slip → Bool) (r : ℕ → ℕ → List ℕ) (file : ℕ → File) where
  nothing_yet : listed p r file 0 ≡ []
  unfolding listed slips keep
  nothing_yet = refl

  listed_more : (k : ℕ) → listed p r file (k + 1) ≡ listed p r file k ++ listed_in p r (file k) (records_of (file k).kind (table k file)) (file k).count
  unfolding listed slips listed_in
  listed_more k =
      let own = slips_of r (file k) (records_of (file k).kind (table k file)) (file k).count in
      ap (λ (n : ℕ). map key_of (keep p (slips r file n))) (add-one k)
      ∙ ap (map key_of) (keep_append p (slips r file k) own)
      ∙ map-append key_of (keep p (slips r file k)) (keep p own)

  listed_below : (k : ℕ) → length (listed p r file k) ≤ length (slips r file k)
  unfolding listed
  listed_below k = omega (arith, length-map (keep p (slips r file k)) key_of, keep-at-most p (slips r file k))

module _ (files regular corrections : List ℕ) (p : ℕ → List ℕ → Bool) where
  abbrev test : Slip → Bool
  test = passes_at p (records_at regular corrections)

  abbrev all : ℕ → List ℕ
  all k = listed test (records_at regular corrections) (file_at files) k

  abbrev own : File → ℕ → List ℕ
  own f start = listed_in test (records_at regular corrections) f start f.count

  pub passing-none : (keys : List ℕ) → Passing 0 files regular corrections p keys 0
  passing-none keys =
      let none = nothing_yet test (records_at regular corrections) (file_at files) in
      record { laid = sym none; counted = sym (ap length none) }

  pub passing-more : (k : ℕ) (f : File) (start : ℕ) (keys after : List ℕ) (c m : ℕ) → f ≡ file_at files k → start ≡ records_of (file_at files k).kind (table k (file_at files))
      → Passing k files regular corrections p keys c → Behind keys c (own f start) after m → Passing (k + 1) files regular corrections p after m
  passing-more k f start keys after c m e q g b =
      let mine = own (file_at files k) (records_of (file_at files k).kind (table k (file_at files))) in
      let b' : Behind keys c mine after m = rw (q, e) at b in
      let more = listed_more test (records_at regular corrections) (file_at files) k in record {
        laid = b'.laid ∙ ap (λ (l : List ℕ). l ++ mine) g.laid ∙ sym more;
        counted = omega (arith, b'.counted, g.counted, ap length more, length-append (all k) mine);
      }

  module _ (n : ℕ) (s : Sound n files regular corrections) where
    pub room : (k : ℕ) → k < n → length (all k) + (file_at files k).count ≤ 10240
    room k h =
        let r = records_at regular corrections in
        let ranges = ranged n files regular corrections s in
        omega (
          arith,
          listed_below test r (file_at files) k,
          slips-length r (file_at files) k (λ j b. ranges j (omega arith)),
          slips-length r (file_at files) (suc k) (λ j b. ranges j (omega arith)),
          slips-more r (file_at files) k,
          records-grow 0 (suc k) n (file_at files) (omega arith),
          records-grow 1 (suc k) n (file_at files) (omega arith),
          s.reports,
          s.objections,
        )

    -- and of all of them
    pub room-all : (keys : List ℕ) (c : ℕ) → Passing n files regular corrections p keys c → c ≤ 10240
    room-all keys c g =
        let r = records_at regular corrections in
        omega (arith, g.counted, listed_below test r (file_at files) n, slips-length r (file_at files) n (ranged n files regular corrections s), s.reports, s.objections)

-- ---- the records that name a number, and those that may name one with a wanted first field
pub passing-gathered : (n : ℕ) (files regular corrections : List ℕ) (number : Number) (keys : List ℕ) (r : ℕ)
    → Passing n files regular corrections (λ (kind : ℕ) (bytes : List ℕ). same_number (number_in kind bytes) number) keys r → Gathered n files regular corrections number keys r
unfolding keys_of about_slip listed
passing-gathered n files regular corrections number keys r g = record { laid = g.laid; counted = g.counted }

pub passing-listed : (n : ℕ) (files regular corrections wanted keys : List ℕ) (r : ℕ) → Passing n files regular corrections (may_name wanted) keys r → Listed n files regular corrections wanted keys r
unfolding candidate
passing-listed n files regular corrections wanted keys r g = record { laid = g.laid; counted = g.counted }
