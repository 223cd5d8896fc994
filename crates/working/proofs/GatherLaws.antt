-- Gathering: what a turn of each loop lays down, and that there is room for it. Assumes nothing.
use mathlib.Core.Path.{◌≡◌, refl, sym, ap, ◌∙◌}
use mathlib.Core.Bool.{true, false, cond, not, ◌&&◌}
use mathlib.Core.List.{List}
use Prim.Native.Nat.{ℕ, zero, suc, ◌+◌, ◌*◌, ◌≤◌, ◌<◌}
use native.Mathlib.Omega.{arith}
use borrow.Author.Tests.{leb-true, eqb-false, not-true}
use lib.Dec.{leb, eqb}
use lib.ListN.{length, length-map}
use Rattle.laws.specs.Lists.{table, keep}
use Rattle.laws.proofs.Lists.{keep-at-most}
use Rattle.laws.proofs.Tables.{length-table, get_or-table, all-at}
use Rattle.laws.proofs.Tests.{and_left, and_right}
use Rattle.fields.specs.declared.number.Number.{Number}
use Rattle.fields.specs.Number.{same_number}
use Rattle.calendar.specs.Dates.{in_calendar}
use Rattle.store.specs.journals.Files.{file_at, good_file, records_of}
use Rattle.store.specs.declared.journals.files.File.{File}
use Rattle.rules.specs.Records.{number_in, first_in}
use Rattle.rules.proofs.First.{not_named}
use Rattle.store.specs.journals.Reads.{records_at}
use Rattle.working.specs.Slips.{slips, about_slip, key_of, keys_of}
use Rattle.working.specs.Working.{apart, Sound, InFile}
use Rattle.working.proofs.SlipLaws.{Ranged, records-more, own-records, records-grow, slips-length}

-- ---- one record
-- what its first field tells
pub told-apart : (kind : ℕ) (bytes : List ℕ) (n : Number) → apart (first_in kind bytes) n ≡ true → same_number (number_in kind bytes) n ≡ false
unfolding apart
told-apart kind bytes n h =
    let first = first_in kind bytes in
    let rest = and_right (not (eqb first n.first.0)) _ h in
    not_named kind bytes n
    (eqb-false first n.first.0 (not-true _ (and_left (not (eqb first n.first.0)) _ h)))
    (eqb-false first 1 (not-true _ (and_left (not (eqb first 1)) _ rest)))
    (eqb-false n.first.0 1 (not-true _ (and_right (not (eqb first 1)) _ rest)))

-- ---- file by file
keys_below : (r : ℕ → ℕ → List ℕ) (number : Number) (file : ℕ → File) (k : ℕ) → length (keys_of r number file k) ≤ length (slips r file k)
unfolding keys_of
keys_below r number file k = omega (arith, length-map (keep (about_slip r number) (slips r file k)) key_of, keep-at-most (about_slip r number) (slips r file k))

-- ---- the first n files are in range
good-file : (f : File) → good_file f ≡ true → Ranged f
unfolding good_file
good-file f e =
    let rest = and_right (leb f.kind 1) (leb f.publisher 999 && in_calendar f.day) e in record {
      kinds = leb-true f.kind 1 (and_left (leb f.kind 1) (leb f.publisher 999 && in_calendar f.day) e);
      publishers = omega (arith, leb-true f.publisher 999 (and_left (leb f.publisher 999) (in_calendar f.day) rest));
      days = omega (arith, leb-true f.day 18992 (and_right (leb f.publisher 999) (in_calendar f.day) rest));
    }

module _ (n : ℕ) (files regular corrections : List ℕ) (s : Sound n files regular corrections) where
  pub ranged : (k : ℕ) → k < n → Ranged (file_at files k)
  ranged k h =
      good-file (file_at files k)
      (ap good_file (sym (get_or-table n k (file_at files) (file_at files k) h))
      ∙ all-at good_file (table n (file_at files)) k (file_at files k) s.good (omega (arith, length-table n (file_at files))))

  limit : (k kind : ℕ) → k < n → (file_at files k).kind ≡ kind → records_of kind (table k (file_at files)) + (file_at files k).count + 6144 * kind ≤ 8192
  limit k zero h e =
      let own : records_of 0 (table (suc k) (file_at files)) ≡ records_of 0 (table k (file_at files)) + (file_at files k).count =
      records-more 0 k (file_at files) ∙ ap (λ (m : ℕ). records_of 0 (table k (file_at files)) + m) (own-records (file_at files k) 0 e) in
      omega (arith, records-grow 0 (suc k) n (file_at files) (omega arith), s.reports)
  limit k (suc zero) h e =
      let own : records_of 1 (table (suc k) (file_at files)) ≡ records_of 1 (table k (file_at files)) + (file_at files k).count =
      records-more 1 k (file_at files) ∙ ap (λ (m : ℕ). records_of 1 (table k (file_at files)) + m) (own-records (file_at files k) 1 e) in
      omega (arith, records-grow 1 (suc k) n (file_at files) (omega arith), s.objections)
  limit k (suc (suc kind)) h e = absurd (omega (arith, (ranged k h).kinds))

  -- what the turn for the file k asks
  pub in-file : (k : ℕ) → k < n → InFile regular corrections (file_at files k) (records_of (file_at files k).kind (table k (file_at files))) (file_at files k).count
  in-file k h = record {
    kinds = (ranged k h).kinds;
    publishers = (ranged k h).publishers;
    within = limit k (file_at files k).kind h refl;
    regular_room = s.regular_room;
    correction_room = s.correction_room;
  }

  pub in-turn : (k : ℕ) (f : File) (start : ℕ) → k < n → f ≡ file_at files k → start ≡ records_of f.kind (table k (file_at files)) → InFile regular corrections f start f.count
  in-turn k f start h e q = rw (q, e) (in-file k h)

  -- what the record at a place of the file k asks
  pub in_place : (k : ℕ) (f : File) (start place : ℕ) → k < n → f ≡ file_at files k → start ≡ records_of f.kind (table k (file_at files)) → place < (file_at files k).count → InFile regular corrections f start (place + 1)
  in_place k f start place h e q b =
      let w = in-turn k f start h e q in
      let c : f.count ≡ (file_at files k).count = ap (λ (g : File). g.count) e in record {
        kinds = w.kinds;
        publishers = w.publishers;
        within = omega (arith, w.within);
        regular_room = w.regular_room;
        correction_room = w.correction_room;
      }

  -- where the records of the file k begin, by the running sums of both kinds
  pub begins : (k : ℕ) (f : File) (reports objections : ℕ) → k < n → f ≡ file_at files k → reports ≡ records_of 0 (table k (file_at files)) → objections ≡ records_of 1 (table k (file_at files)) → cond (eqb f.kind 0) reports objections ≡ records_of f.kind (table k (file_at files))
  begins k f reports objections h e a b = go f.kind (omega (arith, (ranged k h).kinds, ap (λ (g : File). g.kind) e))
    where
      go : (kind : ℕ) → kind ≤ 1 → cond (eqb kind 0) reports objections ≡ records_of kind (table k (file_at files))
      go zero m = a
      go (suc zero) m = b
      go (suc (suc kind)) m = absurd (omega arith)

  -- the running sums stay below the limits
  pub reports-few : (k : ℕ) → k ≤ n → records_of 0 (table k (file_at files)) ≤ 8192
  reports-few k h = omega (arith, records-grow 0 k n (file_at files) h, s.reports)

  pub objections-few : (k : ℕ) → k ≤ n → records_of 1 (table k (file_at files)) ≤ 2048
  objections-few k h = omega (arith, records-grow 1 k n (file_at files) h, s.objections)

  -- and of all of them
  pub room-all : (number : Number) (r : ℕ) → r ≡ length (keys_of (records_at regular corrections) number (file_at files) n) → r ≤ 10240
  room-all number r e =
      omega (arith, keys_below (records_at regular corrections) number (file_at files) n, slips-length (records_at regular corrections) (file_at files) n ranged, s.reports, s.objections)
