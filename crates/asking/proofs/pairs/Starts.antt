-- Where the reports of a file begin in the regular journal. Assumes nothing.
use mathlib.Core.Path.{◌≡◌}
use mathlib.Core.Bool.{Bool, true, false, cond}
use mathlib.Core.List.{List, [], ◌∷◌}
use Prim.Native.Nat.{ℕ, ◌+◌, ◌≤◌, ◌<◌}
use native.Mathlib.Omega.{arith}
use lib.ListN.{drop}
use Rattle.laws.specs.Lists.{table, total}
use Rattle.laws.proofs.Tables.{drop-table, drop-none}
use Rattle.store.specs.journals.Files.{records_in, records_of}
use Rattle.store.specs.declared.journals.files.File.{File}
use Rattle.asking.specs.pairs.Pairs.{is_listed_of, start_by}

-- ---- a turn of the search for the file
module _ (publisher day n k start : ℕ) (file : ℕ → File) (f : File) (e : f ≡ file k) (h : k < n) (inv : start + start_by publisher day (drop k (table n file)) ≡ start_by publisher day (table n file)) where
  pub start-on : (m : ℕ) → is_listed_of publisher day f ≡ false → m ≡ records_in 0 f → start + m + start_by publisher day (drop (k + 1) (table n file)) ≡ start_by publisher day (table n file)
  unfolding start_by
  start-on m q p =
      let here : start_by publisher day (drop k (table n file)) ≡ m + start_by publisher day (drop (k + 1) (table n file)) =
      rw (drop-table n k file h, ← e, q, p) in
      omega (arith, here, inv)

  pub start-here : is_listed_of publisher day f ≡ true → start ≡ start_by publisher day (table n file)
  unfolding start_by
  start-here q =
      let here : start_by publisher day (drop k (table n file)) ≡ 0 = rw (drop-table n k file h, ← e, q) in
      omega (arith, here, inv)

pub start-end : (publisher day n k start : ℕ) (file : ℕ → File) → n ≤ k → start + start_by publisher day (drop k (table n file)) ≡ start_by publisher day (table n file) → start ≡ start_by publisher day (table n file)
unfolding start_by
start-end publisher day n k start file h inv =
    let here : start_by publisher day (drop k (table n file)) ≡ 0 = rw (drop-none n k file h) in
    omega (arith, here, inv)

-- ---- no file begins behind the last report
pub start_below : (publisher day : ℕ) (fs : List File) → start_by publisher day fs ≤ records_of 0 fs
unfolding start_by records_of total
start_below publisher day [] = omega arith
start_below publisher day (f ∷ fs) = go (is_listed_of publisher day f) (start_below publisher day fs)
  where
    go : (b : Bool) → start_by publisher day fs ≤ records_of 0 fs → cond b 0 (records_in 0 f + start_by publisher day fs) ≤ records_in 0 f + total (records_in 0) fs
    go true ih = omega arith
    go false ih = omega (arith, ih)
