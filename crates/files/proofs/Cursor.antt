-- A walk through a file that was judged finds its records one after the other. Assumes nothing.
--     line-at       where the line k starts, and what the lines from there on are
--     lines-enough  a file that was judged has no fewer lines than records
--     walked        k steps from the start of a file with more than k records lead to the record k
use Rattle.std.specs.Prelude.{Ok}
use Prim.Native.Nat.{ℕ, zero, suc, ◌+◌, ◌≤◌, ◌<◌}
use native.Mathlib.Nat.{add-zero, min-le_right}
use native.Mathlib.Numerals.{add-one}
use native.Mathlib.Omega.{arith}
use mathlib.Core.Path.{◌≡◌, refl, sym, ap, ◌∙◌}
use mathlib.Core.Logic.{⊎_elim}
use mathlib.Core.List.{List, []}
use lib.ListN.{length, get_or, take, drop, length-drop, length-take}
use lib.Seq.{drop-drop, get_or-drop}
use Rattle.laws.specs.Split.{split, between, end_of, EndsAt}
use Rattle.laws.proofs.Tests.{le-or-lt}
use Rattle.laws.proofs.Split.{ends_at, ends_more, ends_last}
use Rattle.records.specs.declared.names.kind.FileKind.{FileKind}
use Rattle.files.specs.Judged.{judged_file, records_of}
use Rattle.files.specs.Reading.{record_at}
use Rattle.files.specs.Cursor.{line_start}
use Rattle.files.proofs.ReadLaws.{record-line}
use Rattle.files.proofs.FileTrip.{file-written}

-- the line k starts at `at`, and these are the lines from there on
pub record StartsAt (s : List ℕ) (k at : ℕ) : Type 0 where
  pub inside : at ≤ length s
  pub lines : split 13 (drop at s) ≡ drop k (split 13 s)

next : (s : List ℕ) (k at : ℕ) → suc k < length (split 13 s) → StartsAt s k at → (end_of 13 s at < length s) × StartsAt s (suc k) (end_of 13 s at + 1)
next s k at h p = ⊎_elim none some (le-or-lt (length s) (end_of 13 s at))
  where
    q : EndsAt 13 s at (end_of 13 s at)
    q = ends_at 13 s at p.inside

    none : length s ≤ end_of 13 s at → (end_of 13 s at < length s) × StartsAt s (suc k) (end_of 13 s at + 1)
    none g = absurd (omega (arith, ap length (sym p.lines ∙ ends_last q g), length-drop k (split 13 s)))

    some : end_of 13 s at < length s → (end_of 13 s at < length s) × StartsAt s (suc k) (end_of 13 s at + 1)
    some g = (
      g,
      record {
        inside = omega arith;
        lines = ap (drop 1) (sym (ends_more q g) ∙ p.lines) ∙ drop-drop 1 k (split 13 s) ∙ ap (λ (n : ℕ). drop n (split 13 s)) (add-one k);
      },
    )

pub line-at : (s : List ℕ) (k : ℕ) → k < length (split 13 s) → StartsAt s k (line_start s k)
unfolding line_start
line-at s zero h = record { inside = omega arith; lines = refl }
line-at s (suc k) h = (next s k (line_start s k) h (line-at s k (omega arith))).1

-- the line k, from its start to its end
pub line-is : (s : List ℕ) (k : ℕ) → k < length (split 13 s) → between s (line_start s k) (end_of 13 s (line_start s k)) ≡ get_or (split 13 s) k []
line-is s k h =
    let p = line-at s k h in
    let q = ends_at 13 s (line_start s k) p.inside in
    ap (λ (ls : List (List ℕ)). get_or ls 0 []) (sym q.splits ∙ p.lines) ∙ get_or-drop k (split 13 s) 0 [] ∙ ap (λ (n : ℕ). get_or (split 13 s) n []) (add-zero k)

-- a file that was judged has no fewer lines than records
pub lines-enough : (kind : FileKind) (file : List ℕ) (n : ℕ) → judged_file kind file ≡ Ok n → n ≤ length (split 13 file)
unfolding records_of
lines-enough kind file n e =
    let l = (file-written kind file n e).1 in
    let t : records_of kind file ≡ take n (split 13 file) = rw e in
    omega (arith, l, ap length t, length-take n (split 13 file), min-le_right n (length (split 13 file)))

pub walked : (kind : FileKind) (file : List ℕ) (n k : ℕ) → judged_file kind file ≡ Ok n → k < n → between file (line_start file k) (end_of 13 file (line_start file k)) ≡ record_at kind file k
walked kind file n k e h = line-is file k (omega (arith, lines-enough kind file n e)) ∙ sym (record-line kind file k n e h)
