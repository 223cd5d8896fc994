-- What the cheap test of the buffers gives, and that a store that reads passes it. Assumes nothing.
use mathlib.Core.Path.{◌≡◌, sym, ap, ◌∙◌}
use mathlib.Core.Bool.{Bool, true, ◌&&◌}
use mathlib.Core.List.{List}
use Prim.Native.Nat.{ℕ, ◌≤◌}
use native.Mathlib.Omega.{arith}
use borrow.Author.Tests.{leb-true, le-leb}
use lib.Dec.{leb}
use lib.ListN.{length}
use Rattle.laws.specs.Lists.{table, all}
use Rattle.laws.proofs.Tests.{and_left, and_right}
use Rattle.laws.proofs.Tables.{all-at, all-each, length-table, get_or-table}
use Rattle.store.specs.journals.Files.{file_count, file_at, files_of, good_file, records_of}
use Rattle.store.specs.numbers.Lines.{line_count}
use Rattle.working.specs.Working.{Sound}
use Rattle.working.proofs.SlipLaws.{records-grow}
use Rattle.asking.specs.Showable.{files_in_range, is_showable}

-- ---- the list of files
pub record InRange (f : List ℕ) : Type 0 where
  pub few : file_count f ≤ 1024
  pub good : all good_file (files_of f) ≡ true
  pub reports : records_of 0 (files_of f) ≤ 8192
  pub objections : records_of 1 (files_of f) ≤ 2048

in-range : (f : List ℕ) → files_in_range f ≡ true → InRange f
unfolding files_in_range
in-range f e =
    let a : Bool = leb (file_count f) 1024 in
    let b : Bool = all good_file (files_of f) in
    let c : Bool = leb (records_of 0 (files_of f)) 8192 in
    let d : Bool = leb (records_of 1 (files_of f)) 2048 in
    let e₁ = and_right a (b && (c && d)) e in
    let e₂ = and_right b (c && d) e₁ in
    record {
      few = leb-true (file_count f) 1024 (and_left a (b && (c && d)) e);
      good = and_left b (c && d) e₁;
      reports = leb-true (records_of 0 (files_of f)) 8192 (and_left c d e₂);
      objections = leb-true (records_of 1 (files_of f)) 2048 (and_right c d e₂);
    }

range-true : (f : List ℕ) → InRange f → files_in_range f ≡ true
unfolding files_in_range
range-true f r =
    rw (le-leb (file_count f) 1024 r.few, r.good, le-leb (records_of 0 (files_of f)) 8192 r.reports, le-leb (records_of 1 (files_of f)) 2048 r.objections)

-- ---- all four buffers
pub record Showable (t f r c : List ℕ) : Type 0 where
  pub long-table : 14338 ≤ length t
  pub long-files : 8194 ≤ length f
  pub long-regular : 368640 ≤ length r
  pub long-corrections : 200704 ≤ length c
  pub few-lines : line_count t ≤ 1024
  pub range : InRange f

pub showable : (t f r c : List ℕ) → is_showable t f r c ≡ true → Showable t f r c
unfolding is_showable
showable t f r c e =
    let a : Bool = leb 14338 (length t) in
    let b : Bool = leb 8194 (length f) in
    let d : Bool = leb 368640 (length r) in
    let g : Bool = leb 200704 (length c) in
    let h : Bool = leb (line_count t) 1024 in
    let i : Bool = files_in_range f in
    let e₁ = and_right a (b && (d && (g && (h && i)))) e in
    let e₂ = and_right b (d && (g && (h && i))) e₁ in
    let e₃ = and_right d (g && (h && i)) e₂ in
    let e₄ = and_right g (h && i) e₃ in
    record {
      long-table = leb-true 14338 (length t) (and_left a (b && (d && (g && (h && i)))) e);
      long-files = leb-true 8194 (length f) (and_left b (d && (g && (h && i))) e₁);
      long-regular = leb-true 368640 (length r) (and_left d (g && (h && i)) e₂);
      long-corrections = leb-true 200704 (length c) (and_left g (h && i) e₃);
      few-lines = leb-true (line_count t) 1024 (and_left h i e₄);
      range = in-range f (and_right h i e₄);
    }

pub showable-true : (t f r c : List ℕ) → Showable t f r c → is_showable t f r c ≡ true
unfolding is_showable
showable-true t f r c s =
    rw (
      le-leb 14338 (length t) s.long-table,
      le-leb 8194 (length f) s.long-files,
      le-leb 368640 (length r) s.long-regular,
      le-leb 200704 (length c) s.long-corrections,
      le-leb (line_count t) 1024 s.few-lines,
      range-true f s.range,
    )

-- ---- what working out asks of the first files
pub sound : (t f r c : List ℕ) (n : ℕ) → Showable t f r c → n ≤ file_count f → Sound n f r c
unfolding files_of
sound t f r c n s h = record {
  listed = omega (arith, s.long-files, s.range.few);
  few = omega (arith, s.range.few);
  filed = h;
  good = all-each good_file n (file_at f) (λ i g.
      ap good_file (sym (get_or-table (file_count f) i (file_at f) (file_at f 0) (omega arith)))
      ∙ all-at good_file (table (file_count f) (file_at f)) i (file_at f 0) s.range.good (rw (length-table (file_count f) (file_at f)) (omega arith)));
  reports = omega (arith, s.range.reports, records-grow 0 n (file_count f) (file_at f) h);
  objections = omega (arith, s.range.objections, records-grow 1 n (file_count f) (file_at f) h);
  regular_room = s.long-regular;
  correction_room = s.long-corrections;
}

-- the reports of all files, counted by the code
pub reports_first : (f : List ℕ) (n : ℕ) → InRange f → n ≡ file_count f → records_of 0 (table n (file_at f)) ≤ 8192
unfolding files_of
reports_first f n r e = let m : records_of 0 (table (file_count f) (file_at f)) ≤ 8192 = r.reports in rw e m
