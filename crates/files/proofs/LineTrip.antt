-- Lines read back and written back. Assumes nothing.
--     lines-read        records and then the right closing record are judged as so many records
--     lines-written     lines that are judged as n records are n records, the closing record, and nothing behind it
--     one-read, one_written     the same for a file of one record
use Rattle.std.specs.Prelude.{Result, Err, ⊤}
use Rattle.faults.specs.declared.cause.FieldFault.{FieldFault}
use Rattle.std.specs.Prelude.{Ok}
use Rattle.files.specs.Judged.{fault_at}
use lib.Dec.{eqb}
use Prim.Native.Nat.{ℕ, suc, ◌+◌, ◌≤◌}
use native.Mathlib.Nat.{add-zero}
use native.Mathlib.Omega.{arith}
use mathlib.Core.Path.{◌≡◌, refl, ap, ◌∙◌}
use mathlib.Core.Bool.{Bool, true, false, cond, ◌||◌}
use mathlib.Core.List.{List, [], ◌∷◌, ◌++◌}
use lib.ListN.{length}
use Rattle.laws.specs.Lists.{all, same_lists}
use Rattle.laws.proofs.Tests.{and_left, and_right}
use Rattle.laws.proofs.Same.{numbers-refl, numbers-equal}
use Rattle.records.specs.closing.Closing.{begins, closing_text}
use Rattle.records.proofs.closing.ClosingLaws.{begins-closing}
use Rattle.records.specs.declared.names.kind.FileKind.{FileKind}
use Rattle.records.specs.Record.{is_record}
use Rattle.faults.specs.declared.cause.Cause.{Cause}
use Rattle.faults.specs.declared.cause.Cause.TheVariants.{Length, Closing, After}
use Rattle.faults.specs.declared.cause.FaultPlace.{FaultPlace}
use Rattle.faults.specs.Record.{record_fault, end_pos}
use Rattle.faults.proofs.RecordExact.{record_has_no_fault, right-record}
use Rattle.files.specs.Judged.{place_at, is_end, closed, on_line, unended, last_line, judged, judged_one}
use Rattle.files.proofs.JudgeLaws.{judged-line}

-- the closing record of n lines, and nothing behind its CR
abbrev pub end_of_file : ℕ → List (List ℕ)
end_of_file n = closing_text n ∷ [] ∷ []

-- some line follows
more-lines : (ts : List (List ℕ)) (n : ℕ) → 1 ≤ length (ts ++ end_of_file n)
more-lines [] n = omega arith
more-lines (t ∷ ts) n = omega arith

module _ (kind : FileKind) where
  pub lines-read : ((l : List ℕ) → is_record kind l ≡ true → begins l ≡ false) → (ts : List (List ℕ)) (i : ℕ) → all (is_record kind) ts ≡ true → judged kind i (ts ++ end_of_file (i + length ts + 1)) ≡ Ok (i + length ts)
  unfolding all
  lines-read plain [] i e =
      judged-line kind i (closing_text (i + 0 + 1)) ([] ∷ []) (omega arith)
      ∙ rw (begins-closing (i + 0 + 1), add-zero, numbers-refl (closing_text (i + 1)))
  lines-read plain (t ∷ ts) i e =
      let good = and_left (is_record kind t) (all (is_record kind) ts) e in
      let a : i + suc (length ts) ≡ i + 1 + length ts = omega arith in
      judged-line kind i t (ts ++ end_of_file (i + suc (length ts) + 1)) (more-lines ts (i + suc (length ts) + 1))
      ∙ rw (plain t good, record_has_no_fault kind t good, a) (lines-read plain ts (i + 1) (and_right (is_record kind t) (all (is_record kind) ts) e))

  -- what lines that were judged are made of
  pub record Whole (i n : ℕ) (ls : List (List ℕ)) : Type 0 where
    pub texts : List (List ℕ)
    pub lines : ls ≡ texts ++ end_of_file (n + 1)
    pub count : n ≡ i + length texts
    pub records : all (is_record kind) texts ≡ true

  never : {n : ℕ} {A : Type 0} (place : FaultPlace) (cause : Cause) → fault_at place cause ≡ Ok n → A
  never place cause e = absurd (let z : ◌≡◌ {A = ℕ} 0 1 = cc in omega arith)

  end-only : (ls : List (List ℕ)) → is_end ls ≡ true → ls ≡ [] ∷ []
  end-only [] e = absurd (let z : ◌≡◌ {A = ℕ} 0 1 = cc in omega arith)
  end-only ([] ∷ []) e = refl
  end-only ([] ∷ m ∷ ls) e = absurd (let z : ◌≡◌ {A = ℕ} 0 1 = cc in omega arith)
  end-only ((b ∷ l) ∷ ls) e = absurd (let z : ◌≡◌ {A = ℕ} 0 1 = cc in omega arith)

  closed-written : (i n : ℕ) (l : List ℕ) (ls : List (List ℕ)) → closed i l ls ≡ Ok n → Whole i n (l ∷ ls)
  closed-written i n l ls e = go (same_lists eqb l (closing_text (i + 1))) refl (is_end ls) refl e
    where
      go : (s : Bool) → same_lists eqb l (closing_text (i + 1)) ≡ s → (t : Bool) → is_end ls ≡ t → cond s (cond t (Ok i) (fault_at (place_at (i + 1) 0) After)) (fault_at (place_at i 0) Closing) ≡ Ok n → Whole i n (l ∷ ls)
      go true a true b e =
          let q : i ≡ n = cc in
          record {
            texts = [];
            lines = rw (numbers-equal l (closing_text (i + 1)) a, end-only ls b, q);
            count = omega arith;
            records = unfold all in refl;
          }
      go true a false b e = never (place_at (i + 1) 0) After e
      go false a t b e = never (place_at i 0) Closing e

  whole-more : (i n : ℕ) (t : List ℕ) (ls : List (List ℕ)) → is_record kind t ≡ true → Whole (i + 1) n ls → Whole i n (t ∷ ls)
  whole-more i n t ls good w =
      record {
        texts = t ∷ w.texts;
        lines = ap (λ (r : List (List ℕ)). t ∷ r) w.lines;
        count = omega (arith, w.count);
        records = unfold all in rw good w.records;
      }

  -- what no CR ends is a fault
  unended-never : {n : ℕ} {A : Type 0} (i : ℕ) (l : List ℕ) → unended kind i l ≡ Ok n → A
  unfolding unended
  unended-never {n} {A} i l e = go (record_fault kind l) e
    where
      go : (r : Result ⊤ FieldFault) → on_line i r (fault_at (place_at i (end_pos kind)) Length) ≡ Ok n → A
      go (Ok tt) e = never (place_at i (end_pos kind)) Length e
      go (Err fault) e = never (place_at i fault.field) fault.cause e

  last-never : {n : ℕ} {A : Type 0} (i : ℕ) (l : List ℕ) → last_line kind i l ≡ Ok n → A
  unfolding last_line
  last-never {n} {A} i l e = go (eqb (length l) 0 || begins l) e
    where
      go : (t : Bool) → cond t (fault_at (place_at i 0) Closing) (unended kind i l) ≡ Ok n → A
      go true e = never (place_at i 0) Closing e
      go false e = unended-never i l e

  pub lines-written : (ls : List (List ℕ)) (i n : ℕ) → judged kind i ls ≡ Ok n → Whole i n ls
  unfolding judged
  lines-written [] i n e = last-never i [] e
  lines-written (l ∷ []) i n e = last-never i l e
  lines-written (l ∷ m ∷ ls) i n e = go (begins l) (record_fault kind l) refl e (lines-written (m ∷ ls) (i + 1) n)
    where
      go : (s : Bool) (r : Result ⊤ FieldFault) → record_fault kind l ≡ r → cond s (closed i l (m ∷ ls)) (on_line i r (judged kind (i + 1) (m ∷ ls))) ≡ Ok n → (judged kind (i + 1) (m ∷ ls) ≡ Ok n → Whole (i + 1) n (m ∷ ls)) → Whole i n (l ∷ m ∷ ls)
      go true r q e ih = closed-written i n l (m ∷ ls) e
      go false (Ok tt) q e ih = whole-more i n l (m ∷ ls) (right-record kind l q) (ih e)
      go false (Err fault) q e ih = never (place_at i fault.field) fault.cause e

  -- ---- one record
  pub one-read : (t : List ℕ) → is_record kind t ≡ true → judged_one kind (t ∷ [] ∷ []) ≡ Ok 1
  unfolding judged_one
  one-read t e = rw (record_has_no_fault kind t e)

  pub record WholeOne (n : ℕ) (ls : List (List ℕ)) : Type 0 where
    pub text : List ℕ
    pub lines : ls ≡ text ∷ [] ∷ []
    pub count : n ≡ 1
    pub good : is_record kind text ≡ true

  pub one_written : (ls : List (List ℕ)) (n : ℕ) → judged_one kind ls ≡ Ok n → WholeOne n ls
  unfolding judged_one
  one_written [] n e = unended-never 0 [] e
  one_written (l ∷ []) n e = unended-never 0 l e
  one_written (l ∷ m ∷ ls) n e = go (record_fault kind l) refl (is_end (m ∷ ls)) refl e
    where
      go : (r : Result ⊤ FieldFault) → record_fault kind l ≡ r → (t : Bool) → is_end (m ∷ ls) ≡ t → on_line 0 r (cond t (Ok 1) (fault_at (place_at 1 0) After)) ≡ Ok n → WholeOne n (l ∷ m ∷ ls)
      go (Ok tt) a true b e =
          let q : 1 ≡ n = cc in
          record { text = l; lines = ap (λ (r : List (List ℕ)). l ∷ r) (end-only (m ∷ ls) b); count = omega arith; good = right-record kind l a }
      go (Ok tt) a false b e = never (place_at 1 0) After e
      go (Err fault) a t b e = never (place_at 0 fault.field) fault.cause e
