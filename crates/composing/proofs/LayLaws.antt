-- Records laid one after the other, and what was measured of them. Assumes nothing.
use Prim.Native.Nat.{ℕ, suc, ◌+◌, ◌≤◌}
use native.Mathlib.Nat.{add-zero}
use native.Mathlib.Omega.{arith}
use mathlib.Core.Path.{◌≡◌, refl, sym, ap, ap₂, ◌∙◌}
use mathlib.Core.Bool.{Bool, true, false, cond, ◌&&◌}
use mathlib.Core.List.{List, [], ◌∷◌, ◌++◌, append_assoc}
use lib.ListN.{length, length-append}
use Rattle.laws.specs.Lists.{all, first_at}
use Rattle.laws.specs.Ended.{ended}
use Rattle.laws.specs.Overlay.{overlay, Laid}
use Rattle.laws.proofs.Tests.{and_left, and_right}
use Rattle.laws.proofs.Overlay.{overlay-append, laid_then, laid-length}
use Rattle.records.specs.closing.Closing.{closing_text}
use Rattle.records.specs.declared.names.kind.FileKind.{FileKind}
use Rattle.records.specs.Record.{width_of, fits, text_of}
use Rattle.files.specs.Writing.{Holding, values_in, unfit, held_all}
use Rattle.std.specs.Prelude.{Err}
use Rattle.records.specs.declared.names.written.NotWritten.{NotWritten}
use Rattle.composing.specs.declared.measure.Measured.{Measured}
use Rattle.composing.specs.Measuring.{measured, measured_from, record_lines, closed_text}
use Rattle.composing.proofs.GroupLaws.{Cut, chunk-more, groups_none}

-- ---- the lines of records
pub lines_cons : (kind : FileKind) (v : List ℕ) (vs : List (List ℕ)) → record_lines kind (v ∷ vs) ≡ text_of kind v ++ 13 ∷ record_lines kind vs
unfolding record_lines ended
lines_cons kind v vs = refl

pub lines_none : (kind : FileKind) → record_lines kind [] ≡ []
unfolding record_lines ended
lines_none kind = refl

pub length-lines : (kind : FileKind) (v : List ℕ) (vs : List (List ℕ)) → length (record_lines kind (v ∷ vs)) ≡ length (text_of kind v) + 1 + length (record_lines kind vs)
length-lines kind v vs = ap length (lines_cons kind v vs) ∙ length-append (text_of kind v) (13 ∷ record_lines kind vs) ∙ omega arith

-- a line has at least its CR
pub lines_long : (kind : FileKind) (vs : List (List ℕ)) → length vs ≤ length (record_lines kind vs)
lines_long kind [] = omega arith
lines_long kind (v ∷ vs) = omega (arith, length-lines kind v vs, lines_long kind vs)

-- ---- what was measured
fits-cons : (kind : FileKind) (k total : ℕ) (v : List ℕ) (vs : List (List ℕ)) (t : Bool) → fits kind v ≡ t
    → measured_from kind (k + 1) (total + (length (text_of kind v) + 1)) vs ≡ cond (all (fits kind) vs) (measured (k + 1 + length vs) (total + (length (text_of kind v) + 1) + length (record_lines kind vs))) (Err (NotWritten.Fault (k + 1 + first_at (unfit kind) vs)))
    → measured_from kind k total (v ∷ vs) ≡ cond (all (fits kind) (v ∷ vs)) (measured (k + length (v ∷ vs)) (total + length (record_lines kind (v ∷ vs)))) (Err (NotWritten.Fault (k + first_at (unfit kind) (v ∷ vs))))
unfolding measured_from all unfit
fits-cons kind k total v vs true e ih =
    let a : k + 1 + length vs ≡ k + suc (length vs) = omega arith in
    let b : total + (length (text_of kind v) + 1) + length (record_lines kind vs) ≡ total + length (record_lines kind (v ∷ vs)) = omega (arith, length-lines kind v vs) in
    let d : k + 1 + first_at (unfit kind) vs ≡ k + suc (first_at (unfit kind) vs) = omega arith in
    rw e (ih ∙ rw (a, b, d))
fits-cons kind k total v vs false e ih = rw (e, add-zero)

measured-is : (kind : FileKind) (k total : ℕ) (vs : List (List ℕ)) → measured_from kind k total vs ≡ cond (all (fits kind) vs) (measured (k + length vs) (total + length (record_lines kind vs))) (Err (NotWritten.Fault (k + first_at (unfit kind) vs)))
unfolding measured_from all record_lines ended
measured-is kind k total [] = rw (add-zero, add-zero)
measured-is kind k total (v ∷ vs) = fits-cons kind k total v vs (fits kind v) refl (measured-is kind (k + 1) (total + (length (text_of kind v) + 1)) vs)

pub measured-fault : (kind : FileKind) (vs : List (List ℕ)) (i : ℕ) → measured_from kind 0 0 vs ≡ Err (NotWritten.Fault i) → held_all kind vs ≡ Holding.Fault i
unfolding held_all
measured-fault kind vs i e = go (all (fits kind) vs) (sym (measured-is kind 0 0 vs) ∙ e)
  where
    go : (t : Bool) → cond t (measured (0 + length vs) (0 + length (record_lines kind vs))) (Err (NotWritten.Fault (0 + first_at (unfit kind) vs))) ≡ Err (NotWritten.Fault i)
        → cond t (Holding.Records (length vs)) (Holding.Fault (first_at (unfit kind) vs)) ≡ Holding.Fault i
    go true e = absurd (let z : ◌≡◌ {A = ℕ} 0 1 = cc in omega arith)
    go false e =
        let p : 0 + first_at (unfit kind) vs ≡ i = cc in
        let q : first_at (unfit kind) vs ≡ i = omega arith in
        ap Holding.Fault q

pub measured-never-long : (kind : FileKind) (vs : List (List ℕ)) → measured_from kind 0 0 vs ≡ Err NotWritten.Long → ⊥
measured-never-long kind vs e = go (all (fits kind) vs) (sym (measured-is kind 0 0 vs) ∙ e)
  where
    go : (t : Bool) → cond t (measured (0 + length vs) (0 + length (record_lines kind vs))) (Err (NotWritten.Fault (0 + first_at (unfit kind) vs))) ≡ Err NotWritten.Long → ⊥
    go true e = cc
    go false e = cc

-- what is known of records that were measured
pub record Whole (kind : FileKind) (vs : List (List ℕ)) (n total : ℕ) : Type 0 where
  pub fit : all (fits kind) vs ≡ true
  pub count : n ≡ length vs
  pub bytes : total ≡ length (record_lines kind vs)

pub measured-length : (kind : FileKind) (vs : List (List ℕ)) (n total : ℕ) → measured_from kind 0 0 vs ≡ measured n total → Whole kind vs n total
measured-length kind vs n total e = go (all (fits kind) vs) refl (sym (measured-is kind 0 0 vs) ∙ e)
  where
    go : (t : Bool) → all (fits kind) vs ≡ t → cond t (measured (0 + length vs) (0 + length (record_lines kind vs))) (Err (NotWritten.Fault (0 + first_at (unfit kind) vs))) ≡ measured n total → Whole kind vs n total
    go true p e =
        let same : ◌≡◌ {A = Measured} (record { count = 0 + length vs; bytes = 0 + length (record_lines kind vs) }) (record { count = n; bytes = total }) = cc in
        record { fit = p; count = omega (arith, ap (λ (m : Measured). m.count) same); bytes = omega (arith, ap (λ (m : Measured). m.bytes) same) }
    go false p e = absurd (let z : ◌≡◌ {A = ℕ} 0 1 = cc in omega arith)

pub held_all_lem : (kind : FileKind) (vs : List (List ℕ)) → all (fits kind) vs ≡ true → held_all kind vs ≡ Holding.Records (length vs)
unfolding held_all
held_all_lem kind vs p = rw p

pub length-closed : (kind : FileKind) (vs : List (List ℕ)) → length (closed_text kind vs) ≡ length (record_lines kind vs) + length (closing_text (length vs + 1)) + 1
unfolding closed_text
length-closed kind vs =
    length-append (record_lines kind vs ++ closing_text (length vs + 1)) (13 ∷ [])
    ∙ omega (arith, length-append (record_lines kind vs) (closing_text (length vs + 1)))

-- ---- a record laid with its CR, and what is left to lay
module _ {o o₁ o₂ t : List ℕ} {at m n : ℕ} (p : Laid o at t o₁ m) (q : Laid o₁ m (13 ∷ []) o₂ n) where
  pub lay-on : (r : List ℕ) → overlay o at (t ++ 13 ∷ r) ≡ overlay o₂ n r
  lay-on r =
      let l : Laid o at (t ++ (13 ∷ [])) o₂ n = laid_then p q in
      ap (overlay o at) (sym (append_assoc t (13 ∷ []) r))
      ∙ overlay-append o at (t ++ (13 ∷ [])) r
      ∙ ap₂ (λ (x : List ℕ) (k : ℕ). overlay x k r) (sym l.bytes) (sym l.ends)

  pub lay-end : n ≡ at + (length t + 1)
  lay-end = omega (arith, p.ends, q.ends)

  pub lay-length : length o₂ ≡ length o
  lay-length = laid-length q ∙ laid-length p

-- ---- the records that are left
module _ {kind : FileKind} {left g right : List ℕ} (c : Cut kind left g right) where
  pub left-lines : record_lines kind (values_in kind left) ≡ text_of kind g ++ 13 ∷ record_lines kind (values_in kind right)
  left-lines = ap (record_lines kind) (chunk-more c) ∙ lines_cons kind g (values_in kind right)

  pub left-length : length (record_lines kind (values_in kind left)) ≡ length (text_of kind g) + 1 + length (record_lines kind (values_in kind right))
  left-length = ap (λ (vs : List (List ℕ)). length (record_lines kind vs)) (chunk-more c) ∙ length-lines kind g (values_in kind right)

  both : all (fits kind) (values_in kind left) ≡ true → (fits kind g && all (fits kind) (values_in kind right)) ≡ true
  unfolding all
  both e = sym (ap (all (fits kind)) (chunk-more c)) ∙ e

  pub first_fits : all (fits kind) (values_in kind left) ≡ true → fits kind g ≡ true
  first_fits e = and_left (fits kind g) (all (fits kind) (values_in kind right)) (both e)

  pub left-fit : all (fits kind) (values_in kind left) ≡ true → all (fits kind) (values_in kind right) ≡ true
  left-fit e = and_right (fits kind g) (all (fits kind) (values_in kind right)) (both e)

pub left-none : (kind : FileKind) (left : List ℕ) → length left ≡ 0 → record_lines kind (values_in kind left) ≡ []
left-none kind left h = ap (record_lines kind) (groups_none (width_of kind) left (omega arith)) ∙ lines_none kind
