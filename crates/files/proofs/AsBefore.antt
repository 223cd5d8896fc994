-- A fault is told now exactly where it was told before field and cause, and at the same record. Assumes nothing.
--     judged-as-before     of any file: so many records, or a fault of that record, as before
--     fault-as-before      a fault now is a fault before, at the same place
--     before-as-fault      a fault before is one now, at the same place
use Rattle.std.specs.Prelude.{is_ok, ⊤}
use Rattle.faults.specs.declared.cause.FieldFault.{FieldFault}
use Rattle.std.specs.Prelude.{Result, Ok, Err}
use Rattle.files.specs.declared.judge.Fault.{Fault}
use Rattle.files.specs.Judged.{fault_at}
use Prim.Native.Nat.{ℕ, ◌+◌}
use native.Mathlib.Omega.{arith}
use mathlib.Core.Path.{◌≡◌, refl, sym, ap, ◌∙◌}
use mathlib.Core.Bool.{Bool, true, false, cond, ◌||◌}
use mathlib.Core.List.{List, [], ◌∷◌}
use lib.Dec.{eqb}
use lib.ListN.{length}
use Rattle.laws.specs.Lists.{same_lists}
use Rattle.laws.specs.Split.{split}
use Rattle.records.specs.closing.Closing.{begins, closing_text}
use Rattle.records.specs.declared.names.kind.FileKind.{FileKind}
use Rattle.records.specs.names.Kind.{has_closing}
use Rattle.records.specs.Record.{is_record}
use Rattle.faults.specs.declared.cause.Cause.{Cause}
use Rattle.faults.specs.declared.cause.Cause.TheVariants.{Length, Closing, After}
use Rattle.faults.specs.declared.cause.FaultPlace.{FaultPlace}
use Rattle.faults.specs.Record.{record_fault, end_pos}
use Rattle.faults.proofs.RecordExact.{record-exact}
use Rattle.files.specs.Judged.{place_at, is_end, closed, on_line, unended, last_line, judged, judged_one, judged_file}
use Rattle.files.specs.Former.{Former, former_closed, former_judged, former_one, former_file, formerly}

-- a line goes on, or is a fault at its place, as it is a record or not
on_line_lem : (i : ℕ) (r : Result ⊤ FieldFault) (j : Result ℕ Fault) → formerly (on_line i r j) ≡ cond (is_ok r) (formerly j) (Former.Fault i)
on_line_lem i (Ok tt) j = refl
on_line_lem i (Err fault) j = refl

line-as-before : (kind : FileKind) (i : ℕ) (l : List ℕ) (j : Result ℕ Fault) → formerly (on_line i (record_fault kind l) j) ≡ cond (is_record kind l) (formerly j) (Former.Fault i)
line-as-before kind i l j = on_line_lem i (record_fault kind l) j ∙ ap (λ (t : Bool). cond t (formerly j) (Former.Fault i)) (sym (record-exact kind l))

closed-as-before : (i : ℕ) (l : List ℕ) (ls : List (List ℕ)) → formerly (closed i l ls) ≡ former_closed i l ls
closed-as-before i l ls = go (same_lists eqb l (closing_text (i + 1))) (is_end ls)
  where
    go : (s t : Bool) → formerly (cond s (cond t (Ok i) (fault_at (place_at (i + 1) 0) After)) (fault_at (place_at i 0) Closing)) ≡ cond s (cond t (Former.Records i) (Former.Fault (i + 1))) (Former.Fault i)
    go true true = refl
    go true false = refl
    go false t = refl

-- what no CR ends was a fault, and is one
unended-as-before : (kind : FileKind) (i : ℕ) (l : List ℕ) → formerly (unended kind i l) ≡ Former.Fault i
unfolding unended
unended-as-before kind i l = go (record_fault kind l)
  where
    go : (r : Result ⊤ FieldFault) → formerly (on_line i r (fault_at (place_at i (end_pos kind)) Length)) ≡ Former.Fault i
    go (Ok tt) = refl
    go (Err fault) = refl

last-as-before : (kind : FileKind) (i : ℕ) (l : List ℕ) → formerly (last_line kind i l) ≡ Former.Fault i
unfolding last_line
last-as-before kind i l = go (eqb (length l) 0 || begins l)
  where
    go : (t : Bool) → formerly (cond t (fault_at (place_at i 0) Closing) (unended kind i l)) ≡ Former.Fault i
    go true = refl
    go false = unended-as-before kind i l

lines-as-before : (kind : FileKind) (ls : List (List ℕ)) (i : ℕ) → formerly (judged kind i ls) ≡ former_judged (is_record kind) i ls
unfolding judged former_judged
lines-as-before kind [] i = last-as-before kind i []
lines-as-before kind (l ∷ []) i = last-as-before kind i l
lines-as-before kind (l ∷ m ∷ ls) i = go (begins l) (lines-as-before kind (m ∷ ls) (i + 1))
  where
    go : (s : Bool) → formerly (judged kind (i + 1) (m ∷ ls)) ≡ former_judged (is_record kind) (i + 1) (m ∷ ls)
        → formerly (cond s (closed i l (m ∷ ls)) (on_line i (record_fault kind l) (judged kind (i + 1) (m ∷ ls)))) ≡ cond s (former_closed i l (m ∷ ls)) (cond (is_record kind l) (former_judged (is_record kind) (i + 1) (m ∷ ls)) (Former.Fault i))
    go true ih = closed-as-before i l (m ∷ ls)
    go false ih = line-as-before kind i l (judged kind (i + 1) (m ∷ ls)) ∙ ap (λ (j : Former). cond (is_record kind l) j (Former.Fault i)) ih

end-as-before : (t : Bool) → formerly (cond t (Ok 1) (fault_at (place_at 1 0) After)) ≡ cond t (Former.Records 1) (Former.Fault 1)
end-as-before true = refl
end-as-before false = refl

one-as-before : (kind : FileKind) (ls : List (List ℕ)) → formerly (judged_one kind ls) ≡ former_one (is_record kind) ls
unfolding judged_one former_one
one-as-before kind [] = unended-as-before kind 0 []
one-as-before kind (l ∷ []) = unended-as-before kind 0 l
one-as-before kind (l ∷ m ∷ ls) =
    line-as-before kind 0 l (cond (is_end (m ∷ ls)) (Ok 1) (fault_at (place_at 1 0) After))
    ∙ ap (λ (j : Former). cond (is_record kind l) j (Former.Fault 0)) (end-as-before (is_end (m ∷ ls)))

pub judged-as-before : (kind : FileKind) (file : List ℕ) → formerly (judged_file kind file) ≡ former_file kind file
unfolding judged_file former_file
judged-as-before kind file = go (has_closing kind)
  where
    go : (t : Bool) → formerly (cond t (judged kind 0 (split 13 file)) (judged_one kind (split 13 file))) ≡ cond t (former_judged (is_record kind) 0 (split 13 file)) (former_one (is_record kind) (split 13 file))
    go true = lines-as-before kind (split 13 file) 0
    go false = one-as-before kind (split 13 file)

pub fault-as-before : (kind : FileKind) (file : List ℕ) (place : FaultPlace) (cause : Cause) → judged_file kind file ≡ fault_at place cause → former_file kind file ≡ Former.Fault place.place
fault-as-before kind file place cause e = sym (judged-as-before kind file) ∙ ap formerly e

pub before-as-fault : (kind : FileKind) (file : List ℕ) (i : ℕ) → former_file kind file ≡ Former.Fault i → (place : FaultPlace) × (cause : Cause) × (judged_file kind file ≡ fault_at place cause) × (place.place ≡ i)
before-as-fault kind file i e = go (judged_file kind file) refl (judged-as-before kind file ∙ e)
  where
    go : (j : Result ℕ Fault) → judged_file kind file ≡ j → formerly j ≡ Former.Fault i → (place : FaultPlace) × (cause : Cause) × (judged_file kind file ≡ fault_at place cause) × (place.place ≡ i)
    go (Ok n) q e = absurd (let z : ◌≡◌ {A = ℕ} 0 1 = cc in omega arith)
    go (Err fault) q e = (fault.at, fault.cause, q, cc)
