-- What is known of a file that is judged line by line. Assumes nothing.
--     ended_at                    where a search for the line's end leads
--     turn-closing, turn-record, turn-fault, turn_end     the line that starts at a place, and what is left to judge
--     one-short, one-fault, one_more, one-record          the same for a file of one record
--     end-here, end_more          nothing follows; something does
use Rattle.std.specs.Prelude.{Err}
use Rattle.files.specs.declared.judge.Fault.{Fault}
use Rattle.std.specs.Prelude.{Ok}
use Rattle.files.specs.Judged.{fault_at}
use Prim.Native.Nat.{ℕ, ◌+◌, ◌≤◌, ◌<◌}
use native.Mathlib.Omega.{arith}
use mathlib.Core.Path.{◌≡◌, refl, sym, ap, ◌∙◌}
use mathlib.Core.Bool.{Bool, true, false, cond}
use mathlib.Core.List.{List, [], ◌∷◌}
use lib.Dec.{eqb}
use lib.Seq.{take_all}
use lib.ListN.{take, length, drop, length-drop, drop_of_length-le}
use Rattle.laws.specs.Split.{before, split, between, end_of, EndsAt}
use Rattle.laws.proofs.Split.{split-some, ends_at, ends_more, ends_last}
use Rattle.records.specs.closing.Closing.{begins}
use Rattle.records.specs.declared.names.kind.FileKind.{FileKind}
use Rattle.faults.specs.declared.cause.Cause.TheVariants.{After}
use Rattle.faults.specs.Record.{record_fault}
use Rattle.files.specs.Judged.{at_line, place_at, is_end, closed, on_line, unended, last_line, judged, judged_one}

pub ended_at : (s : List ℕ) (at e : ℕ) → at ≤ length s → e ≡ end_of 13 s at → EndsAt 13 s at e
ended_at s at e h q = rw q (ends_at 13 s at h)

-- ---- nothing follows
end-cons : (b : ℕ) (s : List ℕ) → is_end (split 13 (b ∷ s)) ≡ false
unfolding split before
end-cons b s = go (eqb b 13) (split 13 s) (split-some 13 s)
  where
    go : (t : Bool) (fs : List (List ℕ)) → 1 ≤ length fs → is_end (before t b fs) ≡ false
    go t [] h = absurd (omega arith)
    go true (f ∷ fs) h = refl
    go false (f ∷ fs) h = refl

end_list : (s : List ℕ) → 0 < length s → is_end (split 13 s) ≡ false
end_list [] h = absurd (omega arith)
end_list (b ∷ s) h = end-cons b s

pub end_more : (s : List ℕ) (k : ℕ) → k < length s → is_end (split 13 (drop k s)) ≡ false
end_more s k h = end_list (drop k s) (omega (arith, length-drop k s))

pub end-here : (s : List ℕ) (k : ℕ) → length s ≤ k → is_end (split 13 (drop k s)) ≡ true
unfolding split
end-here s k h = rw (drop_of_length-le s h)

-- ---- a line and what follows it
module _ (kind : FileKind) (i : ℕ) (l : List ℕ) where
  pub judged-line : (ls : List (List ℕ)) → 1 ≤ length ls → judged kind i (l ∷ ls) ≡ cond (begins l) (closed i l ls) (on_line i (record_fault kind l) (judged kind (i + 1) ls))
  unfolding judged
  judged-line [] h = absurd (omega arith)
  judged-line (m ∷ ls) h = refl

  pub judged-last : judged kind i (l ∷ []) ≡ last_line kind i l
  unfolding judged
  judged-last = refl

  pub one_line : (ls : List (List ℕ)) → 1 ≤ length ls → judged_one kind (l ∷ ls) ≡ on_line 0 (record_fault kind l) (cond (is_end ls) (Ok 1) (fault_at (place_at 1 0) After))
  unfolding judged_one
  one_line [] h = absurd (omega arith)
  one_line (m ∷ ls) h = refl

module _ (kind : FileKind) {s : List ℕ} {at e : ℕ} (i : ℕ) (q : EndsAt 13 s at e) where
  turn : e < length s → judged kind i (split 13 (drop at s))
      ≡ cond (begins (between s at e)) (closed i (between s at e) (split 13 (drop (e + 1) s))) (on_line i (record_fault kind (between s at e)) (judged kind (i + 1) (split 13 (drop (e + 1) s))))
  turn h = ap (judged kind i) (ends_more q h) ∙ judged-line kind i (between s at e) (split 13 (drop (e + 1) s)) (split-some 13 (drop (e + 1) s))

  pub turn-closing : e < length s → begins (between s at e) ≡ true → judged kind i (split 13 (drop at s)) ≡ closed i (between s at e) (split 13 (drop (e + 1) s))
  turn-closing h b = turn h ∙ rw b

  pub turn-record : e < length s → begins (between s at e) ≡ false → at_line i (record_fault kind (between s at e)) ≡ Ok tt → judged kind i (split 13 (drop at s)) ≡ judged kind (i + 1) (split 13 (drop (e + 1) s))
  turn-record h b r = turn h ∙ rw (b, r)

  pub turn-fault : (fault : Fault) → e < length s → begins (between s at e) ≡ false → at_line i (record_fault kind (between s at e)) ≡ Err fault → judged kind i (split 13 (drop at s)) ≡ Err fault
  turn-fault fault h b r = turn h ∙ rw (b, r)

  pub turn_end : length s ≤ e → judged kind i (split 13 (drop at s)) ≡ last_line kind i (between s at e)
  turn_end h = ap (judged kind i) (ends_last q h) ∙ judged-last kind i (between s at e)

-- ---- a file of one record
module _ (kind : FileKind) {s : List ℕ} {e : ℕ} (q : EndsAt 13 s 0 e) where
  front : between s 0 e ≡ take e s
  front = ap (λ (n : ℕ). take n s) (omega arith)

  one : e < length s → judged_one kind (split 13 s) ≡ on_line 0 (record_fault kind (take e s)) (cond (is_end (split 13 (drop (e + 1) s))) (Ok 1) (fault_at (place_at 1 0) After))
  one h =
      ap (judged_one kind) (ends_more q h)
      ∙ one_line kind 0 (between s 0 e) (split 13 (drop (e + 1) s)) (split-some 13 (drop (e + 1) s))
      ∙ ap (λ (l : List ℕ). on_line 0 (record_fault kind l) (cond (is_end (split 13 (drop (e + 1) s))) (Ok 1) (fault_at (place_at 1 0) After))) front

  pub one-short : length s ≤ e → judged_one kind (split 13 s) ≡ unended kind 0 s
  unfolding judged_one
  one-short h = ap (judged_one kind) (ends_last q h) ∙ ap (unended kind 0) (front ∙ take_all e s h)

  pub one-fault : (fault : Fault) → e < length s → at_line 0 (record_fault kind (take e s)) ≡ Err fault → judged_one kind (split 13 s) ≡ Err fault
  one-fault fault h r = one h ∙ rw r

  pub one_more : e < length s → at_line 0 (record_fault kind (take e s)) ≡ Ok tt → e + 1 < length s → fault_at (place_at 1 0) After ≡ judged_one kind (split 13 s)
  one_more h r m = sym (one h ∙ rw (r, end_more s (e + 1) m))

  pub one-record : e < length s → at_line 0 (record_fault kind (take e s)) ≡ Ok tt → length s ≤ e + 1 → Ok 1 ≡ judged_one kind (split 13 s)
  one-record h r m = sym (one h ∙ rw (r, end-here s (e + 1) m))
