-- What a writer of files answered and left in the buffer. Assumes nothing.
use Rattle.std.specs.Prelude.{Ok, Err}
use Rattle.records.specs.declared.names.written.NotWritten.{NotWritten}
use Prim.Native.Nat.{ℕ, zero, suc, ◌+◌, ◌≤◌, ◌<◌}
use native.Mathlib.Nat.{zero-add, min-le_right}
use native.Mathlib.Omega.{arith}
use mathlib.Core.Path.{◌≡◌, refl, sym, ap, ◌∙◌}
use mathlib.Core.Bool.{true, false}
use mathlib.Core.List.{List, [], ◌∷◌, ◌++◌, append_assoc, map}
use lib.ListN.{length, take, drop, length-take, length-drop, length-map}
use borrow.Author.Tests.{le-leb, lt-leb}
use Rattle.laws.specs.Lists.{all}
use Rattle.laws.specs.Ended.{ended}
use Rattle.laws.specs.Overlay.{Laid}
use Rattle.laws.proofs.Ended.{ended-append}
use Rattle.laws.proofs.Overlay.{laid_then}
use Rattle.records.specs.closing.Closing.{closing_text}
use Rattle.records.specs.declared.names.kind.FileKind.{FileKind}
use Rattle.records.specs.names.Kind.{has_closing}
use Rattle.records.specs.names.Written.{Wrote}
use Rattle.records.specs.Record.{width_of, fits, text_of}
use Rattle.records.proofs.RecordLaws.{fits_width}
use Rattle.files.specs.Writing.{Holding, values_in, held_all, held_one, held, lines_of, file_text, file_of, answer_to}
use Rattle.composing.specs.Measuring.{measured_from, record_lines, closed_text}
use Rattle.composing.proofs.GroupLaws.{groups_none, groups-some, width_some}
use Rattle.composing.proofs.LayLaws.{measured-fault, measured-never-long, length-lines, lines_none}

-- ---- each answer
module _ (h : Holding) (text before : List ℕ) where
  pub wrote-fault : (i : ℕ) → h ≡ Holding.Fault i → Wrote (answer_to h text (length before)) text before before (Err (NotWritten.Fault i))
  wrote-fault i e = record { answer = rw e; bytes = rw e }

  pub wrote-long : (n : ℕ) → h ≡ Holding.Records n → length before < length text → Wrote (answer_to h text (length before)) text before before (Err NotWritten.Long)
  wrote-long n e l = record { answer = rw (e, lt-leb (length text) (length before) l); bytes = rw (e, lt-leb (length text) (length before) l) }

  pub wrote-whole : (n : ℕ) {after : List ℕ} {r : ℕ} → h ≡ Holding.Records n → length text ≤ length before → Laid before 0 text after r → Wrote (answer_to h text (length before)) text before after (Ok r)
  wrote-whole n e l p =
      record {
        answer = rw (e, le-leb (length text) (length before) l) (ap Ok (p.ends ∙ zero-add (length text)));
        bytes = rw (e, le-leb (length text) (length before) l) p.bytes;
      }

-- records of which one can't be held
pub wrote_unfit : (kind : FileKind) (vs : List (List ℕ)) (text before : List ℕ) (why : NotWritten) → measured_from kind 0 0 vs ≡ Err why
    → Wrote (answer_to (held_all kind vs) text (length before)) text before before (Err why)
wrote_unfit kind vs text before (NotWritten.Fault i) e = wrote-fault (held_all kind vs) text before i (measured-fault kind vs i e)
wrote_unfit kind vs text before NotWritten.Long e = absurd (measured-never-long kind vs e)

-- ---- a file of one record
module _ (kind : FileKind) (ws : List ℕ) (w : ℕ) (g : List ℕ) (ew : w ≡ width_of kind) (eg : g ≡ take w ws) where
  -- the first group and the others, where there are words
  first : 0 < length ws → values_in kind ws ≡ g ∷ values_in kind (drop w ws)
  first h = groups-some (width_of kind) ws (width_some kind) h ∙ rw (← ew, eg)

  pub one-unfit : fits kind g ≡ false → held_one kind (values_in kind ws) ≡ Holding.Fault 0
  unfolding held_one
  one-unfit e = go (length ws) refl
    where
      cons : (vs : List (List ℕ)) → held_one kind (g ∷ vs) ≡ Holding.Fault 0
      cons [] = rw e
      cons (v ∷ vs) = rw e

      go : (n : ℕ) → length ws ≡ n → held_one kind (values_in kind ws) ≡ Holding.Fault 0
      go zero q = ap (held_one kind) (groups_none (width_of kind) ws (omega arith))
      go (suc n) q = ap (held_one kind) (first (omega arith)) ∙ cons (values_in kind (drop w ws))

  rest-some : w < length ws → values_in kind (drop w ws) ≡ take (width_of kind) (drop w ws) ∷ values_in kind (drop (width_of kind) (drop w ws))
  rest-some h = groups-some (width_of kind) (drop w ws) (width_some kind) (omega (arith, length-drop w ws))

  pub one-two : fits kind g ≡ true → w < length ws → held_one kind (values_in kind ws) ≡ Holding.Fault 1
  unfolding held_one
  one-two e h =
      ap (held_one kind) (first (omega arith) ∙ ap (λ (vs : List (List ℕ)). g ∷ vs) (rest-some h))
      ∙ rw e

  words-some : fits kind g ≡ true → 0 < length ws
  words-some e = omega (arith, width_some kind, fits_width kind g e, ap length eg, length-take w ws, min-le_right w (length ws))

  pub one-values : fits kind g ≡ true → length ws ≤ w → values_in kind ws ≡ g ∷ []
  one-values e h = first (words-some e) ∙ ap (λ (vs : List (List ℕ)). g ∷ vs) (groups_none (width_of kind) (drop w ws) (omega (arith, length-drop w ws)))

  pub one-held : fits kind g ≡ true → length ws ≤ w → held_one kind (values_in kind ws) ≡ Holding.Records 1
  unfolding held_one
  one-held e h = ap (held_one kind) (one-values e h) ∙ rw e

  pub one-fit : fits kind g ≡ true → length ws ≤ w → all (fits kind) (values_in kind ws) ≡ true
  unfolding all
  one-fit e h = ap (all (fits kind)) (one-values e h) ∙ rw e

  pub one-length : (n : ℕ) → fits kind g ≡ true → length ws ≤ w → n ≡ length (text_of kind g) → length (record_lines kind (values_in kind ws)) ≡ n + 1
  one-length n e h q = ap (λ (vs : List (List ℕ)). length (record_lines kind vs)) (one-values e h) ∙ length-lines kind g [] ∙ omega (arith, ap length (lines_none kind))

-- ---- the two ways to write, as one
module _ (kind : FileKind) (ws : List ℕ) where
  pub closed-held : has_closing kind ≡ true → held kind (values_in kind ws) ≡ held_all kind (values_in kind ws)
  unfolding held
  closed-held e = rw e

  pub closed-text : has_closing kind ≡ true → file_of kind ws ≡ closed_text kind (values_in kind ws)
  unfolding file_of file_text lines_of closed_text record_lines ended
  closed-text e =
      rw e
      (let ts : List (List ℕ) = map (text_of kind) (values_in kind ws) in
      ended-append 13 ts (closing_text (length ts + 1) ∷ [])
      ∙ ap (λ (n : ℕ). ended 13 ts ++ (closing_text (n + 1) ++ (13 ∷ []))) (length-map (values_in kind ws) (text_of kind))
      ∙ sym (append_assoc (ended 13 ts) (closing_text (length (values_in kind ws) + 1)) (13 ∷ [])))

  pub open-held : has_closing kind ≡ false → held kind (values_in kind ws) ≡ held_one kind (values_in kind ws)
  unfolding held
  open-held e = rw e

  pub open-text : has_closing kind ≡ false → file_of kind ws ≡ record_lines kind (values_in kind ws)
  unfolding file_of file_text lines_of record_lines
  open-text e = rw e

-- the records, the closing record and its CR, laid one behind the other
pub laid-closed : {o o₁ o₂ o₃ : List ℕ} {a b e : ℕ} (kind : FileKind) (vs : List (List ℕ)) (lines : ℕ) → lines ≡ length vs + 1 → Laid o 0 (record_lines kind vs) o₁ a → Laid o₁ a (closing_text lines) o₂ b → Laid o₂ b (13 ∷ []) o₃ e → Laid o 0 (closed_text kind vs) o₃ e
unfolding closed_text
laid-closed kind vs lines q x y z = laid_then (laid_then x (rw q at y)) z
