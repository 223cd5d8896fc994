-- Files read back and written back. Assumes nothing.
--     file-read        a file written from the texts of records has these records
--     file-written     a file that was read is the file written from its records' texts
--     file-one         so two different files never have the same records
--     words-read       a file written from words has the records of these words
--     closing-held     a closing record can always be held
use Rattle.std.specs.Prelude.{Ok}
use Prim.Native.Nat.{ℕ, suc, ◌+◌, ◌<◌}
use native.Mathlib.Nat.{zero-add}
use native.Mathlib.Omega.{arith}
use mathlib.Core.Path.{◌≡◌, refl, sym, ap, ◌∙◌}
use mathlib.Core.Bool.{Bool, true, false, cond, not, ◌&&◌}
use mathlib.Core.List.{List, [], ◌∷◌, ◌++◌, append-nil, append_assoc, map}
use lib.ListN.{length, length-map}
use lib.Seq.{take_at}
use Rattle.laws.specs.Lists.{all, first_at}
use Rattle.laws.specs.Split.{split, lacks}
use Rattle.laws.specs.Ended.{ended}
use Rattle.laws.proofs.Tests.{and_left, and_right, and-true}
use Rattle.laws.proofs.Tables.{all_append, all_weaker}
use Rattle.laws.proofs.Ended.{split-ended, ended-split}
use Rattle.records.specs.closing.Closing.{closing_text}
use Rattle.records.proofs.closing.ClosingLaws.{lacks-closing}
use Rattle.records.specs.declared.names.kind.FileKind.{FileKind}
use Rattle.records.specs.names.Kind.{has_closing}
use Rattle.records.specs.Record.{is_record, fits, text_of}
use Rattle.records.proofs.RecordTrip.{fits-record, record-lacks, record-begins}
use Rattle.files.specs.Judged.{judged, judged_one, judged_file, records_of}
use Rattle.files.specs.Writing.{Holding, values_in, unfit, held_all, held_one, held, lines_of, file_text, file_of}
use Rattle.files.proofs.LineTrip.{end_of_file, lines-read, lines-written, one-read, one_written}

-- ---- the lines of a file that was written
texts-lack : (kind : FileKind) (ts : List (List ℕ)) → all (is_record kind) ts ≡ true → all (lacks 13) ts ≡ true
texts-lack kind ts e = all_weaker (is_record kind) (lacks 13) (record-lacks kind) ts e

one-all : (p : List ℕ → Bool) (l : List ℕ) → p l ≡ true → all p (l ∷ []) ≡ true
unfolding all
one-all p l e = rw e

lines-lack : (kind : FileKind) (ts : List (List ℕ)) → all (is_record kind) ts ≡ true → all (lacks 13) (lines_of kind ts) ≡ true
unfolding lines_of
lines-lack kind ts e = go (has_closing kind)
  where
    go : (t : Bool) → all (lacks 13) (cond t (ts ++ (closing_text (length ts + 1) ∷ [])) ts) ≡ true
    go true =
        all_append (lacks 13) ts (closing_text (length ts + 1) ∷ [])
        ∙ and-true (all (lacks 13) ts) _ (texts-lack kind ts e) (one-all (lacks 13) (closing_text (length ts + 1)) (lacks-closing (length ts + 1)))
    go false = texts-lack kind ts e

file-lines : (kind : FileKind) (ts : List (List ℕ)) → all (is_record kind) ts ≡ true → split 13 (file_text kind ts) ≡ lines_of kind ts ++ ([] ∷ [])
unfolding file_text split
file-lines kind ts e = ap (split 13) (sym (append-nil (ended 13 (lines_of kind ts)))) ∙ split-ended 13 (lines_of kind ts) [] (lines-lack kind ts e)

closed-lines : (kind : FileKind) (ts : List (List ℕ)) → has_closing kind ≡ true → lines_of kind ts ++ ([] ∷ []) ≡ ts ++ end_of_file (length ts + 1)
unfolding lines_of
closed-lines kind ts c = rw c (append_assoc ts (closing_text (length ts + 1) ∷ []) ([] ∷ []))

open-lines : (kind : FileKind) (ts : List (List ℕ)) → has_closing kind ≡ false → lines_of kind ts ++ ([] ∷ []) ≡ ts ++ ([] ∷ [])
unfolding lines_of
open-lines kind ts c = rw c

-- ---- reading what was written
-- what a file has, said by its kind
pub record Has (kind : FileKind) (file : List ℕ) (ts : List (List ℕ)) : Type 0 where
  pub count : judged_file kind file ≡ Ok (length ts)
  pub texts : records_of kind file ≡ ts

has : (kind : FileKind) (file : List ℕ) (ts rest : List (List ℕ)) → judged_file kind file ≡ Ok (length ts) → split 13 file ≡ ts ++ rest → Has kind file ts
unfolding records_of
has kind file ts rest c l = record { count = c; texts = rw (c, l) (take_at ts rest (length ts) refl) }

one-text : (kind : FileKind) (ts : List (List ℕ)) → length ts ≡ 1 → all (is_record kind) ts ≡ true → judged_one kind (ts ++ ([] ∷ [])) ≡ Ok (length ts)
unfolding all
one-text kind [] h e = absurd (omega arith)
one-text kind (t ∷ []) h e = one-read kind t (and_left (is_record kind t) true e)
one-text kind (t ∷ u ∷ ts) h e = absurd (omega arith)

closed-judged : (kind : FileKind) (file : List ℕ) → has_closing kind ≡ true → judged_file kind file ≡ judged kind 0 (split 13 file)
unfolding judged_file
closed-judged kind file c = rw c

open-judged : (kind : FileKind) (file : List ℕ) → has_closing kind ≡ false → judged_file kind file ≡ judged_one kind (split 13 file)
unfolding judged_file
open-judged kind file c = rw c

start : (kind : FileKind) (ts : List (List ℕ)) → all (is_record kind) ts ≡ true → judged kind 0 (ts ++ end_of_file (length ts + 1)) ≡ Ok (length ts)
start kind ts e = rw (zero-add (length ts)) at (lines-read kind (record-begins kind) ts 0 e)

pub file-read : (kind : FileKind) (ts : List (List ℕ)) → all (is_record kind) ts ≡ true → (has_closing kind ≡ false → length ts ≡ 1) → Has kind (file_text kind ts) ts
file-read kind ts e single = go (has_closing kind) refl
  where
    go : (t : Bool) → has_closing kind ≡ t → Has kind (file_text kind ts) ts
    go true c =
        let l = file-lines kind ts e ∙ closed-lines kind ts c in
        has kind (file_text kind ts) ts (end_of_file (length ts + 1)) (closed-judged kind (file_text kind ts) c ∙ ap (judged kind 0) l ∙ start kind ts e) l
    go false c =
        let l = file-lines kind ts e ∙ open-lines kind ts c in
        has kind (file_text kind ts) ts ([] ∷ []) (open-judged kind (file_text kind ts) c ∙ ap (judged_one kind) l ∙ one-text kind ts (single c) e) l

-- ---- writing what was read
-- the file is the one written from these texts, and each is a record
pub record Is (kind : FileKind) (file : List ℕ) (ts : List (List ℕ)) : Type 0 where
  pub whole : file ≡ file_text kind ts
  pub records : all (is_record kind) ts ≡ true

closed-file : (kind : FileKind) (file : List ℕ) (ts : List (List ℕ)) → has_closing kind ≡ true → split 13 file ≡ ts ++ end_of_file (length ts + 1) → file ≡ file_text kind ts
unfolding file_text lines_of
closed-file kind file ts c l = rw c (ended-split 13 file (ts ++ (closing_text (length ts + 1) ∷ [])) (l ∙ sym (append_assoc ts (closing_text (length ts + 1) ∷ []) ([] ∷ []))))

open-file : (kind : FileKind) (file : List ℕ) (ts : List (List ℕ)) → has_closing kind ≡ false → split 13 file ≡ ts ++ ([] ∷ []) → file ≡ file_text kind ts
unfolding file_text lines_of
open-file kind file ts c l = rw c (ended-split 13 file ts l)

-- the texts that a count takes from the lines
counted : (kind : FileKind) (file : List ℕ) (n : ℕ) (ts rest : List (List ℕ)) → judged_file kind file ≡ Ok n → n ≡ length ts → split 13 file ≡ ts ++ rest → records_of kind file ≡ ts
unfolding records_of
counted kind file n ts rest e q l = rw (e, l) (take_at ts rest n (sym q))

pub file-written : (kind : FileKind) (file : List ℕ) (n : ℕ) → judged_file kind file ≡ Ok n → (Is kind file (records_of kind file)) × (length (records_of kind file) ≡ n)
file-written kind file n e = go (has_closing kind) refl
  where
    go : (t : Bool) → has_closing kind ≡ t → (Is kind file (records_of kind file)) × (length (records_of kind file) ≡ n)
    go true c =
        let w = lines-written kind (split 13 file) 0 n (sym (closed-judged kind file c) ∙ e) in
        let q : n ≡ length w.texts = w.count ∙ zero-add (length w.texts) in
        let t = counted kind file n w.texts (end_of_file (n + 1)) e q w.lines in
        rw t (record { whole = closed-file kind file w.texts c (w.lines ∙ ap (λ (k : ℕ). w.texts ++ end_of_file (k + 1)) q); records = w.records }, sym q)
    go false c =
        let w = one_written kind (split 13 file) n (sym (open-judged kind file c) ∙ e) in
        let t = counted kind file n (w.text ∷ []) ([] ∷ []) e w.count w.lines in
        rw t (record { whole = open-file kind file (w.text ∷ []) c w.lines; records = one-all (is_record kind) w.text w.good }, sym w.count)

pub file-one : (kind : FileKind) (a b : List ℕ) (m n : ℕ) → judged_file kind a ≡ Ok m → judged_file kind b ≡ Ok n → records_of kind a ≡ records_of kind b → a ≡ b
file-one kind a b m n p q e = (file-written kind a m p).0.whole ∙ ap (file_text kind) e ∙ sym (file-written kind b n q).0.whole

-- ---- files written from words
texts-records : (kind : FileKind) (vs : List (List ℕ)) → all (fits kind) vs ≡ true → all (is_record kind) (map (text_of kind) vs) ≡ true
unfolding all
texts-records kind [] e = refl
texts-records kind (v ∷ vs) e =
    and-true _ _ (fits-record kind v (and_left (fits kind v) (all (fits kind) vs) e)) (texts-records kind vs (and_right (fits kind v) (all (fits kind) vs) e))

-- records that can be held: each fits, and of a kind without a closing record there is one
record Held (kind : FileKind) (vs : List (List ℕ)) (n : ℕ) : Type 0 where
  pub fit : all (fits kind) vs ≡ true
  pub count : n ≡ length vs
  pub single : has_closing kind ≡ false → length vs ≡ 1

never : {n : ℕ} {A : Type 0} (i : ℕ) → Holding.Fault i ≡ Holding.Records n → A
never i e = absurd (let z : ◌≡◌ {A = ℕ} 0 1 = cc in omega arith)

all-parts : (kind : FileKind) (vs : List (List ℕ)) (n : ℕ) → has_closing kind ≡ true → held_all kind vs ≡ Holding.Records n → Held kind vs n
unfolding held_all
all-parts kind vs n c e = go (all (fits kind) vs) refl e
  where
    go : (t : Bool) → all (fits kind) vs ≡ t → cond t (Holding.Records (length vs)) (Holding.Fault (first_at (unfit kind) vs)) ≡ Holding.Records n → Held kind vs n
    go true p e = let q : length vs ≡ n = cc in record { fit = p; count = sym q; single = λ o. absurd (let z : ◌≡◌ {A = ℕ} 0 1 = cc in omega arith) }
    go false p e = never (first_at (unfit kind) vs) e

one-parts : (kind : FileKind) (vs : List (List ℕ)) (n : ℕ) → held_one kind vs ≡ Holding.Records n → Held kind vs n
unfolding held_one
one-parts kind [] n e = never 0 e
one-parts kind (v ∷ []) n e = go (fits kind v) refl e
  where
    go : (t : Bool) → fits kind v ≡ t → cond t (Holding.Records 1) (Holding.Fault 0) ≡ Holding.Records n → Held kind (v ∷ []) n
    go true p e = let q : 1 ≡ n = cc in record { fit = one-all (fits kind) v p; count = sym q; single = λ o. refl }
    go false p e = never 0 e
one-parts kind (v ∷ w ∷ vs) n e = go (fits kind v) e
  where
    go : (t : Bool) → cond t (Holding.Fault 1) (Holding.Fault 0) ≡ Holding.Records n → Held kind (v ∷ w ∷ vs) n
    go true e = never 1 e
    go false e = never 0 e

held-parts : (kind : FileKind) (vs : List (List ℕ)) (n : ℕ) → held kind vs ≡ Holding.Records n → Held kind vs n
unfolding held
held-parts kind vs n e = go (has_closing kind) refl e
  where
    go : (t : Bool) → has_closing kind ≡ t → cond t (held_all kind vs) (held_one kind vs) ≡ Holding.Records n → Held kind vs n
    go true c e = all-parts kind vs n c e
    go false c e = one-parts kind vs n e

pub words-read : (kind : FileKind) (words : List ℕ) (n : ℕ) → held kind (values_in kind words) ≡ Holding.Records n → (Has kind (file_of kind words) (map (text_of kind) (values_in kind words))) × (length (values_in kind words) ≡ n)
unfolding file_of
words-read kind words n e =
    let vs : List (List ℕ) = values_in kind words in
    let h = held-parts kind vs n e in
    (file-read kind (map (text_of kind) vs) (texts-records kind vs h.fit) (λ c. length-map vs (text_of kind) ∙ h.single c), sym h.count)

-- and each of its values fits
pub words-fit : (kind : FileKind) (words : List ℕ) (n : ℕ) → held kind (values_in kind words) ≡ Holding.Records n → all (fits kind) (values_in kind words) ≡ true
words-fit kind words n e = (held-parts kind (values_in kind words) n e).fit

-- ---- the closing record can always be held: a place that can't be held is that of a record
unfit-inside : (kind : FileKind) (vs : List (List ℕ)) → all (fits kind) vs ≡ false → first_at (unfit kind) vs < length vs
unfolding all unfit
unfit-inside kind [] e = absurd (let z : ◌≡◌ {A = ℕ} 0 1 = cc in omega arith)
unfit-inside kind (v ∷ vs) e = go (fits kind v) e (unfit-inside kind vs)
  where
    go : (t : Bool) → (t && all (fits kind) vs) ≡ false → (all (fits kind) vs ≡ false → first_at (unfit kind) vs < length vs) → cond (not t) 0 (suc (first_at (unfit kind) vs)) < suc (length vs)
    go true e ih = omega (arith, ih e)
    go false e ih = omega arith

pub closing-held : (kind : FileKind) (vs : List (List ℕ)) (i : ℕ) → has_closing kind ≡ true → held kind vs ≡ Holding.Fault i → i < length vs
unfolding held held_all
closing-held kind vs i c e = go (all (fits kind) vs) refl (sym (ap (λ (t : Bool). cond t (held_all kind vs) (held_one kind vs)) c) ∙ e)
  where
    go : (t : Bool) → all (fits kind) vs ≡ t → cond t (Holding.Records (length vs)) (Holding.Fault (first_at (unfit kind) vs)) ≡ Holding.Fault i → i < length vs
    go true p e = absurd (let z : ◌≡◌ {A = ℕ} 0 1 = cc in omega arith)
    go false p e =
        let q : first_at (unfit kind) vs ≡ i = cc in
        omega (arith, unfit-inside kind vs p)
