-- Lines that are spelt as corrections are: four bytes for the code, "U:", six fields, ",K:", six fields, each of the bytes of fields. Assumes nothing.
--     line-joined, comma-pieces     such a line as fields with commas between them, and cut at its commas
--     line_read, line-fault         what it is read as, and in which code, mark and first number a fault is looked for
use Rattle.layout.specs.declared.part.Part.{Part}
use Rattle.std.specs.Prelude.{Option}
use Prim.Native.Nat.{ℕ, ◌+◌, ◌-◌}
use native.Mathlib.Omega.{arith}
use mathlib.Core.Path.{◌≡◌, refl, sym, ap, ◌∙◌}
use mathlib.Core.Bool.{Bool, true, false, cond, ◌&&◌}
use mathlib.Core.List.{List, [], ◌∷◌, ◌++◌, append_assoc}
use lib.Dec.{eqb, ltb}
use lib.ListN.{length, get_or, take, drop, length-append}
use lib.Seq.{take_at, drop_at, get_or_at, get_or-append-add}
use Rattle.laws.specs.Lists.{all, first_at}
use Rattle.laws.specs.Digits.{is_digit}
use Rattle.laws.specs.Split.{split, joined, is_not, lacks, is_sep, end_of}
use Rattle.laws.proofs.Tests.{and_left, and_right, and-true}
use Rattle.laws.proofs.Tables.{all_append, all_weaker}
use Rattle.laws.proofs.Split.{split-joined, lacks-by, all-joined, first_past}
use Rattle.fields.specs.Bytes.{field_byte}
use Rattle.fields.specs.CorrectionCode.{correction_code_of}
use Rattle.layout.specs.Part.{six_of, part_of}
use Rattle.layout.specs.Correction.{on_head, on_part, head_of, reported_of, sound_of, three_of, correction_of}
use Rattle.layout.proofs.CorrectionLaws.{head-code, reported-part}
use Rattle.faults.specs.Record.{correction_from, correction_fault}
use Rattle.faults.specs.Cut.{colon_in, code_width, code_in, mark_in, number_in}

-- ---- six fields
pub record Six : Type 0 where
  pub first : List ℕ
  pub last : List ℕ
  pub date : List ℕ
  pub gaining : List ℕ
  pub losing : List ℕ
  pub status : List ℕ

abbrev pub others : Six → List (List ℕ)
others x = x.last ∷ x.date ∷ x.gaining ∷ x.losing ∷ x.status ∷ []

abbrev pub fields_in : Six → List (List ℕ)
fields_in x = x.first ∷ others x

abbrev pub part_in : Six → Option Part
part_in x = six_of x.first x.last x.date x.gaining x.losing x.status

-- ---- the line
abbrev pub line_of : List ℕ → Six → Six → List ℕ
line_of code u k = code ++ (85 ∷ 58 ∷ (joined 44 (fields_in u) ++ (44 ∷ 75 ∷ 58 ∷ joined 44 (fields_in k))))

abbrev pub head_field : List ℕ → List ℕ → List ℕ
head_field code first = code ++ (85 ∷ 58 ∷ first)

abbrev pub comma_pieces : List ℕ → Six → Six → List (List ℕ)
comma_pieces code u k = head_field code u.first ∷ (others u ++ ((75 ∷ 58 ∷ k.first) ∷ others k))

pub line-joined : (code : List ℕ) (u k : Six) → line_of code u k ≡ joined 44 (comma_pieces code u k)
line-joined code u k = simp append_assoc

pub record Line (s : List ℕ) : Type 0 where
  pub code : List ℕ
  pub u : Six
  pub k : Six
  pub spelt : line_of code u k ≡ s
  pub four : length code ≡ 4
  pub code-bytes : all field_byte code ≡ true
  pub u-bytes : all (all field_byte) (fields_in u) ≡ true
  pub k-bytes : all (all field_byte) (fields_in k) ≡ true

-- a byte that is none of fields
fields-lack : (sep : ℕ) → field_byte sep ≡ false → (fs : List (List ℕ)) → all (all field_byte) fs ≡ true → all (lacks sep) fs ≡ true
fields-lack sep none fs h = all_weaker (all field_byte) (lacks sep) (lacks-by field_byte sep none) fs h

comma-none : field_byte 44 ≡ false
comma-none = unfold field_byte is_digit in refl

colon-none : field_byte 58 ≡ false
colon-none = unfold field_byte is_digit in refl

-- a part, and one with ",K" behind it
part-read : (x : Six) → all (all field_byte) (fields_in x) ≡ true → part_of (joined 44 (fields_in x)) ≡ part_in x
unfolding part_of
part-read x h = rw (split-joined 44 x.first (others x) (fields-lack 44 comma-none (fields_in x) h))

reported-read : (f : List ℕ) → reported_of (f ++ (44 ∷ 75 ∷ [])) ≡ part_of f
reported-read f =
    let g : List ℕ = f ++ (44 ∷ 75 ∷ []) in
    let l : length g ≡ length f + 2 = simp length-append (omega arith) in
    let m : length g - 2 ≡ length f = omega arith in
    let comma : get_or g (length g - 2) 0 ≡ 44 = ap (λ (n : ℕ). get_or g n 0) m ∙ get_or_at f 44 (75 ∷ []) 0 (length f) refl in
    let letter : get_or g (length g - 2 + 1) 0 ≡ 75 = ap (λ (n : ℕ). get_or g (n + 1) 0) m ∙ get_or-append-add f (44 ∷ 75 ∷ []) 1 0 in
    reported-part g (omega arith) comma letter
    ∙ ap (λ (n : ℕ). part_of (take n g)) m
    ∙ ap part_of (take_at f (44 ∷ 75 ∷ []) (length f) refl)

-- ---- the code, "U:" and the first number
module _ (code first : List ℕ) (four : length code ≡ 4) (made : all field_byte code ≡ true) where
  head-length : length (code ++ (85 ∷ [])) ≡ 5
  head-length = simp length-append (omega arith)

  head-lacks : lacks 58 (code ++ (85 ∷ [])) ≡ true
  unfolding all is_not
  head-lacks = all_append (is_not 58) code (85 ∷ []) ∙ and-true _ _ (lacks-by field_byte 58 colon-none code made) refl

  head_read : head_of (code ++ (85 ∷ [])) ≡ correction_code_of code
  head_read = head-code (code ++ (85 ∷ [])) head-length (get_or_at code 85 [] 0 4 four) ∙ ap correction_code_of (take_at code (85 ∷ []) 4 four)

  -- the first colon stands behind the code and the U: whichever way `code_width` goes, it is 4
  width_four : code_width (head_field code first) ≡ 4
  unfolding code_width end_of
  width_four =
      let at : colon_in (head_field code first) ≡ 5 =
      ap (λ (f : List ℕ). 0 + first_at (is_sep 58) f) (sym (append_assoc code (85 ∷ []) (58 ∷ first)))
      ∙ omega (arith, first_past 58 (code ++ (85 ∷ [])) first head-lacks, head-length) in
      rw at (go (ltb 5 (length (head_field code first)) && eqb (get_or (head_field code first) 4 0) 85) 4)
    where
      go : (t : Bool) (n : ℕ) → cond t n n ≡ n
      go true n = refl
      go false n = refl

  code-found : code_in (head_field code first) ≡ code
  code-found = rw width_four (take_at code (85 ∷ 58 ∷ first) 4 four)

  mark-found : mark_in (head_field code first) ≡ 85 ∷ 58 ∷ []
  mark-found = rw width_four (ap (take 2) (drop_at code (85 ∷ 58 ∷ first) 4 four))

  number-found : number_in (head_field code first) ≡ first
  number-found = rw width_four (ap (drop 2) (drop_at code (85 ∷ 58 ∷ first) 4 four))

-- ---- the whole
module _ {s : List ℕ} (l : Line s) where
  -- cut at its commas
  pub comma-pieces : split 44 s ≡ comma_pieces l.code l.u l.k
  unfolding all is_not
  comma-pieces =
      let u-lacks = fields-lack 44 comma-none (fields_in l.u) l.u-bytes in
      let k-lacks = fields-lack 44 comma-none (fields_in l.k) l.k-bytes in
      ap (split 44) (sym l.spelt ∙ line-joined l.code l.u l.k)
      ∙ split-joined 44 _ _
      (and-true _ _
      (all_append (is_not 44) l.code (85 ∷ 58 ∷ l.u.first) ∙ and-true _ _ (lacks-by field_byte 44 comma-none l.code l.code-bytes) (and_left (lacks 44 l.u.first) _ u-lacks))
      (all_append (lacks 44) (others l.u) ((75 ∷ 58 ∷ l.k.first) ∷ others l.k) ∙ and-true _ _ (and_right (lacks 44 l.u.first) _ u-lacks) k-lacks))

  -- cut at its colons
  colon-pieces : split 58 s ≡ (l.code ++ (85 ∷ [])) ∷ (joined 44 (fields_in l.u) ++ (44 ∷ 75 ∷ [])) ∷ joined 44 (fields_in l.k) ∷ []
  unfolding all is_not
  colon-pieces =
      let lack : (x : Six) → all (all field_byte) (fields_in x) ≡ true → lacks 58 (joined 44 (fields_in x)) ≡ true = λ x h. all-joined (is_not 58) 44 refl (fields_in x) (fields-lack 58 colon-none (fields_in x) h) in
      ap (split 58) (sym l.spelt ∙ sym (simp append_assoc))
      ∙ split-joined 58 (l.code ++ (85 ∷ [])) ((joined 44 (fields_in l.u) ++ (44 ∷ 75 ∷ [])) ∷ joined 44 (fields_in l.k) ∷ [])
      (and-true _ _ (head-lacks l.code l.u.first l.four l.code-bytes)
      (and-true _ _ (all_append (is_not 58) (joined 44 (fields_in l.u)) (44 ∷ 75 ∷ []) ∙ and-true _ _ (lack l.u l.u-bytes) refl)
      (and-true _ _ (lack l.k l.k-bytes) refl)))

  -- what it is read as
  pub line_read : correction_of s ≡ on_head (correction_code_of l.code) (λ c. on_part (part_in l.u) (λ p. on_part (part_in l.k) (λ q. sound_of c p q)))
  unfolding correction_of three_of
  line_read =
      rw (
        colon-pieces,
        head_read l.code l.u.first l.four l.code-bytes,
        reported-read (joined 44 (fields_in l.u)),
        part-read l.u l.u-bytes,
        part-read l.k l.k-bytes,
      )

  -- where its fault is looked for
  pub line-fault : correction_fault s ≡ correction_from l.code (85 ∷ 58 ∷ []) l.u.first s
  unfolding correction_fault
  line-fault =
      ap (λ (fs : List (List ℕ)). correction_from (code_in (get_or fs 0 [])) (mark_in (get_or fs 0 [])) (number_in (get_or fs 0 [])) s) comma-pieces
      ∙ (λ i. correction_from (code-found l.code l.u.first l.four l.code-bytes i) (mark-found l.code l.u.first l.four l.code-bytes i) (number-found l.code l.u.first l.four l.code-bytes i) s)
