-- A correction: what was written is read back, what was read is written again, and how long it can be. Assumes nothing.
use Rattle.std.specs.Prelude.{Option, Some, None}
use Prim.Native.Nat.{ℕ, suc, ◌+◌, ◌-◌, ◌≤◌}
use native.Mathlib.Omega.{arith}
use mathlib.Core.Path.{◌≡◌, refl, sym, ap, ap₂, ◌∙◌}
use mathlib.Core.Bool.{Bool, true, false, cond, ◌&&◌}
use mathlib.Core.List.{List, [], ◌∷◌, ◌++◌, append_assoc}
use lib.Dec.{eqb, leb}
use lib.ListN.{length, get_or, take, drop, length-append, take-append-drop, drop_of_length-le}
use lib.Seq.{drop-cons, take_at, get_or_at, get_or-append-add}
use borrow.Author.Tests.{eqb-true, leb-true}
use Rattle.laws.specs.Lists.{all}
use Rattle.laws.specs.Split.{split, joined, between}
use Rattle.laws.proofs.Tests.{and_left, and_right, and-true}
use Rattle.laws.proofs.Digits.{length_digits}
use Rattle.laws.proofs.Split.{split-joined, joined-split}
use Rattle.fields.specs.declared.correction_code.CorrectionCode.{CorrectionCode}
use Rattle.fields.specs.CorrectionCode.{correction_code_of, correction_code_of_word, correction_code_fits, correction_code_text}
use Rattle.fields.proofs.CorrectionCodeLaws.{correction-code-trip, correction-code-back}
use Rattle.fields.proofs.WordLaws.{correction-code-word}
use Rattle.layout.specs.declared.part.Part.{Part}
use Rattle.layout.specs.declared.correction.Correction.{Correction}
use Rattle.layout.specs.Part.{part_of, part_of_words, part_fits, part_text}
use Rattle.layout.specs.Correction.{on_head, on_part, head_of, reported_of, is_sound, sound_of, three_of, correction_of, correction_fits, correction_text, correction_of_words}
use Rattle.layout.proofs.PartTrip.{part-trip, part-back, part-words, part-longest}
use Rattle.layout.proofs.RecordBytes.{lacks-head, lacks-reported, lacks-part}
use Rattle.layout.proofs.CorrectionLaws.{head-code, reported-part, three-4, length-correction}

-- ---- the last one, and the last two, of a list
last_one : (f : List ℕ) (n : ℕ) → length f ≡ n + 1 → take n f ++ (get_or f n 0 ∷ []) ≡ f
last_one f n l =
    let e : drop n f ≡ get_or f n 0 ∷ [] = drop-cons f n 0 (omega arith) ∙ ap (◌∷◌ (get_or f n 0)) (drop_of_length-le f {i = suc n} (omega arith)) in
    ap (λ (t : List ℕ). take n f ++ t) (sym e) ∙ take-append-drop n f

last-two : (f : List ℕ) (n : ℕ) → length f ≡ n + 2 → take n f ++ (get_or f n 0 ∷ get_or f (n + 1) 0 ∷ []) ≡ f
last-two f n l =
    let o : suc n ≡ n + 1 = omega arith in
    let e₁ : drop (suc n) f ≡ get_or f (n + 1) 0 ∷ [] = drop-cons f (suc n) 0 (omega arith) ∙ ap₂ ◌∷◌ (ap (λ (k : ℕ). get_or f k 0) o) (drop_of_length-le f {i = suc (suc n)} (omega arith)) in
    let e : drop n f ≡ get_or f n 0 ∷ get_or f (n + 1) 0 ∷ [] = drop-cons f n 0 (omega arith) ∙ ap (◌∷◌ (get_or f n 0)) e₁ in
    ap (λ (t : List ℕ). take n f ++ t) (sym e) ∙ take-append-drop n f

-- ---- before the first colon
abbrev head_text : CorrectionCode → List ℕ
head_text c = correction_code_text c ++ (85 ∷ [])

head-trip : (c : CorrectionCode) → correction_code_fits c ≡ true → head_of (head_text c) ≡ Some c
head-trip c h =
    let four = length_digits 4 c.0 in
    let l : length (head_text c) ≡ 5 = simp length-append (omega arith) in
    head-code (head_text c) l (get_or_at (correction_code_text c) 85 [] 0 4 four)
    ∙ ap correction_code_of (take_at (correction_code_text c) (85 ∷ []) 4 four)
    ∙ correction-code-trip c h

head-back : (f : List ℕ) (c : CorrectionCode) → head_of f ≡ Some c → (head_text c ≡ f) × (correction_code_fits c ≡ true)
unfolding head_of
head-back f c h = go (eqb (length f) 5) (eqb (get_or f 4 0) 85) refl refl h
  where
    go : (s t : Bool) → eqb (length f) 5 ≡ s → eqb (get_or f 4 0) 85 ≡ t → cond (s && t) (correction_code_of (take 4 f)) None ≡ Some c → (head_text c ≡ f) × (correction_code_fits c ≡ true)
    go true true p q e =
        let b = correction-code-back (take 4 f) c e in
        (ap₂ (λ (t : List ℕ) (x : ℕ). t ++ (x ∷ [])) b.0 (sym (eqb-true (get_or f 4 0) 85 q)) ∙ last_one f 4 (eqb-true (length f) 5 p), b.1)
    go true false p q e = absurd (let z : ◌≡◌ {A = ℕ} 0 1 = cc in omega arith)
    go false t p q e = absurd (let z : ◌≡◌ {A = ℕ} 0 1 = cc in omega arith)

-- ---- between the colons
abbrev reported_text : Part → List ℕ
reported_text p = part_text p ++ (44 ∷ 75 ∷ [])

reported-trip : (p : Part) → part_fits p ≡ true → reported_of (reported_text p) ≡ Some p
reported-trip p h =
    let f : List ℕ = reported_text p in
    let n : ℕ = length (part_text p) in
    let l : length (reported_text p) ≡ n + 2 = simp length-append (omega arith) in
    let m : length (reported_text p) - 2 ≡ n = omega arith in
    let comma : get_or (reported_text p) (length (reported_text p) - 2) 0 ≡ 44 = ap (λ (k : ℕ). get_or (reported_text p) k 0) m ∙ get_or_at (part_text p) 44 (75 ∷ []) 0 n refl in
    let letter : get_or (reported_text p) (length (reported_text p) - 2 + 1) 0 ≡ 75 = ap (λ (k : ℕ). get_or (reported_text p) (k + 1) 0) m ∙ get_or-append-add (part_text p) (44 ∷ 75 ∷ []) 1 0 in
    reported-part (reported_text p) (omega arith) comma letter
    ∙ ap (λ (k : ℕ). part_of (take k (reported_text p))) m
    ∙ ap part_of (take_at (part_text p) (44 ∷ 75 ∷ []) n refl)
    ∙ part-trip p h

reported-back : (f : List ℕ) (p : Part) → reported_of f ≡ Some p → (reported_text p ≡ f) × (part_fits p ≡ true)
unfolding reported_of
reported-back f p h = go (leb 2 (length f)) (eqb (get_or f n 0) 44) (eqb (get_or f (n + 1) 0) 75) refl refl refl h
  where
    n : ℕ
    n = length f - 2

    go : (s t u : Bool) → leb 2 (length f) ≡ s → eqb (get_or f n 0) 44 ≡ t → eqb (get_or f (n + 1) 0) 75 ≡ u → cond (s && (t && u)) (part_of (take n f)) None ≡ Some p → (reported_text p ≡ f) × (part_fits p ≡ true)
    go true true true x y z e =
        let b = part-back (take n f) p e in
        let two : length f ≡ n + 2 = omega (arith, leb-true 2 (length f) x) in
        let comma : 44 ≡ get_or f n 0 = sym (eqb-true (get_or f n 0) 44 y) in
        let letter : 75 ≡ get_or f (n + 1) 0 = sym (eqb-true (get_or f (n + 1) 0) 75 z) in
        ((λ i. b.0 i ++ (comma i ∷ letter i ∷ [])) ∙ last-two f n two, b.1)
    go true true false x y z e = absurd (let w : ◌≡◌ {A = ℕ} 0 1 = cc in omega arith)
    go true false u x y z e = absurd (let w : ◌≡◌ {A = ℕ} 0 1 = cc in omega arith)
    go false t u x y z e = absurd (let w : ◌≡◌ {A = ℕ} 0 1 = cc in omega arith)

-- ---- the whole
abbrev pieces_of : Correction → List (List ℕ)
pieces_of c = head_text c.code ∷ reported_text c.u ∷ part_text c.k ∷ []

joined-pieces : (c : Correction) → correction_text c ≡ joined 58 (pieces_of c)
unfolding correction_text
joined-pieces c = sym (simp append_assoc)

module _ (c : Correction) where
  split-correction : split 58 (correction_text c) ≡ pieces_of c
  unfolding all
  split-correction =
      ap (split 58) (joined-pieces c)
      ∙ split-joined 58 _ _ (rw (lacks-head c.code, lacks-reported c.u, lacks-part c.k))

  -- what was written is read back
  pub correction-trip : correction_fits c ≡ true → correction_of (correction_text c) ≡ Some c
  unfolding correction_of correction_fits sound_of
  correction-trip h =
      let a = and_left (correction_code_fits c.code) _ h in
      let h₁ = and_right (correction_code_fits c.code) _ h in
      let u = and_left (part_fits c.u) _ h₁ in
      let h₂ = and_right (part_fits c.u) _ h₁ in
      let k = and_left (part_fits c.k) _ h₂ in
      let s = and_right (part_fits c.k) _ h₂ in
      rw split-correction
      (three-4 _ _ _ (head-trip c.code a) (reported-trip c.u u) (part-trip c.k k) ∙ rw s)

  pub correction-longest : correction_fits c ≡ true → length (correction_text c) ≤ 97
  unfolding correction_fits
  correction-longest h =
      let h₁ = and_right (correction_code_fits c.code) _ h in
      let u = and_left (part_fits c.u) _ h₁ in
      let k = and_left (part_fits c.k) _ (and_right (part_fits c.u) _ h₁) in
      omega (arith, length-correction c, part-longest c.u u, part-longest c.k k)

-- ---- what was read is written again
never : (c : Correction) → None ≡ Some c → ⊥
never c h = let z : ◌≡◌ {A = ℕ} 0 1 = cc in omega arith

correction-same : (q c : Correction) → Some q ≡ Some c → q ≡ c
correction-same q c h = cc

module _ {c : Correction} where
  head-on : (x : Option CorrectionCode) (k : CorrectionCode → Option Correction) → on_head x k ≡ Some c → (y : CorrectionCode) × (x ≡ Some y) × (k y ≡ Some c)
  head-on (Some y) k h = (y, refl, h)
  head-on None k h = absurd (never c h)

  part-on : (x : Option Part) (k : Part → Option Correction) → on_part x k ≡ Some c → (y : Part) × (x ≡ Some y) × (k y ≡ Some c)
  part-on (Some y) k h = (y, refl, h)
  part-on None k h = absurd (never c h)

  sound-on : (t : Bool) (q : Correction) → cond t (Some q) None ≡ Some c → (t ≡ true) × (q ≡ c)
  sound-on true q h = (refl, correction-same q c h)
  sound-on false q h = absurd (never c h)

-- what is sound of parts that fit
sound-fits : (code : CorrectionCode) (u k : Part) (c : Correction) → correction_code_fits code ≡ true → part_fits u ≡ true → part_fits k ≡ true → sound_of code u k ≡ Some c → (◌≡◌ {A = Correction} (record { code = code; u = u; k = k }) c) × (correction_fits c ≡ true)
unfolding sound_of correction_fits
sound-fits code u k c a b d h =
    let x = sound-on (is_sound code u k) _ h in
    (x.1, ap correction_fits (sym x.1) ∙ and-true _ _ a (and-true _ _ b (and-true _ _ d x.0)))

three_back : (a b d : List ℕ) (c : Correction) → three_of a b d ≡ Some c → (pieces_of c ≡ a ∷ b ∷ d ∷ []) × (correction_fits c ≡ true)
unfolding three_of
three_back a b d c h =
    let x₁ = head-on (head_of a) _ h in
    let x₂ = part-on (reported_of b) _ x₁.2 in
    let x₃ = part-on (part_of d) _ x₂.2 in
    let b₁ = head-back a x₁.0 x₁.1 in
    let b₂ = reported-back b x₂.0 x₂.1 in
    let b₃ = part-back d x₃.0 x₃.1 in
    let s = sound-fits x₁.0 x₂.0 x₃.0 c b₁.1 b₂.1 b₃.1 x₃.2 in
    (ap pieces_of (sym s.0) ∙ (λ i. b₁.0 i ∷ b₂.0 i ∷ b₃.0 i ∷ []), s.1)

list_back : (fs : List (List ℕ)) (c : Correction) → length fs ≡ 3 → three_of (get_or fs 0 []) (get_or fs 1 []) (get_or fs 2 []) ≡ Some c → (pieces_of c ≡ fs) × (correction_fits c ≡ true)
list_back [] c l h = absurd (omega arith)
list_back (a ∷ []) c l h = absurd (omega arith)
list_back (a ∷ b ∷ []) c l h = absurd (omega arith)
list_back (a ∷ b ∷ d ∷ []) c l h = three_back a b d c h
list_back (a ∷ b ∷ d ∷ e ∷ fs) c l h = absurd (omega arith)

pub correction-back : (s : List ℕ) (c : Correction) → correction_of s ≡ Some c → (correction_text c ≡ s) × (correction_fits c ≡ true)
unfolding correction_of
correction-back s c h = go (eqb (length (split 58 s)) 3) refl h
  where
    fs : List (List ℕ)
    fs = split 58 s

    go : (t : Bool) → eqb (length fs) 3 ≡ t → cond t (three_of (get_or fs 0 []) (get_or fs 1 []) (get_or fs 2 [])) None ≡ Some c → (correction_text c ≡ s) × (correction_fits c ≡ true)
    go true q e =
        let b = list_back fs c (eqb-true (length fs) 3 q) e in
        (joined-pieces c ∙ ap (joined 58) b.0 ∙ joined-split 58 s, b.1)
    go false q e = absurd (never c e)

pub correction-record : (s : List ℕ) (c : Correction) → correction_of s ≡ Some c → length s ≤ 97
correction-record s c h =
    let b = correction-back s c h in
    rw b.0 at (correction-longest c b.1)

-- what is made of words fits
pub correction-words : (w : List ℕ) (c : Correction) → correction_of_words w ≡ Some c → correction_fits c ≡ true
unfolding correction_of_words
correction-words w c h = go (eqb (length w) 13) h
  where
    go : (t : Bool) → cond t (on_head (correction_code_of_word (get_or w 0 0)) (λ code. on_part (part_of_words (between w 1 7)) (λ u. on_part (part_of_words (between w 7 13)) (λ k. sound_of code u k)))) None ≡ Some c → correction_fits c ≡ true
    go true e =
        let x₁ = head-on (correction_code_of_word (get_or w 0 0)) _ e in
        let x₂ = part-on (part_of_words (between w 1 7)) _ x₁.2 in
        let x₃ = part-on (part_of_words (between w 7 13)) _ x₂.2 in
        (sound-fits x₁.0 x₂.0 x₃.0 c (correction-code-word (get_or w 0 0) x₁.0 x₁.1) (part-words (between w 1 7) x₂.0 x₂.1) (part-words (between w 7 13) x₃.0 x₃.1) x₃.2).1
    go false e = absurd (never c e)
