-- Pieces and separators, for any separator. Assumes nothing.
use Prim.Native.Nat.{ℕ, suc, ◌+◌, ◌-◌, ◌<◌, ◌≤◌}
use native.Mathlib.Numerals.{add-one}
use native.Mathlib.Omega.{arith}
use mathlib.Core.Path.{◌≡◌, refl, sym, ap, ap₂, ◌∙◌}
use mathlib.Core.Bool.{Bool, true, false, cond, not, true≢false}
use mathlib.Core.List.{List, [], ◌∷◌, ◌++◌}
use lib.ListN.{length, get_or, take, drop, length-drop, drop_of_length-le}
use lib.Seq.{drop-cons, drop-drop, length-take-le}
use lib.Dec.{eqb}
use borrow.Author.Tests.{eq-eqb, ne_eqb, eqb-true, lt-ltb, le-ltb, not-true}
use Rattle.laws.specs.Lists.{all, first_at}
use Rattle.laws.specs.Split.{before, split, joined, is_not, lacks, is_sep, between, piece_of, end_of, behind, EndsAt}
use mathlib.Core.Logic.{⊎_elim}
use Rattle.laws.proofs.Tests.{and_left, and_right, le-or-lt, cond-le, eqb_refl}
use Rattle.laws.proofs.Tables.{all_weaker, all_append}

-- ---- one element more in front
pub before-count : (t : Bool) (b : ℕ) (fs : List (List ℕ)) → 1 ≤ length fs → length (before t b fs) ≡ cond t 1 0 + length fs
unfolding before
before-count true b fs h = omega arith
before-count false b [] h = absurd (omega arith)
before-count false b (f ∷ fs) h = omega arith

-- there is a first piece
pub split-some : (sep : ℕ) (s : List ℕ) → 1 ≤ length (split sep s)
unfolding split
split-some sep [] = omega arith
split-some sep (b ∷ s) =
    omega (arith, before-count (eqb b sep) b (split sep s) (split-some sep s), split-some sep s)

-- ---- how many pieces follow the first
pub cuts-last : (sep : ℕ) (s : List ℕ) (i : ℕ) → length s ≤ i → length (split sep (drop i s)) - 1 ≡ 0
unfolding split
cuts-last sep s i h = rw (drop_of_length-le s h)

module _ (sep : ℕ) (s : List ℕ) (i : ℕ) (h : i < length s) where
  cuts-step : length (split sep (drop i s)) ≡ cond (eqb (get_or s i 0) sep) 1 0 + length (split sep (drop (i + 1) s))
  unfolding split
  cuts-step = rw (add-one, drop-cons s i 0 h) (before-count (eqb (get_or s i 0) sep) (get_or s i 0) (split sep (drop (suc i) s)) (split-some sep (drop (suc i) s)))

  -- a separator
  pub cuts-here : get_or s i 0 ≡ sep → length (split sep (drop i s)) - 1 ≡ 1 + (length (split sep (drop (i + 1) s)) - 1)
  cuts-here e = omega (arith, rw (eq-eqb (get_or s i 0) sep e) at cuts-step, split-some sep (drop (i + 1) s))

  -- no separator
  pub cuts-on : (get_or s i 0 ≡ sep → ⊥) → length (split sep (drop i s)) - 1 ≡ length (split sep (drop (i + 1) s)) - 1
  cuts-on n = omega (arith, rw (ne_eqb (get_or s i 0) sep n) at cuts-step)

-- ---- the first piece, and the others
behind-suc : (sep b : ℕ) (s : List ℕ) (k : ℕ) → behind sep (b ∷ s) (suc k) ≡ behind sep s k
behind-suc sep b s k =
    ⊎_elim
    (λ (h : length s ≤ k). rw (le-ltb k (length s) h, le-ltb (suc k) (suc (length s)) (omega arith)))
    (λ (h : k < length s). rw (lt-ltb k (length s) h, lt-ltb (suc k) (suc (length s)) (omega arith), add-one, add-one))
    (le-or-lt (length s) k)

split-first : (sep : ℕ) (s : List ℕ) → split sep s ≡ take (first_at (is_sep sep) s) s ∷ behind sep s (first_at (is_sep sep) s)
unfolding split is_sep before
split-first sep [] = refl
split-first sep (b ∷ s) = go (eqb b sep) (split-first sep s)
  where
    k : ℕ
    k = first_at (is_sep sep) s

    go : (t : Bool) → split sep s ≡ take k s ∷ behind sep s k → before t b (split sep s) ≡ take (cond t 0 (suc k)) (b ∷ s) ∷ behind sep (b ∷ s) (cond t 0 (suc k))
    go true ih = rw (lt-ltb 0 (suc (length s)) (omega arith))
    go false ih = rw (ih, behind-suc sep b s k)

first-le : (sep : ℕ) (s : List ℕ) → first_at (is_sep sep) s ≤ length s
first-le sep [] = omega arith
first-le sep (b ∷ s) = cond-le (is_sep sep b) 0 (suc (first_at (is_sep sep) s)) (suc (length s)) (omega arith) (omega (arith, first-le sep s))

-- where a piece ends, what stands behind it
module _ (sep : ℕ) (s : List ℕ) (at : ℕ) (h : at ≤ length s) where
  pub ends_at : EndsAt sep s at (end_of sep s at)
  unfolding end_of
  ends_at =
      let k : ℕ = first_at (is_sep sep) (drop at s) in
      let l : length (drop at s) ≡ length s - at = length-drop at s in
      let le : k ≤ length (drop at s) = first-le sep (drop at s) in
      let size : at + k - at ≡ k = omega arith in
      record {
        from = omega arith;
        to = omega arith;
        splits = split-first sep (drop at s) ∙ ap₂ ◌∷◌ (ap (λ (n : ℕ). take n (drop at s)) (sym size)) (rest k l le);
      }
    where
      rest : (k : ℕ) → length (drop at s) ≡ length s - at → k ≤ length (drop at s) → behind sep (drop at s) k ≡ behind sep s (at + k)
      rest k l le =
          ⊎_elim
          (λ (g : length (drop at s) ≤ k). rw (le-ltb k (length (drop at s)) g, le-ltb (at + k) (length s) (omega arith)))
          (λ (g : k < length (drop at s)). rw (lt-ltb k (length (drop at s)) g, lt-ltb (at + k) (length s) (omega arith), drop-drop (k + 1) at s) (let m : at + (k + 1) ≡ at + k + 1 = omega arith in ap (λ (n : ℕ). split sep (drop n s)) m))
          (le-or-lt (length (drop at s)) k)

module _ {sep : ℕ} {s : List ℕ} {at e : ℕ} (p : EndsAt sep s at e) where
  pub ends_more : e < length s → split sep (drop at s) ≡ between s at e ∷ split sep (drop (e + 1) s)
  ends_more h = p.splits ∙ rw (lt-ltb e (length s) h)

  pub ends_last : length s ≤ e → split sep (drop at s) ≡ between s at e ∷ []
  ends_last h = p.splits ∙ rw (le-ltb e (length s) h)

  pub length-between : length (between s at e) ≡ e - at
  length-between = length-take-le (e - at) (drop at s) (simp length-drop (omega (arith, p.to)))

-- ---- the piece at a place, found by going from piece to piece
module _ (sep : ℕ) (s : List ℕ) (at k : ℕ) (h : at ≤ length s) where
  pub piece-on : 0 < k → end_of sep s at < length s → piece_of sep (drop at s) k ≡ piece_of sep (drop (end_of sep s at + 1) s) (k - 1)
  piece-on p l =
      let e : k ≡ suc (k - 1) = omega arith in
      ap (piece_of sep (drop at s)) e ∙ ap (λ (fs : List (List ℕ)). get_or fs (suc (k - 1)) []) (ends_more (ends_at sep s at h) l)

  pub piece-none : 0 < k → length s ≤ end_of sep s at → piece_of sep (drop at s) k ≡ []
  piece-none p l =
      let e : k ≡ suc (k - 1) = omega arith in
      ap (piece_of sep (drop at s)) e ∙ ap (λ (fs : List (List ℕ)). get_or fs (suc (k - 1)) []) (ends_last (ends_at sep s at h) l)

  pub piece-here : k ≡ 0 → piece_of sep (drop at s) k ≡ between s at (end_of sep s at)
  piece-here e = ap (piece_of sep (drop at s)) e ∙ ap (λ (fs : List (List ℕ)). get_or fs 0 []) (ends_at sep s at h).splits

-- ---- joining and cutting
-- a piece without a separator is the first, whatever follows its separator
pub split-more : (sep : ℕ) (f s : List ℕ) → lacks sep f ≡ true → split sep (f ++ sep ∷ s) ≡ f ∷ split sep s
unfolding all is_not split before
split-more sep [] s p = rw (eq-eqb sep sep refl)
split-more sep (b ∷ f) s p =
    let ih = split-more sep f s (and_right (not (eqb b sep)) (lacks sep f) p) in
    let no = not-true (eqb b sep) (and_left (not (eqb b sep)) (lacks sep f) p) in
    ap₂ (λ (t : Bool) (fs : List (List ℕ)). before t b fs) no ih

-- and the only one, where nothing follows
pub split_one : (sep : ℕ) (f : List ℕ) → lacks sep f ≡ true → split sep f ≡ f ∷ []
unfolding all is_not split before
split_one sep [] p = refl
split_one sep (b ∷ f) p =
    let ih = split_one sep f (and_right (not (eqb b sep)) (lacks sep f) p) in
    let no = not-true (eqb b sep) (and_left (not (eqb b sep)) (lacks sep f) p) in
    ap₂ (λ (t : Bool) (fs : List (List ℕ)). before t b fs) no ih

-- the pieces that were joined are found again
pub split-joined : (sep : ℕ) (f : List ℕ) (fs : List (List ℕ)) → all (lacks sep) (f ∷ fs) ≡ true → split sep (joined sep (f ∷ fs)) ≡ f ∷ fs
unfolding all
split-joined sep f [] p = split_one sep f (and_left (lacks sep f) true p)
split-joined sep f (g ∷ fs) p =
    split-more sep f (joined sep (g ∷ fs)) (and_left (lacks sep f) (all (lacks sep) (g ∷ fs)) p)
    ∙ ap (◌∷◌ f) (split-joined sep g fs (and_right (lacks sep f) (all (lacks sep) (g ∷ fs)) p))

-- and the pieces of a list, joined again, are the list
pub joined-split : (sep : ℕ) (s : List ℕ) → joined sep (split sep s) ≡ s
unfolding split before
joined-split sep [] = refl
joined-split sep (b ∷ s) = go (eqb b sep) refl (split sep s) (split-some sep s) (joined-split sep s)
  where
    go : (t : Bool) → eqb b sep ≡ t → (fs : List (List ℕ)) → 1 ≤ length fs → joined sep fs ≡ s → joined sep (before t b fs) ≡ b ∷ s
    go t e [] h ih = absurd (omega arith)
    go true e (f ∷ fs) h ih = ap₂ ◌∷◌ (sym (eqb-true b sep e)) ih
    go false e (f ∷ []) h ih = ap (◌∷◌ b) ih
    go false e (f ∷ g ∷ fs) h ih = ap (◌∷◌ b) ih

-- a list of elements that all pass a test lacks a separator that fails it
pub lacks-by : (p : ℕ → Bool) (sep : ℕ) → p sep ≡ false → (f : List ℕ) → all p f ≡ true → lacks sep f ≡ true
unfolding is_not
lacks-by p sep no-sep f h =
    all_weaker p (is_not sep) (λ x e. ap not (ne_eqb x sep (λ q. true≢false (sym e ∙ ap p q ∙ no-sep)))) f h

-- what passes in the pieces and in the separator passes in the pieces joined
pub all-joined : (q : ℕ → Bool) (sep : ℕ) → q sep ≡ true → (fs : List (List ℕ)) → all (all q) fs ≡ true → all q (joined sep fs) ≡ true
unfolding all
all-joined q sep s [] h = refl
all-joined q sep s (f ∷ []) h = and_left (all q f) true h
all-joined q sep s (f ∷ g ∷ fs) h =
    all_append q f (sep ∷ joined sep (g ∷ fs))
    ∙ rw (and_left (all q f) (all (all q) (g ∷ fs)) h, s) (all-joined q sep s (g ∷ fs) (and_right (all q f) (all (all q) (g ∷ fs)) h))

-- ---- what stands behind so many separators
-- pieces with a separator between them have one
lacks-none : {A : Type 0} (sep : ℕ) (f g : List ℕ) → lacks sep (f ++ sep ∷ g) ≡ true → A
unfolding all is_not
lacks-none sep f g h =
    let e : lacks sep (sep ∷ g) ≡ true = and_right (lacks sep f) _ (sym (all_append (is_not sep) f (sep ∷ g)) ∙ h) in
    let no : eqb sep sep ≡ false = not-true (eqb sep sep) (and_left (not (eqb sep sep)) _ e) in
    absurd (let z : ◌≡◌ {A = ℕ} 0 1 = cc (eqb_refl sep) in omega arith)

module _ (sep : ℕ) (fs : List (List ℕ)) (k : ℕ) where
  -- behind k separators nothing stands where there are no more than k pieces
  pub rest-none : length fs ≤ k → joined sep (drop k fs) ≡ []
  rest-none h = ap (joined sep) (drop_of_length-le fs h)

  -- and the last piece where there is one more
  pub rest-piece : length fs ≡ k + 1 → joined sep (drop k fs) ≡ get_or fs k []
  rest-piece h = ap (joined sep) (drop-cons fs k [] (omega arith) ∙ ap (◌∷◌ (get_or fs k [])) (drop_of_length-le fs {i = suc k} (omega arith)))

  -- where no separator stands behind them, there is no more than one piece more
  pub rest-counted : lacks sep (joined sep (drop k fs)) ≡ true → length fs ≤ k + 1
  rest-counted h =
      ⊎_elim
      (λ (l : length fs ≤ k + 1). l)
      (λ (l : k + 1 < length fs).
      let two : drop k fs ≡ get_or fs k [] ∷ get_or fs (suc k) [] ∷ drop (suc (suc k)) fs = drop-cons fs k [] (omega arith) ∙ ap (◌∷◌ (get_or fs k [])) (drop-cons fs (suc k) [] (omega arith)) in
      lacks-none sep (get_or fs k []) (joined sep (get_or fs (suc k) [] ∷ drop (suc (suc k)) fs)) (sym (ap (λ (gs : List (List ℕ)). lacks sep (joined sep gs)) two) ∙ h))
      (le-or-lt (length fs) (k + 1))

-- going from separator to separator: behind one, one fewer is left; where none is left, nothing stands behind it
module _ (sep : ℕ) (s : List ℕ) (at k : ℕ) (h : at ≤ length s) where
  pub rest-on : 0 < k → end_of sep s at < length s → joined sep (drop k (split sep (drop at s))) ≡ joined sep (drop (k - 1) (split sep (drop (end_of sep s at + 1) s)))
  rest-on p l =
      let e : k ≡ suc (k - 1) = omega arith in
      ap (λ (n : ℕ). joined sep (drop n (split sep (drop at s)))) e ∙ ap (λ (fs : List (List ℕ)). joined sep (drop (suc (k - 1)) fs)) (ends_more (ends_at sep s at h) l)

  pub rest_ended : 0 < k → length s ≤ end_of sep s at → joined sep (drop k (split sep (drop at s))) ≡ []
  rest_ended p l = rest-none sep (split sep (drop at s)) k (omega (arith, ap length (ends_last (ends_at sep s at h) l)))

-- the first separator behind a list without one
pub first_past : (sep : ℕ) (f g : List ℕ) → lacks sep f ≡ true → first_at (is_sep sep) (f ++ sep ∷ g) ≡ length f
unfolding all is_not is_sep
first_past sep [] g h = rw (eqb_refl sep)
first_past sep (b ∷ f) g h =
    rw (not-true (eqb b sep) (and_left (not (eqb b sep)) (lacks sep f) h))
    (ap suc (first_past sep f g (and_right (not (eqb b sep)) (lacks sep f) h)))
