-- Folds over lists. Assumes nothing.
--     fold-none, fold_more, fold_done    a loop that folds a list from the front: its state is the fold over the elements that it has passed
--     fold-keep                          elements that the step does not look at are left out
--     fold-agree                         two steps that agree on the elements
--     fold-map                           a fold over what a function makes of the elements
use mathlib.Core.Path.{◌≡◌, refl, ap, ◌∙◌}
use mathlib.Core.Bool.{Bool, true, false, cond}
use mathlib.Core.List.{List, [], ◌∷◌, map, foldl, foldl-append, Memᴰ}
use Prim.Native.Nat.{ℕ, ◌+◌, ◌≤◌, ◌<◌}
use native.Mathlib.Numerals.{add-one}
use lib.ListN.{length, take, get_or}
use lib.Seq.{take-suc, take_all}
use Rattle.laws.specs.Lists.{keep}

module _ {A B : Type 0} (f : B → A → B) (b : B) (d : A) where
  pub fold-none : (l : List A) → b ≡ foldl f b (take 0 l)
  fold-none l = refl

  pub fold_more : (l : List A) (i : ℕ) → i < length l → foldl f b (take (i + 1) l) ≡ f (foldl f b (take i l)) (get_or l i d)
  fold_more l i h = rw (add-one, take-suc l i d) (foldl-append f b (take i l) (get_or l i d ∷ []))

  pub fold_done : (l : List A) (i : ℕ) → length l ≤ i → foldl f b (take i l) ≡ foldl f b l
  fold_done l i h = ap (foldl f b) (take_all i l h)

module _ {A B : Type 0} where
  -- a fold passes over the elements that it does not look at
  pub fold-keep : (f : B → A → B) (p : A → Bool) (b : B) (l : List A) → foldl (λ (t : B) (x : A). cond (p x) (f t x) t) b l ≡ foldl f b (keep p l)
  unfolding keep
  fold-keep f p b [] = refl
  fold-keep f p b (x ∷ l) = go (p x) (λ t. fold-keep f p t l)
    where
      go : (s : Bool) → ((t : B) → foldl (λ (t : B) (x : A). cond (p x) (f t x) t) t l ≡ foldl f t (keep p l)) → foldl (λ (t : B) (x : A). cond (p x) (f t x) t) (cond s (f b x) b) l ≡ foldl f b (cond s (x ∷ keep p l) (keep p l))
      go true ih = ih (f b x)
      go false ih = ih b

pub fold-map : {A B S : Type 0} (g : S → B → S) (f : A → B) (s : S) (l : List A) → foldl g s (map f l) ≡ foldl (λ (t : S) (x : A). g t (f x)) s l
fold-map g f s [] = refl
fold-map g f s (x ∷ l) = fold-map g f (g s (f x)) l

-- two steps that agree on the elements
pub fold-agree : {A S : Type 0} (f g : S → A → S) (l : List A) → ((x : A) → Memᴰ x l → (s : S) → f s x ≡ g s x) → (s : S) → foldl f s l ≡ foldl g s l
fold-agree f g [] h s = refl
fold-agree f g (x ∷ l) h s = ap (λ t. foldl f t l) (h x (Memᴰ.head refl) s) ∙ fold-agree f g l (λ y m. h y (Memᴰ.tail m)) (g s x)
