-- A table is what std's iterators make of a range of numbers, and its words are theirs. Assumes nothing.
use Prim.Native.Nat.{ℕ, zero, suc}
use native.Mathlib.Numerals.{add-one}
use native.Mathlib.Nat.{zero-add}
use mathlib.Core.Path.{◌≡◌, refl, sym, ap, ◌∙◌}
use mathlib.Core.Bool.{Bool, ◌||◌}
use mathlib.Core.List.{◌++◌, ◌∷◌, [], List, map}
use Rattle.std.specs.List.{list_any, list_all, range_with_len}
use Rattle.std.proofs.lemmas.List.Folds.{list_all-map}
use Rattle.std.proofs.lemmas.List.FromFn.{map-range_with_len_more}
use Rattle.laws.specs.Lists.{table, any, all}
use Rattle.laws.proofs.Chains.{any_as_std, all_as_std}

module _ {A : Type 0} (f : ℕ → A) where
  pub table_as_std : (n : ℕ) → table n f ≡ map f (range_with_len 0 n)
  unfolding table
  table_as_std zero = refl
  table_as_std (suc n) =
      ap (λ (l : List A). l ++ (f n ∷ [])) (table_as_std n)
      ∙ sym (map-range_with_len_more f 0 n n (zero-add n))
      ∙ ap (λ (k : ℕ). map f (range_with_len 0 k)) (add-one n)

  pub all_of_table : (p : A → Bool) (n : ℕ) → list_all (λ i. p (f i)) (range_with_len 0 n) ≡ all p (table n f)
  all_of_table p n = sym (list_all-map p f (range_with_len 0 n)) ∙ sym (all_as_std p (map f (range_with_len 0 n))) ∙ ap (all p) (sym (table_as_std n))

  any_map : (p : A → Bool) (ks : List ℕ) → list_any p (map f ks) ≡ list_any (λ i. p (f i)) ks
  any_map p [] = refl
  any_map p (k ∷ ks) = ap (λ (b : Bool). p (f k) || b) (any_map p ks)

  pub any_of_table : (p : A → Bool) (n : ℕ) → list_any (λ i. p (f i)) (range_with_len 0 n) ≡ any p (table n f)
  any_of_table p n = sym (any_map p (range_with_len 0 n)) ∙ sym (any_as_std p (map f (range_with_len 0 n))) ∙ ap (any p) (sym (table_as_std n))
