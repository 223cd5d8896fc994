-- Code that sorts numbers instead of records: the sorted numbers stand for the history. What is assumed of the rules stands in each law.
--     history-of-keys, entry-of-keys, verdict-of-keys
use mathlib.Core.Path.{◌≡◌, sym, ap, ◌∙◌}
use mathlib.Core.Bool.{not}
use mathlib.Core.List.{List, map, foldl, Perm, Memᴰ}
use Prim.Native.Nat.{ℕ}
use lib.Dec.{leb}
use Rattle.laws.specs.Lists.{keep}
use Rattle.laws.specs.Order.{sorted}
use Rattle.laws.proofs.Lists.{keep-map}
use Rattle.laws.proofs.Folds.{fold-map}
use Rattle.laws.proofs.Order.{mem-in_order}
use Rattle.laws.proofs.Keys.{sorted-stand-for}
use Rattle.model.specs.Rules.{Line, Event, Rules, Lawful}
use Rattle.model.specs.Model.{Filed, journal, about, not_later, history, worked, entry_over, before, verdict_over}
use Rattle.model.proofs.Files.{Once, history-perm}

-- numbers ks, each of which stands for a record that names the number, found in any order
module _ (R : Rules) (L : Lawful R) (files : List Filed) (once : Once files) (f : ℕ → Event) (ks : List ℕ) (order : (x y : ℕ) → Memᴰ x ks → Memᴰ y ks → leb x y ≡ not_later R (f x) (f y)) where
  pub history-of-keys : (n : R.Number) → Perm (keep (about R n) (journal files)) (map f ks) → map f (sorted ks) ≡ history R files n
  history-of-keys n p = sorted-stand-for (not_later R) f ks order ∙ sym (history-perm R L files once n p)

  pub entry-of-keys : (line : Line R) → Perm (keep (about R line.number) (journal files)) (map f ks) → foldl (λ (entry : R.Entry) (k : ℕ). R.step line entry (f k)) (R.first line) (sorted ks) ≡ entry_over R files line
  unfolding entry_over
  entry-of-keys line p = sym (fold-map (R.step line) f (R.first line) (sorted ks)) ∙ ap (worked R line) (history-of-keys line.number p)

  -- the verdict on the record that k stands for, once the numbers below k are worked out
  pub verdict-of-keys : (line : Line R) → Perm (keep (about R line.number) (journal files)) (map f ks) → (k : ℕ) → Memᴰ k ks → R.verdict line (foldl (λ (entry : R.Entry) (j : ℕ). R.step line entry (f j)) (R.first line) (keep (λ (j : ℕ). not (leb k j)) (sorted ks))) (f k) ≡ verdict_over R files line (f k)
  unfolding verdict_over before
  verdict-of-keys line p k m =
      ap (λ (entry : R.Entry). R.verdict line entry (f k))
      (sym (fold-map (R.step line) f (R.first line) (keep (λ (j : ℕ). not (leb k j)) (sorted ks)))
      ∙ ap (worked R line)
      (keep-map f (λ (d : Event). not (not_later R (f k) d)) (λ (j : ℕ). not (leb k j)) (sorted ks)
      (λ j i. ap not (order k j m (mem-in_order leb ks i)))
      ∙ ap (before R (f k)) (history-of-keys line.number p)))
