-- Whether an earlier record of a file names a number, found among the records with its first field. Assumes nothing.
use mathlib.Core.Path.{◌≡◌, refl, sym, ap, ◌∙◌}
use mathlib.Core.Bool.{Bool, true, false, ◌&&◌}
use mathlib.Core.List.{List, ◌++◌}
use Prim.Native.Nat.{ℕ, ◌%◌, ◌≤◌, ◌<◌}
use native.Mathlib.Omega.{arith}
use borrow.Author.Tests.{eq-eqb, lt-ltb, le-ltb}
use lib.Dec.{eqb, ltb}
use lib.ListN.{length, take, drop, get_or}
use Rattle.laws.specs.Lists.{table, any}
use Rattle.laws.specs.Order.{sorted}
use Rattle.laws.proofs.Lists.{mem_below}
use Rattle.laws.proofs.Rising.{take-sorted-any}
use Rattle.laws.proofs.Tables.{length-table, get_or-table, map-table, table-cong}
use Rattle.laws.proofs.Tests.{and_right}
use Rattle.order.specs.groups.Groups.{tag, tags, group}
use Rattle.order.proofs.groups.Groups.{placed}
use Rattle.fields.specs.declared.number.Number.{Number}
use Rattle.fields.specs.Number.{same_number}
use Rattle.fields.proofs.NumberLaws.{same_number_lem}
use Rattle.model.specs.Model.{Filed, event_at, about}
use Rattle.rules.specs.Rules.{rules}
use Rattle.working.specs.indexing.Index.{front, Wanted}
use Rattle.working.proofs.indexing.Grouping.{sorted-again}
use Rattle.filing.specs.renewing.Turns.{number_from, named_to, earlier, front_from, Tagged}
use Rattle.filing.proofs.renewing.Some.{any-map, any_same, any-kept, any-upto}

-- ---- one place
module _ (f : Filed) (j : ℕ) (n : Number) (i : ℕ) where
  pub earlier-yes : i < j → (x : Number) → x ≡ number_from f i → (b : Bool) → b ≡ same_number x n → b ≡ earlier f j n i
  unfolding earlier
  earlier-yes h x e b q = q ∙ ap (λ (m : Number). same_number m n) e ∙ ap (λ (t : Bool). t && same_number (number_from f i) n) (sym (lt-ltb i j h))

  pub earlier-no : j ≤ i → false ≡ earlier f j n i
  unfolding earlier
  earlier-no h = ap (λ (t : Bool). t && same_number (number_from f i) n) (sym (le-ltb i j h))

-- ---- the file's tags
-- laid, and put in order
pub tagged : (f : Filed) (laid after : List ℕ) (w : ℕ) → w ≡ length f.records → w ≤ 10240 → take w laid ≡ table w (λ (i : ℕ). tag (front_from f i) i) → after ≡ sorted (take w laid) ++ drop w laid → Tagged f after w
tagged f laid after w c h e q = record {
  counted = c;
  few = h;
  places =
      ap (take w) q ∙ take-sorted-any w laid ∙ ap sorted e
      ∙ ap sorted (table-cong w (λ (i : ℕ). tag (front_from f i) i) (λ (i : ℕ). tag (front_from f (get_or (table w (λ (i : ℕ). i)) i 0)) i) (λ i b. ap (λ (k : ℕ). tag (front_from f k) i) (sym (get_or-table w i (λ (i : ℕ). i) 0 b))))
      ∙ ap (λ (k : ℕ). sorted (table k (λ (i : ℕ). tag (front_from f (get_or (table w (λ (i : ℕ). i)) i 0)) i))) (sym (length-table w (λ (i : ℕ). i)));
}

and-implied : (s t : Bool) → (s ≡ true → t ≡ true) → (s && t) ≡ s
and-implied true t h = h refl
and-implied false t h = refl

module _ (f : Filed) (wanted : List ℕ) (w : ℕ) (t : Tagged f wanted w) where
  abbrev all : List ℕ
  all = table w (λ (i : ℕ). i)

  pub tagged-ordered : sorted (take w wanted) ≡ take w wanted
  tagged-ordered =
      ap sorted t.places ∙ sorted-again (table (length all) (λ (i : ℕ). tag (front_from f (get_or all i 0)) i)) ∙ sym t.places

  pub tagged-wanted : Wanted wanted w
  tagged-wanted = record { few = t.few; ordered = tagged-ordered }

  module _ (j : ℕ) (h : j ≤ w) (n : Number) where
    abbrev level : ℕ → Bool
    level i = eqb (front_from f (get_or all i 0)) (front n.first.0)

    earlier-level : (i : ℕ) → i < w → earlier f j n i ≡ true → level i ≡ true
    unfolding earlier front_from
    earlier-level i b e =
        eq-eqb _ _
        (ap (λ (k : ℕ). front (number_from f k).first.0) (get_or-table w i (λ (i : ℕ). i) 0 b)
        ∙ ap (λ (m : Number). front m.first.0) (same_number_lem (number_from f i) n (and_right (ltb i j) (same_number (number_from f i) n) e)))

    to-the-file : any (earlier f j n) all ≡ named_to f j n
    unfolding earlier named_to about number_from
    to-the-file =
        any-upto (λ (i : ℕ). same_number (number_from f i) n) j w h
        ∙ sym (any-map (about rules n) (event_at f) (table j (λ (i : ℕ). i)))
        ∙ ap (any (about rules n)) (map-table (event_at f) j (λ (i : ℕ). i))

    -- the records with the number's first field are enough
    pub named-group : any (λ (g : ℕ). earlier f j n (g % 16384)) (group (front n.first.0) (take w wanted)) ≡ named_to f j n
    named-group =
        ap (λ (l : List ℕ). any (λ (g : ℕ). earlier f j n (g % 16384)) (group (front n.first.0) l)) t.places
        ∙ sym (any-map (earlier f j n) (λ (g : ℕ). g % 16384) (group (front n.first.0) (tags (front_from f) all)))
        ∙ ap (any (earlier f j n)) (placed (front_from f) all (omega (arith, length-table w (λ (i : ℕ). i), t.few)) (front n.first.0))
        ∙ any-kept (earlier f j n) level (table (length all) (λ (i : ℕ). i))
        ∙ ap (λ (k : ℕ). any (λ (i : ℕ). earlier f j n i && level i) (table k (λ (i : ℕ). i))) (length-table w (λ (i : ℕ). i))
        ∙ any_same (λ (i : ℕ). earlier f j n i && level i) (earlier f j n) all
        (λ i m. let b = mem_below w (λ (i : ℕ). i) m in and-implied (earlier f j n i) (level i) (earlier-level i (omega (arith, b.1, b.2))))
        ∙ to-the-file
