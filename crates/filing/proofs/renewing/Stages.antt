-- The numbers that the first records of a file name, and the records that these numbers have, one record after the other. Assumes nothing.
use mathlib.Core.Path.{◌≡◌, refl, sym, ap, ◌∙◌}
use mathlib.Core.Bool.{Bool, true, false, not, ◌&&◌, ◌||◌, or_comm}
use mathlib.Core.List.{List, []}
use Prim.Native.Nat.{ℕ, ◌+◌, ◌<◌}
use native.Mathlib.Omega.{arith}
use lib.ListN.{length}
use Rattle.laws.specs.Lists.{table, any, keep}
use Rattle.laws.proofs.Lists.{keep-none, keep_same, length-either}
use Rattle.laws.proofs.Order.{length-in_order}
use Rattle.laws.proofs.Tables.{table_more, any-more, any_none, get_or-table, length-table}
use Rattle.laws.proofs.Tests.{eqb_comm}
use Rattle.fields.specs.declared.number.Number.{Number}
use Rattle.fields.specs.Number.{same_number}
use Rattle.fields.proofs.NumberLaws.{same_number_lem}
use Rattle.model.specs.Rules.{Event}
use Rattle.model.specs.Model.{Filed, event_at, events, number_of, about, named, not_later, journal, history, count_of}
use Rattle.store.specs.declared.journals.files.File.{File}
use Rattle.rules.specs.Records.{number_in}
use Rattle.rules.specs.Rules.{rules}
use Rattle.filing.specs.renewing.Turns.{filed_from, number_from, named_to, new_at, count_to}

same-comm : (m n : Number) → same_number m n ≡ same_number n m
unfolding same_number
same-comm m n = λ i. eqb_comm m.first.0 n.first.0 i && eqb_comm m.last.0 n.last.0 i

-- ---- what the code reads
module _ (r : ℕ → ℕ → List ℕ) (f : File) (start : ℕ) where
  pub number_read : (i : ℕ) → i < f.count → number_in f.kind (r f.kind (start + i)) ≡ number_from (filed_from r f start) i
  unfolding number_from filed_from
  number_read i h = ap (number_in f.kind) (sym (get_or-table f.count i (λ (k : ℕ). r f.kind (start + k)) [] h))

  pub all_read : length (filed_from r f start).records ≡ f.count
  unfolding filed_from
  all_read = length-table f.count (λ (k : ℕ). r f.kind (start + k))

-- ---- a search through the first records
module _ (f : Filed) (n : Number) where
  pub named_none : named_to f 0 n ≡ false
  unfolding named_to
  named_none = any_none (about rules n) (event_at f)

  -- all records
  pub named-all : (j : ℕ) → length f.records ≡ j → named_to f j n ≡ named rules f n
  unfolding named_to named events
  named-all j e = ap (λ (k : ℕ). any (about rules n) (table k (event_at f))) (sym e)

-- ---- one record more
module _ (f : Filed) (j : ℕ) where
  named_more : (n : Number) → named_to f (j + 1) n ≡ (named_to f j n || same_number (number_from f j) n)
  unfolding named_to number_from about
  named_more n = ap (any (about rules n)) (table_more j (event_at f)) ∙ any-more (about rules n) (table j (event_at f)) (event_at f j)

  -- a number is named by then if it was before, or the record is the first that names it
  pub named-stage : (n : Number) → (named_to f j n || new_at f j n) ≡ named_to f (j + 1) n
  unfolding new_at
  named-stage n = go (named_to f j (number_from f j)) (same_number (number_from f j) n) refl refl ∙ sym (named_more n)
    where
      go : (s t : Bool) → named_to f j (number_from f j) ≡ s → same_number (number_from f j) n ≡ t → (named_to f j n || (not s && t)) ≡ (named_to f j n || t)
      go true true p q =
          let e : named_to f j n ≡ true = ap (named_to f j) (sym (same_number_lem (number_from f j) n q)) ∙ p in
          rw e
      go true false p q = refl
      go false t p q = refl

  pub not_new : named_to f j (number_from f j) ≡ true → (n : Number) → new_at f j n ≡ false
  unfolding new_at
  not_new e n = rw e

  pub new-same : named_to f j (number_from f j) ≡ false → (n : Number) → same_number (number_from f j) n ≡ new_at f j n
  unfolding new_at
  new-same e n = rw e

  -- the records that are counted by then: none more, or those of the record's number
  pub count-stays : (all : List Filed) → named_to f j (number_from f j) ≡ true → count_to all f (j + 1) ≡ count_to all f j + 0
  unfolding count_to
  count-stays all e =
      ap length
      (keep_same (λ (d : Event). named_to f (j + 1) (number_of rules d)) (λ (d : Event). named_to f j (number_of rules d)) (journal all)
      (λ d m. sym (named-stage (number_of rules d)) ∙ ap (λ (b : Bool). named_to f j (number_of rules d) || b) (not_new e (number_of rules d)) ∙ or_comm (named_to f j (number_of rules d)) false))
      ∙ omega arith

  pub count-grows : (all : List Filed) → named_to f j (number_from f j) ≡ false → count_to all f (j + 1) ≡ count_to all f j + length (history rules all (number_from f j))
  unfolding count_to history about
  count-grows all e =
      let x = number_from f j in
      ap length
      (keep_same (λ (d : Event). named_to f (j + 1) (number_of rules d)) (λ (d : Event). same_number (number_of rules d) x || named_to f j (number_of rules d)) (journal all)
      (λ d m. named_more (number_of rules d) ∙ or_comm (named_to f j (number_of rules d)) (same_number x (number_of rules d))
      ∙ ap (λ (b : Bool). b || named_to f j (number_of rules d)) (same-comm x (number_of rules d))))
      ∙ length-either (λ (d : Event). same_number (number_of rules d) x) (λ (d : Event). named_to f j (number_of rules d))
      (λ d q. ap (named_to f j) (same_number_lem (number_of rules d) x q) ∙ e) (journal all)
      ∙ omega (arith, length-in_order (not_later rules) (keep (about rules x) (journal all)))

-- ---- none yet, and all
pub count_none : (all : List Filed) (f : Filed) → 0 ≡ count_to all f 0
unfolding count_to
count_none all f = sym (ap length (keep-none (λ (d : Event). named_to f 0 (number_of rules d)) (journal all) (λ d m. named_none f (number_of rules d))))

pub count-all : (all : List Filed) (f : Filed) (j : ℕ) → length f.records ≡ j → count_to all f j ≡ count_of rules all f
unfolding count_to count_of
count-all all f j e =
    ap length
    (keep_same (λ (d : Event). named_to f j (number_of rules d)) (λ (d : Event). named rules f (number_of rules d)) (journal all) (λ d m. named-all f (number_of rules d) j e))
