-- Groups as the code searches for them: where a group stands among tags in order, and tags laid and put in order. Assumes nothing.
use mathlib.Core.Path.{◌≡◌, sym, ap, ◌∙◌}
use mathlib.Core.Bool.{◌&&◌}
use mathlib.Core.Logic.{⊎_elim}
use mathlib.Core.List.{List, ◌++◌}
use Prim.Native.Nat.{ℕ, suc, ◌+◌, ◌-◌, ◌*◌, ◌≤◌, ◌<◌}
use native.Mathlib.Omega.{arith}
use borrow.Author.Tests.{lt-ltb, le-ltb}
use lib.Dec.{leb, ltb}
use lib.ListN.{length, take, drop, get_or}
use Rattle.laws.specs.Lists.{table}
use Rattle.laws.specs.Order.{sorted}
use Rattle.laws.proofs.Order.{in_order-ordered, in_order-of-ordered}
use Rattle.laws.proofs.ByKey.{by_number}
use Rattle.laws.proofs.Rising.{take-sorted-any}
use Rattle.laws.proofs.Tests.{le-or-lt}
use Rattle.order.specs.groups.Groups.{below, tag, tags, group}
use Rattle.order.proofs.groups.Below.{sorted-ordered, below-most, below-past, below-here, below-rise}

-- ---- where a group stands
module _ (l : List ℕ) (digits : ℕ) where
  pub group-from : (from : ℕ) → from ≡ below (digits * 16384) l → from ≡ below (tag digits 0) l
  group-from from e = let at : digits * 16384 ≡ tag digits 0 = omega arith in e ∙ ap (λ (k : ℕ). below k l) at

  pub group-to : (to : ℕ) → to ≡ below ((digits + 1) * 16384) l → to ≡ below (tag (suc digits) 0) l
  group-to to e = let at : (digits + 1) * 16384 ≡ tag (suc digits) 0 = omega arith in e ∙ ap (λ (k : ℕ). below k l) at

  -- there is one exactly if the first that is not below it does not come behind it
  pub group-some : sorted l ≡ l → (from : ℕ) → from ≡ below (digits * 16384) l → (ltb from (length l) && ltb (get_or l from 0) ((digits + 1) * 16384)) ≡ ltb (below (tag digits 0) l) (below (tag (suc digits) 0) l)
  group-some o from e = ap (λ (k : ℕ). ltb from (length l) && ltb (get_or l from 0) k) end ∙ ⊎_elim none (λ (h : from < length l). ⊎_elim (behind h) (here h) (le-or-lt (tag (suc digits) 0) (get_or l from 0))) (le-or-lt (length l) from)
    where
      end : (digits + 1) * 16384 ≡ tag (suc digits) 0
      end = omega arith

      at : from ≡ below (tag digits 0) l
      at = group-from from e

      none : length l ≤ from → (ltb from (length l) && ltb (get_or l from 0) (tag (suc digits) 0)) ≡ ltb (below (tag digits 0) l) (below (tag (suc digits) 0) l)
      none h = rw (le-ltb from (length l) h) (sym (le-ltb (below (tag digits 0) l) (below (tag (suc digits) 0) l) (omega (arith, at, below-most (tag (suc digits) 0) l))))

      behind : from < length l → tag (suc digits) 0 ≤ get_or l from 0 → (ltb from (length l) && ltb (get_or l from 0) (tag (suc digits) 0)) ≡ ltb (below (tag digits 0) l) (below (tag (suc digits) 0) l)
      behind h b =
          rw (lt-ltb from (length l) h, le-ltb (get_or l from 0) (tag (suc digits) 0) b)
          (sym (le-ltb (below (tag digits 0) l) (below (tag (suc digits) 0) l) (omega (arith, at, below-here (tag (suc digits) 0) l (sorted-ordered l o) from h b))))

      here : from < length l → get_or l from 0 < tag (suc digits) 0 → (ltb from (length l) && ltb (get_or l from 0) (tag (suc digits) 0)) ≡ ltb (below (tag digits 0) l) (below (tag (suc digits) 0) l)
      here h b =
          rw (lt-ltb from (length l) h, lt-ltb (get_or l from 0) (tag (suc digits) 0) b)
          (sym (lt-ltb (below (tag digits 0) l) (below (tag (suc digits) 0) l) (omega (arith, at, below-past (tag (suc digits) 0) l (sorted-ordered l o) from h b))))

  module _ (o : sorted l ≡ l) (from to : ℕ) (e : from ≡ below (digits * 16384) l) (f : to ≡ below ((digits + 1) * 16384) l) where
    pub group-within : (from ≤ to) × (to ≤ length l)
    group-within =
        let rise = rw o at (below-rise (tag digits 0) (tag (suc digits) 0) (omega arith) l) in
        (omega (arith, group-from from e, group-to to f), omega (arith, group-to to f, below-most (tag (suc digits) 0) l))

    pub group_at : take (to - from) (drop from l) ≡ group digits l
    group_at = λ i. take (group-to to f i - group-from from e i) (drop (group-from from e i) l)

-- ---- what is put in order
pub sorted-again : (l : List ℕ) → sorted (sorted l) ≡ sorted l
sorted-again l = in_order-of-ordered leb (sorted l) (in_order-ordered leb by_number l)

-- tags of each of the keys, put in order, are the tags of these keys
pub tags-laid : (φ : ℕ → ℕ) (keys laid after : List ℕ) (c : ℕ) → length keys ≡ c → take (length keys) laid ≡ table (length keys) (λ (i : ℕ). tag (φ (get_or keys i 0)) i) → after ≡ sorted (take c laid) ++ drop c laid → take c after ≡ tags φ keys
tags-laid φ keys laid after c n e q =
    ap (take c) q ∙ take-sorted-any c laid ∙ ap sorted (ap (λ (k : ℕ). take k laid) (sym n) ∙ e)
