-- The keys of numbers: equal numbers have equal keys, so keys that rise when sorted say that no number is there twice. Assumes nothing.
use mathlib.Core.Path.{◌≡◌, sym, ap, ◌∙◌}
use mathlib.Core.Bool.{Bool, true, false}
use mathlib.Core.List.{List}
use Prim.Native.Nat.{ℕ, ◌+◌, ◌≤◌, ◌<◌}
use lib.ListN.{length, take, set, drop, get_or}
use Rattle.laws.specs.Lists.{table, any, none_twice}
use Rattle.laws.specs.Order.{sorted, rising}
use Rattle.laws.proofs.Tables.{map-table, lay-none, lay-next, drop-table, drop-none, length-table, get_or-table}
use Rattle.laws.proofs.Twice.{rising-once, once-on, once-failed, once-passed}
use Rattle.fields.specs.Number.{same_number}
use Rattle.fields.specs.declared.number.Number.{Number}
use Rattle.fields.proofs.NumberLaws.{same_number_lem}
use Rattle.store.specs.numbers.Lines.{line_at, number_at}
use Rattle.store.specs.numbers.Twice.{key_of, keys_of}
use Rattle.store.specs.declared.numbers.lines.Line.{Line}

level : (x y : Number) → same_number x y ≡ true → key_of x ≡ key_of y
level x y e = ap key_of (same_number_lem x y e)

pub numbers_once : (lines : List ℕ) (n : ℕ) → rising (sorted (keys_of n lines)) ≡ true → true ≡ none_twice same_number (table n (number_at lines))
unfolding keys_of
numbers_once lines n e =
    sym
    (rising-once same_number key_of level (table n (number_at lines))
    (ap (λ (l : List ℕ). rising (sorted l)) (map-table key_of n (number_at lines)) ∙ e))

pub number_read : (lines : List ℕ) (k : ℕ) (l : Line) → l ≡ line_at lines k → l.number ≡ number_at lines k
unfolding number_at
number_read lines k l e = ap (λ (x : Line). x.number) e

-- ---- the loop that lays the keys down
pub keys_none : (lines keys : List ℕ) → take 0 keys ≡ keys_of 0 lines
unfolding keys_of
keys_none lines keys = lay-none (λ (j : ℕ). key_of (number_at lines j)) keys

pub keys_next : (lines keys : List ℕ) (i v : ℕ) (l : Line) → i < length keys → l ≡ line_at lines i → v ≡ key_of l.number → take i keys ≡ keys_of i lines
    → take (i + 1) (set keys i v) ≡ keys_of (i + 1) lines
unfolding keys_of
keys_next lines keys i v l h e k inv = lay-next (λ (j : ℕ). key_of (number_at lines j)) keys i v h (k ∙ ap key_of (number_read lines i l e)) inv

-- ---- the loops that compare the numbers themselves
module _ (lines : List ℕ) (n : ℕ) (p : Number → Bool) (i : ℕ) (x : Number) (e : x ≡ number_at lines i) (t : Bool)
    (inv : any p (drop i (table n (number_at lines))) ≡ t) (h : i < n) where
  pub behind_on : p x ≡ false → any p (drop (i + 1) (table n (number_at lines))) ≡ t
  unfolding any
  behind_on q = rw (drop-table n i (number_at lines) h, ← e, q) at inv

  pub behind_here : p x ≡ true → true ≡ t
  unfolding any
  behind_here q = rw (drop-table n i (number_at lines) h, ← e, q) at inv

pub behind_none : (lines : List ℕ) (n : ℕ) (p : Number → Bool) (i : ℕ) (t : Bool) → any p (drop i (table n (number_at lines))) ≡ t → n ≤ i → false ≡ t
unfolding any
behind_none lines n p i t inv h = rw (drop-none n i (number_at lines) h) at inv

module _ (lines : List ℕ) (n i : ℕ) (x : Number) (e : x ≡ number_at lines i)
    (inv : none_twice same_number (drop i (table n (number_at lines))) ≡ none_twice same_number (table n (number_at lines))) (h : i < n) where
  here : any (same_number (get_or (table n (number_at lines)) i x)) (drop (i + 1) (table n (number_at lines))) ≡ any (same_number x) (drop (i + 1) (table n (number_at lines)))
  here = ap (λ (y : Number). any (same_number y) (drop (i + 1) (table n (number_at lines)))) (get_or-table n i (number_at lines) x h ∙ sym e)

  inside : i < length (table n (number_at lines))
  inside = rw (length-table n (number_at lines)) h

  pub each_on : any (same_number x) (drop (i + 1) (table n (number_at lines))) ≡ false
      → none_twice same_number (drop (i + 1) (table n (number_at lines))) ≡ none_twice same_number (table n (number_at lines))
  each_on q = once-on same_number x (table n (number_at lines)) i inside (here ∙ q) inv

  pub each_here : any (same_number x) (drop (i + 1) (table n (number_at lines))) ≡ true → false ≡ none_twice same_number (table n (number_at lines))
  each_here q = once-failed same_number x (table n (number_at lines)) i inside (here ∙ q) inv

pub each_passed : (lines : List ℕ) (n i : ℕ) (x : Number) → none_twice same_number (drop i (table n (number_at lines))) ≡ none_twice same_number (table n (number_at lines)) → n ≤ i
    → true ≡ none_twice same_number (table n (number_at lines))
each_passed lines n i x inv h = once-passed same_number x (table n (number_at lines)) i (rw (length-table n (number_at lines)) h) inv
