-- The numbers of files: two files have one number exactly if they are of one kind, publisher and day. Assumes nothing.
use mathlib.Core.Path.{◌≡◌, sym, ap, ◌∙◌}
use mathlib.Core.Bool.{true, ◌&&◌}
use mathlib.Core.List.{List}
use Prim.Native.Nat.{ℕ, ◌+◌, ◌≤◌, ◌<◌}
use native.Mathlib.Omega.{arith}
use lib.Dec.{eqb, leb}
use lib.ListN.{length, take, set}
use borrow.Author.Tests.{eqb-true, eq-eqb, leb-true}
use Rattle.laws.specs.Lists.{table, all, none_twice}
use Rattle.laws.specs.Order.{sorted, rising}
use Rattle.laws.proofs.Tables.{map-table, lay-none, lay-next}
use Rattle.laws.proofs.Tests.{and_left, and_right}
use Rattle.laws.proofs.Twice.{once-by-number}
use Rattle.store.specs.journals.Files.{file_at, good_file, same_file}
use Rattle.store.specs.journals.Twice.{key_of, keys_of}
use Rattle.store.specs.declared.journals.files.File.{File}

level : (f g : File) → same_file f g ≡ true → key_of f ≡ key_of g
unfolding same_file key_of
level f g e =
    let k : f.kind ≡ g.kind = eqb-true f.kind g.kind (and_left (eqb f.kind g.kind) (eqb f.publisher g.publisher && eqb f.day g.day) e) in
    let rest = and_right (eqb f.kind g.kind) (eqb f.publisher g.publisher && eqb f.day g.day) e in
    let p : f.publisher ≡ g.publisher = eqb-true f.publisher g.publisher (and_left (eqb f.publisher g.publisher) (eqb f.day g.day) rest) in
    let d : f.day ≡ g.day = eqb-true f.day g.day (and_right (eqb f.publisher g.publisher) (eqb f.day g.day) rest) in
    omega arith

pub good-publisher : (f : File) → good_file f ≡ true → f.publisher ≤ 999
unfolding good_file
good-publisher f e = leb-true f.publisher 999 (and_left (leb f.publisher 999) (leb f.day 18992) (and_right (leb f.kind 1) (leb f.publisher 999 && leb f.day 18992) e))

pub good-day : (f : File) → good_file f ≡ true → f.day ≤ 18992
unfolding good_file
good-day f e = leb-true f.day 18992 (and_right (leb f.publisher 999) (leb f.day 18992) (and_right (leb f.kind 1) (leb f.publisher 999 && leb f.day 18992) e))

apart : (f g : File) → good_file f ≡ true → good_file g ≡ true → key_of f ≡ key_of g → same_file f g ≡ true
unfolding same_file key_of
apart f g u v e =
    let fp = good-publisher f u in
    let fd = good-day f u in
    let gp = good-publisher g v in
    let gd = good-day g v in
    let k : f.kind ≡ g.kind = omega arith in
    let p : f.publisher ≡ g.publisher = omega arith in
    let d : f.day ≡ g.day = omega arith in
    rw (eq-eqb f.kind g.kind k, eq-eqb f.publisher g.publisher p, eq-eqb f.day g.day d)

-- the sorted numbers of the first n files rise exactly if no file is there twice
pub files_once : (files : List ℕ) (n : ℕ) → all good_file (table n (file_at files)) ≡ true → rising (sorted (keys_of n files)) ≡ none_twice same_file (table n (file_at files))
unfolding keys_of
files_once files n a =
    ap (λ (l : List ℕ). rising (sorted l)) (sym (map-table key_of n (file_at files)))
    ∙ once-by-number same_file key_of good_file apart level (table n (file_at files)) a

-- ---- the loop that lays the numbers down
pub keys_none : (files keys : List ℕ) → take 0 keys ≡ keys_of 0 files
unfolding keys_of
keys_none files keys = lay-none (λ (j : ℕ). key_of (file_at files j)) keys

pub keys_next : (files keys : List ℕ) (i v : ℕ) (f : File) → i < length keys → f ≡ file_at files i → v ≡ key_of f → take i keys ≡ keys_of i files
    → take (i + 1) (set keys i v) ≡ keys_of (i + 1) files
unfolding keys_of
keys_next files keys i v f h e k inv = lay-next (λ (j : ℕ). key_of (file_at files j)) keys i v h (k ∙ ap key_of e) inv
