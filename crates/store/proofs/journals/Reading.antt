-- A file's slot reads as the file, and what the code reads is that file. Assumes nothing.
use mathlib.Core.Path.{◌≡◌, refl, sym, ap, ◌∙◌}
use mathlib.Core.List.{List, [], ◌∷◌, ◌++◌}
use Prim.Native.Nat.{ℕ, ◌+◌, ◌*◌, ◌≤◌, ◌<◌}
use native.Mathlib.Nat.{add-zero}
use native.Mathlib.Omega.{arith}
use lib.Dec.{lit≤}
use lib.ListN.{length, get_or}
use Rattle.laws.specs.Overlay.{overlay, part}
use Rattle.laws.specs.Slots.{slot_at}
use Rattle.laws.specs.Words.{low_first, word_at}
use Rattle.laws.proofs.Slots.{slot_same, slot-other, slot-head}
use Rattle.laws.proofs.Words.{word_first, word-behind, word_next, word-part}
use Rattle.store.proofs.slots.Widths.{word-one}
use Rattle.store.specs.journals.Files.{file_slot, file_of, file_at}
use Rattle.store.specs.declared.journals.files.File.{File}

-- the values that a slot has room for
pub record Roomy (f : File) : Type 0 where
  pub publisher-fits : f.publisher < 65536
  pub day-fits : f.day < 65536
  pub count_fits : f.count < 16777216

pub slot-length : (f : File) → length (file_slot f) ≡ 8
unfolding file_slot low_first
slot-length f = refl

pub file-back : (f : File) → Roomy f → file_of (file_slot f) ≡ f
unfolding file_of file_slot low_first
file-back f r =
    let counted : List ℕ = low_first 3 f.count ++ [] in
    let dated : List ℕ = low_first 2 f.day ++ counted in
    let named : List ℕ = low_first 2 f.publisher ++ dated in
    let k = word-one (f.kind ∷ named) 0 (lit≤ tt) in
    let p = word-behind 2 1 0 (f.kind ∷ []) named refl ∙ word_first 2 f.publisher dated r.publisher-fits in
    let d = word-behind 2 1 2 (f.kind ∷ []) named refl ∙ word_next 2 2 f.publisher 0 dated ∙ word_first 2 f.day counted r.day-fits in
    let n = word-behind 3 1 4 (f.kind ∷ []) named refl
    ∙ word_next 3 2 f.publisher 2 dated
    ∙ word_next 3 2 f.day 0 counted
    ∙ word_first 3 f.count [] r.count_fits in
    λ i. record { kind = k i; publisher = p i; day = d i; count = n i }

-- reading after writing: the file that was written, every other as before
pub file-same : (files : List ℕ) (k : ℕ) (f : File) → Roomy f → 2 + k * 8 + 8 ≤ length files → file_at (overlay files (2 + k * 8) (file_slot f)) k ≡ f
unfolding file_at
file-same files k f r fits = ap file_of (slot_same 2 8 files k (file_slot f) fits (slot-length f)) ∙ file-back f r

pub file-other : (files : List ℕ) (j k : ℕ) (f : File) → (j ≡ k → ⊥) → file_at (overlay files (2 + k * 8) (file_slot f)) j ≡ file_at files j
unfolding file_at
file-other files j k f ne = ap file_of (slot-other 2 8 files j k (file_slot f) ne (slot-length f))

-- the count is no file's
pub file-counted : (files : List ℕ) (k n : ℕ) → file_at (overlay files 0 (low_first 2 n)) k ≡ file_at files k
unfolding file_at low_first
file-counted files k n = ap file_of (slot-head 2 8 files k 0 (low_first 2 n) (lit≤ tt))

-- ---- what the code reads
pub file_read : (files : List ℕ) (k a b c d : ℕ) → 2 + k * 8 + 8 ≤ length files → a ≡ get_or files (2 + k * 8) 0 → b ≡ word_at 2 files (2 + k * 8 + 1)
    → c ≡ word_at 2 files (2 + k * 8 + 3) → d ≡ word_at 3 files (2 + k * 8 + 5)
    → ◌≡◌ {A = File} (record { kind = a; publisher = b; day = c; count = d }) (file_at files k)
unfolding file_at file_of slot_at
file_read files k a b c d fits ea eb ec ed =
    let at : ℕ = 2 + k * 8 in
    let e0 : a ≡ word_at 1 (part files at 8) 0 =
    ea ∙ sym (word-part 1 files at 8 0 (lit≤ tt) ∙ ap (word_at 1 files) (add-zero at) ∙ word-one files at (omega arith)) in
    let e1 : b ≡ word_at 2 (part files at 8) 1 = eb ∙ sym (word-part 2 files at 8 1 (lit≤ tt)) in
    let e3 : c ≡ word_at 2 (part files at 8) 3 = ec ∙ sym (word-part 2 files at 8 3 (lit≤ tt)) in
    let e5 : d ≡ word_at 3 (part files at 8) 5 = ed ∙ sym (word-part 3 files at 8 5 (lit≤ tt)) in
    λ i. record { kind = e0 i; publisher = e1 i; day = e3 i; count = e5 i }
