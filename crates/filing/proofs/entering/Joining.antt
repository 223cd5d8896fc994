-- What the code that enters a file leaves in the buffers. Assumes nothing.
use Rattle.std.specs.Prelude.{Ok}
use mathlib.Core.Path.{◌≡◌, refl, sym, ap, ◌∙◌}
use mathlib.Core.List.{List, []}
use Prim.Native.Nat.{ℕ, ◌+◌, ◌*◌, ◌≤◌}
use native.Mathlib.Nat.{mul-le-mul_right}
use native.Mathlib.Omega.{arith}
use Rattle.laws.specs.Lists.{table}
use Rattle.laws.specs.Overlay.{overlay}
use Rattle.laws.specs.Words.{low_first}
use Rattle.model.specs.Model.{Filed}
use Rattle.files.specs.Judged.{judged_file, records_of as texts_of}
use Rattle.store.specs.journals.Files.{file_count, file_at, files_of, file_slot, records_of}
use Rattle.store.specs.declared.journals.files.File.{File}
use Rattle.store.specs.Reads.{Buffers, lent}
use Rattle.filing.specs.declared.entering.kind.Filable.{Filable}
use Rattle.filing.specs.declared.entering.kind.Filable.TheVariants.{Default, Correction}
use Rattle.filing.specs.entering.Entering.{kind_number, file_kind, most, filed_as, file_in, files_with, journal_with, regular_with, corrections_with, entered, first_lines, Lines, Joined}
use Rattle.filing.proofs.entering.Writing.{slot_width, records-lines, records-count, judged-lines}

pub files-added : (files counted : List ℕ) (n : ℕ) (f : File) → n ≡ file_count files → counted ≡ overlay files 0 (low_first 2 (n + 1))
    → overlay counted (2 + n * 8) (file_slot f) ≡ files_with files f
unfolding files_with
files-added files counted n f e w = rw (w, e)

pub few : (kind : Filable) → most kind ≤ 8192
few Default = omega arith
few Correction = omega arith

-- where the new records come to stand
pub stored : (kind : Filable) (files : List ℕ) (n number from : ℕ) → n ≡ file_count files → number ≡ kind_number kind → from ≡ records_of number (table n (file_at files))
    → from ≡ records_of (kind_number kind) (files_of files)
unfolding files_of
stored kind files n number from c k e = rw (← c, ← k) e

-- ---- the journal of a kind
-- what writing the records asks for
narrow : (kind : Filable) → slot_width kind ≤ 256
narrow Default = omega arith
narrow Correction = omega arith

pub asked : (kind which : Filable) (text : List ℕ) (from m n : ℕ) → kind ≡ which → judged_file (file_kind kind) text ≡ Ok m → from + m ≤ most kind → most which * slot_width which ≤ n
    → Lines (slot_width which) text m × (((from + m) * slot_width which ≤ n) × (slot_width which ≤ 256))
asked kind which text from m n k e r l =
    (judged-lines which text m (rw k at e), (omega (arith, mul-le-mul_right (slot_width which) (rw k at r), l), narrow which))

-- and what it leaves
module _ (kind : Filable) (text before after other : List ℕ) (from m : ℕ) (e : judged_file (file_kind kind) text ≡ Ok m) where
  pub put-regular : kind ≡ Default → after ≡ journal_with 45 before from (first_lines m text)
      → (after ≡ regular_with kind before from (texts_of (file_kind kind) text)) × (other ≡ corrections_with kind other from (texts_of (file_kind kind) text))
  put-regular k w = rw (records-lines kind text m e, k) (w, refl)

  pub put-correction : kind ≡ Correction → after ≡ journal_with 98 before from (first_lines m text)
      → (other ≡ regular_with kind other from (texts_of (file_kind kind) text)) × (after ≡ corrections_with kind before from (texts_of (file_kind kind) text))
  put-correction k w = rw (records-lines kind text m e, k) (refl, w)

-- ---- the buffers
-- with the file entered, by its kind
abbrev pub with_file : Filable → ℕ → ℕ → List ℕ → Buffers → Buffers
with_file kind publisher day text b = record {
  table = b.table;
  files = files_with b.files (file_in (filed_as kind publisher day text));
  regular = regular_with kind b.regular (records_of (kind_number kind) (files_of b.files)) (texts_of (file_kind kind) text);
  corrections = corrections_with kind b.corrections (records_of (kind_number kind) (files_of b.files)) (texts_of (file_kind kind) text);
  entries = b.entries;
}

pub entered-as : (kind : Filable) (publisher day : ℕ) (text : List ℕ) (b : Buffers) → with_file kind publisher day text b ≡ entered (filed_as kind publisher day text) b
unfolding entered filed_as
entered-as Default publisher day text b = refl
entered-as Correction publisher day text b = refl

module _ (kind : Filable) (publisher day m : ℕ) (text : List ℕ) (judged : judged_file (file_kind kind) text ≡ Ok m) where
  file-same : (number : ℕ) → number ≡ kind_number kind → ◌≡◌ {A = File} (record { kind = number; publisher = publisher; day = day; count = m }) (file_in (filed_as kind publisher day text))
  unfolding file_in filed_as
  file-same number k = λ i. record { kind = k i; publisher = publisher; day = day; count = sym (records-count kind text m judged) i }

  pub joined : (files regular corrections files₁ regular₁ corrections₁ : List ℕ) (number from : ℕ) → number ≡ kind_number kind → from ≡ records_of (kind_number kind) (files_of files)
      → files₁ ≡ files_with files (record { kind = number; publisher = publisher; day = day; count = m })
      → regular₁ ≡ regular_with kind regular from (texts_of (file_kind kind) text)
      → corrections₁ ≡ corrections_with kind corrections from (texts_of (file_kind kind) text)
      → Joined (filed_as kind publisher day text) files regular corrections files₁ regular₁ corrections₁
  joined files regular corrections files₁ regular₁ corrections₁ number from k at ef er ec =
      let f = ef ∙ ap (files_with files) (file-same number k) in
      let r = er ∙ ap (λ (n : ℕ). regular_with kind regular n (texts_of (file_kind kind) text)) at in
      let c = ec ∙ ap (λ (n : ℕ). corrections_with kind corrections n (texts_of (file_kind kind) text)) at in
      record { buffers = λ t e. (λ i. lent t (f i) (r i) (c i) e) ∙ entered-as kind publisher day text (lent t files regular corrections e) }

-- two outcomes that the contract of entering allows are equal
pub joined-one : {f : Filed} {files regular corrections a b c a₁ b₁ c₁ : List ℕ} → Joined f files regular corrections a b c → Joined f files regular corrections a₁ b₁ c₁ → (a ≡ a₁) × ((b ≡ b₁) × (c ≡ c₁))
joined-one p q =
    let e = p.buffers [] [] ∙ sym (q.buffers [] []) in
    (ap (λ (l : Buffers). l.files) e, (ap (λ (l : Buffers). l.regular) e, ap (λ (l : Buffers). l.corrections) e))
