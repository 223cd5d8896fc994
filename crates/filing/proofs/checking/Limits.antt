-- The limits of the journals, found out by counting records and files alone. Assumes nothing.
--     within-few      where each record is short enough, the byte limit follows from the record limit
--     room-limits     a file of m records keeps to all limits exactly where there is a slot for it and room for m records
use Rattle.std.specs.Prelude.{Ok}
use mathlib.Core.Path.{◌≡◌, refl, sym, ap, ap₂, ◌∙◌}
use mathlib.Core.Logic.{⊎_elim}
use mathlib.Core.Bool.{Bool, true, cond, ◌&&◌, and-true}
use mathlib.Core.List.{List, [], ◌∷◌, ◌++◌}
use Prim.Native.Nat.{ℕ, suc, ◌+◌, ◌*◌, ◌≤◌, ◌<◌}
use native.Mathlib.Nat.{add-zero, suc-mul, add-mul, mul-le-mul_right}
use native.Mathlib.Omega.{arith}
use lib.Dec.{eqb, ltb, leb}
use lib.ListN.{length, length-append}
use borrow.Author.Tests.{lt-ltb, le-ltb, le-leb, lt-leb}
use Rattle.laws.specs.Lists.{table, all, total}
use Rattle.laws.proofs.Lists.{total-append}
use Rattle.laws.proofs.Tests.{le-or-lt, and_left, and_right}
use Rattle.laws.proofs.Tables.{length-table, table-cong}
use Rattle.files.specs.Judged.{judged_file}
use Rattle.files.specs.Judged.{records_of as texts_of}
use Rattle.model.specs.Model.{Filed}
use Rattle.store.specs.journals.Files.{file_count, files_of, records_of}
use Rattle.store.specs.journals.Records.{record_at}
use Rattle.store.specs.journals.Reads.{records_at, read_files}
use Rattle.store.specs.Reads.{Buffers, held, is_readable, good_files}
use Rattle.store.proofs.Checks.{few-reports, few-corrections}
use Rattle.store.proofs.Limits.{bytes_below}
use Rattle.filing.specs.declared.entering.kind.Filable.{Filable}
use Rattle.filing.specs.declared.entering.kind.Filable.TheVariants.{Default, Correction}
use Rattle.filing.specs.entering.Entering.{file_kind, filed_as, shorter}
use Rattle.filing.proofs.entering.Journals.{is-shorter}
use Rattle.filing.proofs.entering.Writing.{records-count, records-short}
use Rattle.filing.proofs.entering.Entered.{parts}
use Rattle.filing.specs.checking.Checks.{has_room}
use Rattle.filing.specs.checking.Filing.{stored, within, within_limits}
use Rattle.filing.proofs.checking.Stored.{held-count, held-records, stored-end}

-- ---- records with at most w bytes each, on the whole
abbrev Narrow : ℕ → List (List ℕ) → Type 0
Narrow w l = total length l ≤ length l * w

narrow_short : (w : ℕ) (l : List (List ℕ)) → all (shorter (suc w)) l ≡ true → Narrow w l
unfolding all total
narrow_short w [] e = omega arith
narrow_short w (x ∷ l) e =
    omega (
      arith,
      is-shorter (suc w) x (and_left (shorter (suc w) x) (all (shorter (suc w)) l) e),
      narrow_short w l (and_right (shorter (suc w) x) (all (shorter (suc w)) l) e),
      suc-mul (length l) w,
    )

narrow-append : (w : ℕ) (l m : List (List ℕ)) → Narrow w l → Narrow w m → Narrow w (l ++ m)
narrow-append w l m p q = rw (length-append l m) (omega (arith, total-append length l m, add-mul (length l) (length m) w))

pub within-few : (w records bytes : ℕ) (l : List (List ℕ)) → Narrow w l → records * w ≤ bytes → within records bytes l ≡ leb (length l) records
unfolding within
within-few w records bytes l n b =
    ⊎_elim
    (λ (h : length l ≤ records). rw (le-leb (length l) records h, le-leb (total length l) bytes (omega (arith, mul-le-mul_right w h))))
    (λ (h : records < length l). rw (lt-leb (length l) records h))
    (le-or-lt (length l) records)

-- the records that a journal of slots holds
held-narrow : (w : ℕ) (journal : List ℕ) (n : ℕ) (r : ℕ → List ℕ) → ((place : ℕ) → r place ≡ record_at (suc w) journal place) → Narrow w (table n r)
held-narrow w journal n r is = rw (length-table n r) (rw (sym (table-cong n r (record_at (suc w) journal) (λ k h. is k))) at (bytes_below w n journal))

-- one more
next-leb : (n limit : ℕ) → leb (n + 1) limit ≡ ltb n limit
next-leb n limit =
    ⊎_elim
    (λ (h : limit ≤ n). rw (lt-leb (n + 1) limit (omega arith), le-ltb n limit h))
    (λ (h : n < limit). rw (le-leb (n + 1) limit (omega arith), lt-ltb n limit h))
    (le-or-lt limit n)

-- ---- the store with a file more
module _ (b : Buffers) (f : Filed) where
  abbrev files : List Filed
  files = read_files b.files b.regular b.corrections

  -- of a kind: how many records the store holds, these records, and those of the file
  abbrev count : ℕ → ℕ
  count kind = records_of kind (files_of b.files)

  abbrev old : ℕ → List (List ℕ)
  old kind = table (count kind) (records_at b.regular b.corrections kind)

  abbrev new : ℕ → List (List ℕ)
  new kind = cond (eqb f.kind kind) f.records []

  all-stored : (kind : ℕ) → stored kind (files ++ (f ∷ [])) ≡ old kind ++ new kind
  all-stored kind = stored-end kind files f ∙ ap (λ (l : List (List ℕ)). l ++ new kind) (held-records kind b.files b.regular b.corrections)

  all-count : (kind : ℕ) → length (old kind ++ new kind) ≡ count kind + length (new kind)
  all-count kind = length-append (old kind) (new kind) ∙ ap (λ (n : ℕ). n + length (new kind)) (length-table (count kind) (records_at b.regular b.corrections kind))

  journal-within : (kind w records bytes : ℕ) (journal : List ℕ) → ((place : ℕ) → records_at b.regular b.corrections kind place ≡ record_at (suc w) journal place)
      → records * w ≤ bytes → Narrow w (new kind) → within records bytes (stored kind (files ++ (f ∷ []))) ≡ leb (count kind + length (new kind)) records
  journal-within kind w records bytes journal is h n =
      ap (within records bytes) (all-stored kind)
      ∙ within-few w records bytes (old kind ++ new kind)
      (narrow-append w (old kind) (new kind) (held-narrow w journal (count kind) (records_at b.regular b.corrections kind) is) n) h
      ∙ ap (λ (k : ℕ). leb k records) (all-count kind)

  files-within : leb (length (files ++ (f ∷ []))) 1024 ≡ ltb (file_count b.files) 1024
  files-within =
      ap (λ (k : ℕ). leb k 1024) (length-append files (f ∷ []) ∙ ap (λ (k : ℕ). k + 1) (held-count b.files b.regular b.corrections))
      ∙ next-leb (file_count b.files) 1024

  limits : Narrow 44 (new 0) → Narrow 97 (new 1)
      → within_limits (files ++ (f ∷ [])) ≡ (ltb (file_count b.files) 1024 && (leb (count 0 + length (new 0)) 8192 && leb (count 1 + length (new 1)) 2048))
  unfolding within_limits records_at
  limits n k =
      ap₂ ◌&&◌ files-within
      (ap₂ ◌&&◌ (journal-within 0 44 8192 1048576 b.regular (λ place. refl) (omega arith) n) (journal-within 1 97 2048 262144 b.corrections (λ place. refl) (omega arith) k))

-- ---- a file that is filed
module _ (b : Buffers) (e : is_readable b ≡ true) (publisher day : ℕ) (text : List ℕ) (m : ℕ) where
  good : good_files b.files ≡ true
  good = (parts b e).good-files

  pub room-limits : (kind : Filable) → judged_file (file_kind kind) text ≡ Ok m → within_limits ((held b).files ++ (filed_as kind publisher day text ∷ [])) ≡ has_room b.files kind m
  unfolding held filed_as has_room total
  room-limits Default j =
      limits b (filed_as Default publisher day text) (narrow_short 44 (texts_of (file_kind Default) text) (records-short Default text m j)) (omega arith)
      ∙ rw (records-count Default text m j, add-zero (records_of 1 (files_of b.files)), le-leb (records_of 1 (files_of b.files)) 2048 (few-corrections b.files good))
      (ap (λ (t : Bool). ltb (file_count b.files) 1024 && t) (and-true (leb (records_of 0 (files_of b.files) + m) 8192)))
  room-limits Correction j =
      limits b (filed_as Correction publisher day text) (omega arith) (narrow_short 97 (texts_of (file_kind Correction) text) (records-short Correction text m j))
      ∙ rw (records-count Correction text m j, add-zero (records_of 0 (files_of b.files)), le-leb (records_of 0 (files_of b.files)) 8192 (few-reports b.files good))
