-- What the parts of filing come to, put together. Assumes nothing.
use Rattle.std.specs.Prelude.{Err, Ok, Result}
use mathlib.Core.Path.{◌≡◌, refl, sym, ap, ◌∙◌}
use mathlib.Core.Bool.{true, false}
use mathlib.Core.List.{List, [], ◌∷◌, ◌++◌, map}
use Prim.Native.Nat.{ℕ, ◌<◌}
use native.Mathlib.Omega.{arith}
use lib.ListN.{length, length-append}
use Rattle.fields.specs.Code.{code_of}
use Rattle.fields.specs.declared.code.Code.{Code}
use Rattle.files.specs.Judged.{judged_file}
use Rattle.store.specs.journals.Files.{file_count}
use Rattle.store.specs.journals.Reads.{read_files}
use Rattle.store.specs.numbers.Lines.{lines_of}
use Rattle.model.specs.Model.{Filed, count_of}
use Rattle.rules.specs.Rules.{rules}
use Rattle.store.specs.Reads.{Buffers, table_line, held, is_readable, lent}
use Rattle.filing.specs.declared.entering.kind.Filable.{Filable}
use Rattle.filing.specs.entering.Entering.{file_kind, filed_as, Enterable, Joined}
use Rattle.filing.proofs.entering.Entered.{entered-readable, entered-files}
use Rattle.filing.specs.fitting.Renewing.{renewed_entries, last_filed}
use Rattle.filing.proofs.fitting.Renewed.{last-filed}
use Rattle.filing.specs.declared.checking.answer.NotFiled.{NotFiled}
use Rattle.filing.specs.declared.checking.answer.NotFiled.TheVariants.{Unreadable}
use Rattle.filing.specs.checking.Checks.{checked}
use Rattle.filing.specs.checking.Filing.{Decision, Refuse, Accept, decide, decision_of}
use Rattle.filing.proofs.checking.Stored.{held-count}
use Rattle.filing.proofs.checking.Deciding.{decided, decided-unreadable}
use Rattle.filing.specs.Effect.{renewed_in, filed_into, answer_to, buffers_after, Files, Accepted}

-- ---- an accepted file
-- the entries written are those that the buffers say
renewed-so : (F : Filed) (t f r c e e₁ : List ℕ) → e₁ ≡ renewed_entries (read_files f r c) F (map table_line (lines_of t)) e → lent t f r c e₁ ≡ renewed_in F (lent t f r c e)
unfolding renewed_in held
renewed-so F t f r c e e₁ q = ap (lent t f r c) q

module _ {kind : Filable} {publisher day : ℕ} {text : List ℕ} {m : ℕ} (t f r c e f₁ r₁ c₁ : List ℕ)
    (can : Enterable (lent t f r c e) kind publisher day text m) (joined : Joined (filed_as kind publisher day text) f r c f₁ r₁ c₁) where
  abbrev F : Filed
  F = filed_as kind publisher day text

  pub joined-readable : is_readable (lent t f₁ r₁ c₁ e) ≡ true
  joined-readable = ap is_readable (joined.buffers t e) ∙ entered-readable can

  joined-files : read_files f₁ r₁ c₁ ≡ read_files f r c ++ (F ∷ [])
  joined-files = ap (λ (b : Buffers). read_files b.files b.regular b.corrections) (joined.buffers t e) ∙ entered-files can

  -- there is a file now
  pub joined-some : 0 < file_count f₁
  joined-some = omega (arith, held-count f₁ r₁ c₁, ap length joined-files, length-append (read_files f r c) (F ∷ []))

  joined-last : last_filed (read_files f₁ r₁ c₁) ≡ F
  joined-last = ap last_filed joined-files ∙ last-filed (read_files f r c) F

  module _ (e₁ : List ℕ) (count : ℕ) (n : count ≡ count_of rules (read_files f₁ r₁ c₁) (last_filed (read_files f₁ r₁ c₁)))
      (w : e₁ ≡ renewed_entries (read_files f₁ r₁ c₁) (last_filed (read_files f₁ r₁ c₁)) (map table_line (lines_of t)) e) where
    counted : count ≡ count_of rules ((held (lent t f r c e)).files ++ (F ∷ [])) F
    unfolding held
    counted = n ∙ ap (count_of rules (read_files f₁ r₁ c₁)) joined-last ∙ ap (λ (fs : List Filed). count_of rules fs F) joined-files

    leaves : lent t f₁ r₁ c₁ e₁ ≡ filed_into F (lent t f r c e)
    unfolding filed_into
    leaves =
        renewed-so F t f₁ r₁ c₁ e e₁ (w ∙ ap (λ (g : Filed). renewed_entries (read_files f₁ r₁ c₁) g (map table_line (lines_of t)) e) joined-last)
        ∙ ap (renewed_in F) (joined.buffers t e)

    pub accepted : Accepted F (lent t f r c e) count (lent t f₁ r₁ c₁ e₁)
    accepted = record { counted = counted; leaves = leaves }

-- ---- the three ways out
module _ (b : Buffers) (kind : Filable) (publisher : List ℕ) (day : ℕ) (text : List ℕ) where
  abbrev checks : Result (Code × ℕ) NotFiled
  checks = checked b.files kind (code_of publisher) day (judged_file (file_kind kind) text)

  by : (d : Decision) (a : Result ℕ NotFiled) (after : Buffers) → decide b kind publisher day text ≡ d → a ≡ answer_to (held b).files d → after ≡ buffers_after b d
      → Files b kind publisher day text a after
  by d a after q x y = record { answers = x ∙ ap (answer_to (held b).files) (sym q); leaves = y ∙ ap (buffers_after b) (sym q) }

  pub files-unreadable : is_readable b ≡ false → Files b kind publisher day text (Err Unreadable) b
  files-unreadable h = by (Refuse Unreadable) (Err Unreadable) b (decided-unreadable b kind publisher day text h) refl refl

  module _ (h : is_readable b ≡ true) where
    so : (k : Result (Code × ℕ) NotFiled) → checks ≡ k → decide b kind publisher day text ≡ decision_of kind day text k
    so k q = decided b h kind day text publisher ∙ ap (decision_of kind day text) q

    pub files-refused : (a : NotFiled) → checks ≡ Err a → Files b kind publisher day text (Err a) b
    files-refused a q = by (Refuse a) (Err a) b (so (Err a) q) refl refl

    pub files-accepted : (c : Code) (m n : ℕ) (after : Buffers) → checks ≡ Ok (c, m) → Accepted (filed_as kind c.0 day text) b n after
        → Files b kind publisher day text (Ok n) after
    files-accepted c m n after q w = by (Accept (filed_as kind c.0 day text)) (Ok n) after (so (Ok (c, m)) q) (ap Ok w.counted) w.leaves
