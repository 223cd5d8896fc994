-- For each number of files there was a store in use that had the first so many. Assumes nothing.
use Rattle.std.specs.Prelude.{Result}
use mathlib.Core.Path.{◌≡◌, refl, sym, ap, ◌∙◌}
use mathlib.Core.Logic.{⊎_elim}
use mathlib.Core.List.{List, [], ◌∷◌, ◌++◌}
use Prim.Native.Nat.{ℕ, zero, suc, ◌≤◌, ◌<◌}
use native.Mathlib.Omega.{arith}
use lib.ListN.{length, take, length-append}
use lib.Seq.{take_all}
use Rattle.laws.proofs.Tests.{le-or-lt}
use Rattle.model.specs.Model.{Filed, Store, filed}
use Rattle.rules.specs.Rules.{rules}
use Rattle.store.specs.Reads.{Buffers, Held, held}
use Rattle.starting.specs.Start.{started_with}
use Rattle.starting.proofs.Readable.{started-reads}
use Rattle.filing.specs.declared.entering.kind.Filable.{Filable}
use Rattle.filing.specs.declared.checking.answer.NotFiled.{NotFiled}
use Rattle.filing.specs.checking.Filing.{Decision, Refuse, Accept, decide}
use Rattle.filing.specs.Effect.{buffers_after, Files, Came}
use Rattle.filing.proofs.Promises.{read-so, filed-reads}
use Rattle.promises.specs.InUse.{InUse}
use Rattle.promises.proofs.Stores.{came-in-use}

-- a store in use with the same lines and the first n files
abbrev pub HadFirst : Buffers → ℕ → Type 0
HadFirst b n = (c : Buffers) × InUse c × ((held c).lines ≡ (held b).lines) × ((held c).files ≡ take n (held b).files)

-- the first ones of a list that has grown
take-front : {A : Type 0} (n : ℕ) (l m : List A) → n ≤ length l → take n (l ++ m) ≡ take n l
take-front zero l m h = refl
take-front (suc n) [] m h = absurd (omega arith)
take-front (suc n) (x ∷ l) m h = ap (λ (k : List _). x ∷ k) (take-front n l m (omega arith))

-- the store itself has all its files
itself : {b : Buffers} → Came b → (n : ℕ) → length (held b).files ≤ n → HadFirst b n
itself {b} c n h = (b, came-in-use c, refl, sym (take_all n (held b).files h))

-- one file more was offered
module _ {b after : Buffers} {kind : Filable} {publisher : List ℕ} {day : ℕ} {text : List ℕ} {answer : Result ℕ NotFiled} (c : Came b) (s : Files b kind publisher day text answer after) (n : ℕ) (had : HadFirst b n) where
  grown : (f : Filed) → decide b kind publisher day text ≡ Accept f → HadFirst after n
  unfolding filed
  grown f d =
      let now = (filed-reads s d).1 in
      let lines : (held after).lines ≡ (held b).lines = ap (λ (t : Store rules). t.lines) now in
      let files : (held after).files ≡ (held b).files ++ (f ∷ []) = ap (λ (t : Store rules). t.files) now in
      ⊎_elim
      (λ (h : n ≤ length (held b).files). (had.0, had.1, had.2 ∙ sym lines, had.3 ∙ sym (ap (take n) files ∙ take-front n (held b).files (f ∷ []) h)))
      (λ (h : length (held b).files < n). itself (Came.file c s) n (omega (arith, ap length files, length-append (held b).files (f ∷ []))))
      (le-or-lt n (length (held b).files))

  offered : (d : Decision) → decide b kind publisher day text ≡ d → HadFirst after n
  offered (Refuse a) d = let same : after ≡ b = s.leaves ∙ ap (buffers_after b) d in rw same had
  offered (Accept f) d = grown f d

pub had-first : {b : Buffers} → Came b → (n : ℕ) → HadFirst b n
had-first (Came.start {text} {before} {after} {n} s) m =
    let w = started-reads text before after n s in
    let files : (held after).files ≡ [] = ap (λ (h : Held). h.files) (read-so after (started_with w.0) w.3).1 ∙ none_yet w.0 in
    itself (Came.start s) m (omega (arith, ap length files))
  where
    none_yet : (ls : List _) → (started_with ls).files ≡ []
    none_yet ls = unfold started_with in refl
had-first (Came.file {b} c {kind} {publisher} {day} {text} s) n = offered c s n (had-first c n) (decide b kind publisher day text) refl
