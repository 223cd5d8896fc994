-- The promises of filing about the buffers. Assumes nothing.
--     filed-reads          after answer 0 the buffers read as the model's `filed` of what they read as before
--     refused-unchanged    on every refusal no byte of any buffer changes
--     came-reached         buffers that starting and filing lead to read as a store that the model reaches
--     demand-3             in them every number's entry equals the one worked out afresh from the journals
--     untouched-bytes      the entry of a number that no record of the file names is untouched, byte for byte
--     files-one            two outcomes that the contract allows are equal
use Rattle.std.specs.Prelude.{Err, Ok, Result}
use Rattle.fields.specs.declared.code.Code.{Code}
use Rattle.std.specs.Prelude.{Some, None}
use mathlib.Core.Path.{◌≡◌, refl, sym, ap, ◌∙◌}
use mathlib.Core.Bool.{Bool, true, false, cond}
use mathlib.Core.List.{List, [], ◌∷◌, ◌++◌, map, zip_with}
use Prim.Native.Nat.{ℕ, ◌<◌}
use native.Mathlib.Omega.{arith}
use Rattle.laws.specs.Lists.{any}
use Rattle.laws.specs.Slots.{slot_at}
use Rattle.fields.specs.Code.{code_of}
use Rattle.files.specs.Judged.{judged_file}
use Rattle.model.specs.Model.{Filed, Reached, alike, filed, renewed, started, named, entry_over}
use Rattle.rules.specs.Rules.{rules}
use Rattle.rules.proofs.Promises.{entries-worked-afresh}
use Rattle.store.specs.Reads.{Buffers, Held, table_line, held, is_readable, reads}
use Rattle.store.proofs.Checks.{long, few-lines, reads-some}
use Rattle.store.proofs.Whole.{whole_long, whole-table}
use Rattle.filing.specs.declared.entering.kind.Filable.{Filable}
use Rattle.filing.specs.entering.Entering.{file_kind, filed_as, entered, Enterable}
use Rattle.filing.proofs.entering.Entered.{entered-readable, entered-files}
use Rattle.filing.specs.fitting.Renewing.{renewed_slot}
use Rattle.filing.proofs.fitting.Renewed.{renewed-reads}
use Rattle.filing.proofs.renewing.Renewed.{renewed-slot}
use Rattle.store.specs.journals.Reads.{read_files}
use Rattle.store.specs.numbers.Lines.{line_count, line_at}
use Rattle.store.specs.declared.numbers.lines.Line.{Line}
use Rattle.starting.specs.Start.{started_with}
use Rattle.starting.proofs.Readable.{started-reads}
use Rattle.filing.specs.declared.checking.answer.NotFiled.{NotFiled}
use Rattle.filing.specs.checking.Checks.{checked}
use Rattle.filing.specs.checking.Filing.{Decision, Refuse, Accept, decide, decision_of}
use Rattle.filing.proofs.checking.Deciding.{decided, decided-unreadable, passed-enterable}
use Rattle.filing.proofs.checking.Stored.{already-alike}
use Rattle.filing.specs.Effect.{renewed_in, filed_into, answer_to, buffers_after, Files, store_of, Came, start, file}

-- a file that may be entered
module _ {b : Buffers} {kind : Filable} {publisher day : ℕ} {text : List ℕ} {m : ℕ} (can : Enterable b kind publisher day text m) where
  abbrev f : Filed
  f = filed_as kind publisher day text

  -- what the store is then
  abbrev next : Held
  next = record { lines = (held b).lines; files = (held b).files ++ (f ∷ []); entries = zip_with (renewed rules (held b).files f) (held b).lines (held b).entries }

  entered-reads : reads (filed_into f b) ≡ Some next
  unfolding filed_into renewed_in entered held
  entered-reads = renewed-reads (entered f b) (entered-readable can) f (held b).files (entered-files can)

-- a store that is started
map-twice : {A B C : Type 0} (g : B → C) (h : A → B) (l : List A) → map g (map h l) ≡ map (λ (a : A). g (h a)) l
map-twice g h [] = refl
map-twice g h (a ∷ l) = ap (λ (t : List _). g (h a) ∷ t) (map-twice g h l)

pub started-store : (ls : List Line) → store_of (started_with ls) ≡ started rules (map table_line ls)
unfolding started_with started
started-store ls = ap (λ (es : List _). record { lines = map table_line ls; files = []; entries = es }) (sym (map-twice rules.first table_line ls))

-- ---- what a decision to accept has found
module _ (b : Buffers) (kind : Filable) (publisher : List ℕ) (day : ℕ) (text : List ℕ) where
  -- an accepted file may be entered
  abbrev Grounded : Decision → Type 0
  Grounded (Refuse a) = Unit {0}
  Grounded (Accept f) = (c : ℕ) × (m : ℕ) × Enterable b kind c day text m × (f ≡ filed_as kind c day text)

  grounded : Grounded (decide b kind publisher day text)
  grounded = go (is_readable b) refl
    where
      checks : Result (Code × ℕ) NotFiled
      checks = checked b.files kind (code_of publisher) day (judged_file (file_kind kind) text)

      passing : is_readable b ≡ true → (k : Result (Code × ℕ) NotFiled) → checks ≡ k → Grounded (decision_of kind day text k)
      passing h (Err a) q = tt
      passing h (Ok (c, m)) q = (c.0, m, passed-enterable b h kind day text c m publisher q, refl)

      go : (t : Bool) → is_readable b ≡ t → Grounded (decide b kind publisher day text)
      go false h = rw (decided-unreadable b kind publisher day text h) tt
      go true h = rw (decided b h kind day text publisher) (passing h checks refl)

-- none alike is held
new-file : {b : Buffers} {kind : Filable} {c day : ℕ} {text : List ℕ} {m : ℕ} → Enterable b kind c day text m → any (alike (filed_as kind c day text)) (held b).files ≡ false
unfolding held
new-file {b} {kind} {c} {day} {text} can = already-alike (filed_as kind c day text) b.files b.regular b.corrections ∙ can.new

-- ---- what buffers that read hold
pub read-so : (b : Buffers) (h : Held) → reads b ≡ Some h → (is_readable b ≡ true) × (held b ≡ h)
unfolding reads
read-so b h q = go (is_readable b) refl q
  where
    go : (t : Bool) → is_readable b ≡ t → cond t (Some (held b)) None ≡ Some h → (is_readable b ≡ true) × (held b ≡ h)
    go true e q = (e, cc)
    go false e q = absurd (let z : ◌≡◌ {A = ℕ} 0 1 = cc in omega arith)

-- ---- the stores that are come to
module _ (kind : Filable) (publisher : List ℕ) (day : ℕ) (text : List ℕ) where
  pub filed-on : {b after : Buffers} {answer : Result ℕ NotFiled} → Files b kind publisher day text answer after → is_readable b ≡ true → Reached rules (store_of (held b))
      → (is_readable after ≡ true) × Reached rules (store_of (held after))
  unfolding filed
  filed-on {b} {after} s h r = go (decide b kind publisher day text) (grounded b kind publisher day text) s.leaves
    where
      go : (d : Decision) → Grounded b kind publisher day text d → after ≡ buffers_after b d → (is_readable after ≡ true) × Reached rules (store_of (held after))
      go (Refuse a) g q = rw q (h, r)
      go (Accept x) g q =
          let can = g.2 in
          let w = read-so (filed_into (filed_as kind g.0 day text) b) (next can) (entered-reads can) in
          let same : after ≡ filed_into (filed_as kind g.0 day text) b = q ∙ ap (λ (y : Filed). filed_into y b) g.3 in
          rw same (w.0, rw w.1 (Reached.file r (filed_as kind g.0 day text) (new-file can)))

pub came-reached : {b : Buffers} → Came b → (is_readable b ≡ true) × Reached rules (store_of (held b))
came-reached (start {text} {before} {after} {n} s) =
    let w = started-reads text before after n s in
    let r = read-so after (started_with w.0) w.3 in
    (r.0, rw (r.1, started-store w.0) (Reached.start (map table_line w.0)))
came-reached (file c {kind} {publisher} {day} {text} s) = let p = came-reached c in filed-on kind publisher day text s p.0 p.1

-- demand 3: every number's entry equals the one worked out afresh from the journals
pub demand-3 : {b : Buffers} → Came b → (reads b ≡ Some (held b)) × ((held b).entries ≡ map (entry_over rules (held b).files) (held b).lines)
demand-3 {b} c = let p = came-reached c in (reads-some b p.0, entries-worked-afresh p.1)

-- answer 0: the buffers then read as the model's `filed` of what they read as before
pub filed-reads : {b after : Buffers} {kind : Filable} {publisher : List ℕ} {day : ℕ} {text : List ℕ} {f : Filed} {answer : Result ℕ NotFiled} → Files b kind publisher day text answer after
    → decide b kind publisher day text ≡ Accept f → (reads after ≡ Some (held after)) × (store_of (held after) ≡ filed rules (store_of (held b)) f)
unfolding filed
filed-reads {b} {after} {kind} {publisher} {day} {text} {f} s d =
    let g = rw d at (grounded b kind publisher day text) in
    let can = g.2 in
    let same : after ≡ filed_into (filed_as kind g.0 day text) b = s.leaves ∙ ap (buffers_after b) d ∙ ap (λ (y : Filed). filed_into y b) g.3 in
    let w = read-so (filed_into (filed_as kind g.0 day text) b) (next can) (entered-reads can) in
    rw same (reads-some (filed_into (filed_as kind g.0 day text) b) w.0, ap store_of w.1 ∙ ap (filed rules (store_of (held b))) (sym g.3))

-- a refusal: no byte of any buffer changes
pub refused-unchanged : {b after : Buffers} {kind : Filable} {publisher : List ℕ} {day : ℕ} {text : List ℕ} {a : NotFiled} {answer : Result ℕ NotFiled} → Files b kind publisher day text answer after
    → decide b kind publisher day text ≡ Refuse a → (answer ≡ Err a) × (after ≡ b)
refused-unchanged {b} s d = (s.answers ∙ ap (answer_to (held b).files) d, s.leaves ∙ ap (buffers_after b) d)

-- two outcomes that the contract allows are equal
pub files-one : {b x y : Buffers} {kind : Filable} {publisher : List ℕ} {day : ℕ} {text : List ℕ} {p q : Result ℕ NotFiled} → Files b kind publisher day text p x → Files b kind publisher day text q y → (p ≡ q) × (x ≡ y)
files-one s t = (s.answers ∙ sym t.answers, s.leaves ∙ sym t.leaves)

-- the entry of a number that no record of the file names is untouched, byte for byte
pub untouched-bytes : {b : Buffers} {kind : Filable} {c day : ℕ} {text : List ℕ} {m : ℕ} → Enterable b kind c day text m → (k : ℕ) → k < line_count b.table
    → named rules (filed_as kind c day text) (line_at b.table k).number ≡ false
    → slot_at 0 100 (filed_into (filed_as kind c day text) b).entries k ≡ slot_at 0 100 b.entries k
unfolding filed_into renewed_in entered held renewed_slot
untouched-bytes {b} {kind} {c} {day} {text} can k h q =
    let f = filed_as kind c day text in
    renewed-slot (read_files (entered f b).files (entered f b).regular (entered f b).corrections) f b.table b.entries
    (omega (arith, few-lines b.table (whole-table b can.readable), (long b (whole_long b can.readable)).long-entries)) k h
    ∙ rw q
