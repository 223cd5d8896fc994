-- A report of a number's history stands in the regular journal at the place that is shown. Assumes nothing.
use Rattle.layout.specs.declared.report.Report.{Report}
use Rattle.layout.specs.declared.correction.Correction.{Correction}
use Rattle.std.specs.Prelude.{Option, Some, None}
use mathlib.Core.Path.{◌≡◌, refl, sym, ap, ◌∙◌}
use mathlib.Core.Bool.{Bool, true, false, cond, ◌&&◌, true≢false}
use mathlib.Core.List.Memᴰ
use mathlib.Core.List.{List, [], ◌∷◌, ◌++◌, flat_map, Memᴰ}
use Prim.Native.Nat.{ℕ, zero, suc, ◌+◌, ◌<◌}
use native.Mathlib.Decide.{ℕ_discrete}
use native.Mathlib.Nat.{zero-add}
use native.Mathlib.Omega.{arith}
use borrow.Author.Tests.{eqb-true, eq-eqb, ne_eqb}
use lib.Dec.{eqb}
use lib.ListN.{length, length-append, get_or-append}
use Rattle.laws.specs.Lists.{table, keep}
use Rattle.laws.proofs.Lists.{mem-keep, mem_below}
use Rattle.laws.proofs.Order.{mem-in_order}
use Rattle.laws.proofs.Tables.{length-table, get_or-table}
use Rattle.laws.proofs.Tests.{and_left, and_right}
use Rattle.fields.specs.declared.code.Code.{Code}
use Rattle.fields.specs.declared.number.Number.{Number}
use Rattle.fields.specs.CorrectionCode.{is_objection}
use Rattle.layout.specs.Report.{whole_of}
use Rattle.layout.specs.Correction.{correction_of}
use Rattle.entries.specs.declared.report.Published.{Published}
use Rattle.entries.specs.declared.entry.Place.{Place}
use Rattle.entries.specs.Report.{publisher_of}
use Rattle.verdict.specs.declared.step.Says.{Says}
use Rattle.model.specs.Rules.{Event}
use Rattle.model.specs.Model.{Filed, event_at, events, journal, journal_of, about, not_later, history}
use Rattle.model.proofs.Files.{Once, journal-file}
use Rattle.rules.specs.Records.{says_in, objected, corrected}
use Rattle.rules.specs.Rules.{rules}
use Rattle.asking.specs.Items.{item_at}
use Rattle.asking.specs.Why.{is_file_of, reports_in, start_in, stored_as}
use Rattle.asking.proofs.Lines.{item-behind, item-at}
use Rattle.asking.proofs.answering.Roots.{Root}

-- ---- only a record of a default file is a report
not-reported : (r : Option Correction) (p : Published) → corrected r ≡ Says.Reported p → ⊥
not-reported (Some c) p e = go (is_objection c.code) (whole_of c.u) e
  where
    go : (b : Bool) (t : Option Report) → cond b (objected c.code.0 t) Says.Other ≡ Says.Reported p → ⊥
    go true (Some r) q = let z : ◌≡◌ {A = ℕ} 0 1 = cc in absurd (omega arith)
    go true None q = let z : ◌≡◌ {A = ℕ} 0 1 = cc in absurd (omega arith)
    go false t q = let z : ◌≡◌ {A = ℕ} 0 1 = cc in absurd (omega arith)
not-reported None p e = let z : ◌≡◌ {A = ℕ} 0 1 = cc in absurd (omega arith)

kind-reported : (kind : ℕ) (bytes : List ℕ) (p : Published) → says_in kind bytes ≡ Says.Reported p → kind ≡ 0
unfolding says_in
kind-reported zero bytes p e = refl
kind-reported (suc zero) bytes p e = absurd (not-reported (correction_of bytes) p e)
kind-reported (suc (suc kind)) bytes p e = absurd (not-reported None p e)

-- ---- the regular journal, from its first file on
journal-yes : (g : Filed) (fs : List Filed) → g.kind ≡ 0 → journal_of 0 (g ∷ fs) ≡ events g ++ journal_of 0 fs
unfolding journal_of journal keep flat_map
journal-yes g fs e = rw (eq-eqb g.kind 0 e)

journal-no : (g : Filed) (fs : List Filed) → (g.kind ≡ 0 → ⊥) → journal_of 0 (g ∷ fs) ≡ journal_of 0 fs
unfolding journal_of journal keep flat_map
journal-no g fs e = rw (ne_eqb g.kind 0 e)

length-events : (g : Filed) → length (events g) ≡ length g.records
unfolding events
length-events g = length-table (length g.records) (event_at g)

event-in : (g : Filed) (rest : List Event) (i : ℕ) → i < length g.records → item_at (events g ++ rest) i ≡ Some (event_at g i)
unfolding events
event-in g rest i h =
    let l = table (length g.records) (event_at g) in
    let b : i < length l = omega (arith, length-table (length g.records) (event_at g)) in
    item-at (l ++ rest) i (event_at g i) (omega (arith, length-append l rest)) ∙ ap Some (get_or-append l rest (event_at g i) i b ∙ get_or-table (length g.records) i (event_at g) (event_at g i) h)

reports-yes : (g : Filed) → g.kind ≡ 0 → reports_in g ≡ length g.records
unfolding reports_in
reports-yes g q = rw (eq-eqb g.kind 0 q)

reports-no : (g : Filed) → (g.kind ≡ 0 → ⊥) → reports_in g ≡ 0
unfolding reports_in
reports-no g q = rw (ne_eqb g.kind 0 q)

module _ (publisher day : ℕ) where
  file-of : (g : Filed) → is_file_of publisher day g ≡ true → (g.kind ≡ 0) × (g.publisher ≡ publisher) × (g.day ≡ day)
  unfolding is_file_of
  file-of g e =
      let a : Bool = eqb g.kind 0 in
      let b : Bool = eqb g.publisher publisher in
      let c : Bool = eqb g.day day in
      (eqb-true g.kind 0 (and_left a b (and_left (a && b) c e)), eqb-true g.publisher publisher (and_right a b (and_left (a && b) c e)), eqb-true g.day day (and_right (a && b) c e))

  is-file : (g : Filed) → g.kind ≡ 0 → g.publisher ≡ publisher → g.day ≡ day → is_file_of publisher day g ≡ true
  unfolding is_file_of
  is-file g k p d = rw (eq-eqb g.kind 0 k, eq-eqb g.publisher publisher p, eq-eqb g.day day d)

  start-at : (files : List Filed) → Once files → (f : Filed) → Memᴰ f files → f.kind ≡ 0 → f.publisher ≡ publisher → f.day ≡ day → (i : ℕ) → i < length f.records
      → item_at (journal_of 0 files) (start_in publisher day files + i) ≡ Some (event_at f i)
  start-at [] once f m k p d i h = absurd (Memᴰ.not-nil m)
  start-at (g ∷ fs) once f m k p d i h = go (is_file_of publisher day g) refl m (λ n. start-at fs (λ a b j l. once a b (Memᴰ.tail j) (Memᴰ.tail l)) f n k p d i h)
    where
      start-by : (t : Bool) → is_file_of publisher day g ≡ t → start_in publisher day (g ∷ fs) ≡ cond t 0 (reports_in g + start_in publisher day fs)
      start-by t e = unfold start_in in ap (λ (b : Bool). cond b 0 (reports_in g + start_in publisher day fs)) e

      place-yes : is_file_of publisher day g ≡ false → g.kind ≡ 0 → start_in publisher day (g ∷ fs) + i ≡ length (events g) + (start_in publisher day fs + i)
      place-yes e q = omega (arith, start-by false e, length-events g, reports-yes g q)

      place-no : is_file_of publisher day g ≡ false → (g.kind ≡ 0 → ⊥) → start_in publisher day (g ∷ fs) + i ≡ start_in publisher day fs + i
      place-no e q = omega (arith, start-by false e, reports-no g q)

      passed : is_file_of publisher day g ≡ false → item_at (journal_of 0 fs) (start_in publisher day fs + i) ≡ Some (event_at f i) → item_at (journal_of 0 (g ∷ fs)) (start_in publisher day (g ∷ fs) + i) ≡ Some (event_at f i)
      passed e ih = elim (ℕ_discrete g.kind 0) [
        | yes q ↦
            ap (λ (n : ℕ). item_at (journal_of 0 (g ∷ fs)) n) (place-yes e q) ∙ ap (λ (l : List Event). item_at l (length (events g) + (start_in publisher day fs + i))) (journal-yes g fs q)
            ∙ item-behind (events g) (journal_of 0 fs) (start_in publisher day fs + i) ∙ ih
        | no q ↦ ap (λ (n : ℕ). item_at (journal_of 0 (g ∷ fs)) n) (place-no e q) ∙ ap (λ (l : List Event). item_at l (start_in publisher day fs + i)) (journal-no g fs q) ∙ ih
      ]

      go : (t : Bool) → is_file_of publisher day g ≡ t → Memᴰ f (g ∷ fs) → (Memᴰ f fs → item_at (journal_of 0 fs) (start_in publisher day fs + i) ≡ Some (event_at f i)) → item_at (journal_of 0 (g ∷ fs)) (start_in publisher day (g ∷ fs) + i) ≡ Some (event_at f i)
      go true e n ih =
          let w = file-of g e in
          let same : f ≡ g = once f g n (Memᴰ.head refl) (p ∙ sym w.1) (d ∙ sym w.2) (k ∙ sym w.0) in
          ap (λ (j : ℕ). item_at (journal_of 0 (g ∷ fs)) (j + i)) (start-by true e) ∙ ap (λ (j : ℕ). item_at (journal_of 0 (g ∷ fs)) j) (zero-add i)
          ∙ ap (λ (l : List Event). item_at l i) (journal-yes g fs w.0) ∙ event-in g (journal_of 0 fs) i (omega (arith, ap (λ (x : Filed). length x.records) same)) ∙ ap (λ (x : Filed). Some (event_at x i)) (sym same)
      go false e (Memᴰ.head q) ih = absurd (true≢false (sym (is-file g (ap (λ (x : Filed). x.kind) (sym q) ∙ k) (ap (λ (x : Filed). x.publisher) (sym q) ∙ p) (ap (λ (x : Filed). x.day) (sym q) ∙ d)) ∙ e))
      go false e (Memᴰ.tail n) ih = passed e (ih n)

-- ---- the report of a place
pub stored-root : (files : List Filed) → Once files → (owner : Code) (number : Number) (p : Place) (w : Root owner (history rules files number) p) → item_at (journal_of 0 files) (stored_as files p).place ≡ Some w.event
unfolding history events
stored-root files once owner number p w =
    let e = w.event in
    let in-journal = mem-keep (about rules number) (journal files) (mem-in_order (not_later rules) (keep (about rules number) (journal files)) w.member) in
    let f = journal-file files in-journal in
    let at = mem_below (length f.0.records) (event_at f.0) f.2 in
    let same : e ≡ event_at f.0 at.0 = at.2 in
    let kind : f.0.kind ≡ 0 = sym (ap (λ (d : Event). d.kind) same) ∙ kind-reported e.kind e.bytes w.report w.says in
    let publisher : (publisher_of p.report).0 ≡ f.0.publisher = sym (ap (λ (c : Code). c.0) w.publisher) ∙ ap (λ (d : Event). d.publisher) same in
    let day : p.day.0 ≡ f.0.day = ap (λ (q : Place). q.day.0) w.placed ∙ ap (λ (d : Event). d.day) same in
    let place : p.at ≡ at.0 = ap (λ (q : Place). q.at) w.placed ∙ ap (λ (d : Event). d.place) same in
    ap (λ (n : ℕ). item_at (journal_of 0 files) (start_in (publisher_of p.report).0 p.day.0 files + n)) place
    ∙ start-at (publisher_of p.report).0 p.day.0 files once f.0 f.1 kind (sym publisher) (sym day) at.0 at.1
    ∙ ap Some (sym same)
