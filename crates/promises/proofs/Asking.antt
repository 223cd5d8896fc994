-- What a store in use answers, from asking's promises about a store that the model reaches: all citations of these stand here. Assumes nothing.
use Rattle.std.specs.Option.{option_map}
use Rattle.std.specs.Prelude.{Option, Some, None, Result, Ok}
use mathlib.Core.Path.{◌≡◌, refl, sym, ap, ◌∙◌}
use mathlib.Core.Logic.{◌⊎◌, inl, inr, ⊎_elim}
use mathlib.Core.Bool.{true}
use mathlib.Core.List.{List, Perm}
use Prim.Native.Nat.{ℕ}
use native.Mathlib.Omega.{arith}
use lib.ListN.{take}
use Rattle.laws.specs.Lists.{table, keep}
use Rattle.fields.specs.declared.code.Code.{Code}
use Rattle.fields.specs.declared.number.Number.{Number}
use Rattle.entries.specs.declared.entry.Place.{Place}
use Rattle.entries.specs.declared.entry.Entry.{Entry}
use Rattle.verdict.specs.declared.step.Why.{Why}
use Rattle.model.specs.Rules.{TableLine, Event}
use Rattle.model.specs.Model.{Reached, journal, journal_of, about, entry_over, entry_of, line_of, verdict_of}
use Rattle.rules.specs.Rules.{rules, standings}
use Rattle.rules.proofs.Promises.{entry-worked-afresh, what-one-number-depends-on}
use Rattle.store.specs.declared.journals.records.Journal.{Journal}
use Rattle.store.specs.declared.journals.records.Journal.TheVariants.{Regular}
use Rattle.store.specs.journals.Records.{shown_in}
use Rattle.store.specs.numbers.Lines.{line_count}
use Rattle.store.specs.entry_slots.Entries.{entry_at}
use Rattle.store.specs.Reads.{Buffers, Held, held, is_readable, reads}
use Rattle.store.proofs.Checks.{reads-some}
use Rattle.filing.specs.Effect.{store_of}
use Rattle.asking.specs.declared.answer.NotShown.{NotShown}
use Rattle.asking.specs.declared.pairs.Pair.{Pair}
use Rattle.asking.specs.Items.{item_at}
use Rattle.asking.specs.Standing.{held_as, entry_in, entry_before}
use Rattle.asking.specs.Why.{stored_as, pair_of, why_on, why_in, first_place, second_place, part_at}
use Rattle.asking.specs.Record.{kind_of, asked_in}
use Rattle.asking.specs.answering.Figure.{how_many, figure_asked}
use Rattle.asking.specs.answering.Whole.{entry_asked, before_asked, why_asked, record_asked}
use Rattle.asking.proofs.answering.Figures.{unlike, zip-table, figure-nothing}
use Rattle.asking.proofs.answering.Parts.{part_bytes}
use Rattle.asking.proofs.answering.Promises.{NoneShown, PairShown, why-promise, none-exactly, verdict-promise, figure-promise}
use Rattle.asking.proofs.answering.Readables.{showing}
use Rattle.reworking.specs.Listed.{reads_otherwise}
use Rattle.promises.specs.Numbers.{why_said, record_number}
use Rattle.promises.specs.InUse.{with_entries, InUse}
use Rattle.promises.specs.Asked.{NoneConfirmed, why_of, entry_shown, SaysNone, ShowsPair, ShowsRecord}
use Rattle.promises.proofs.Stores.{in-use-reached}

module _ {b : Buffers} (u : InUse b) where
  whole : is_readable b ≡ true
  whole = (in-use-reached u).0

  reached : Reached rules (store_of (held b))
  reached = (in-use-reached u).1

  pub in-use-reads : reads b ≡ Some (held b)
  in-use-reads = reads-some b whole

  -- ---- what is asked of the store is asked of what the buffers hold
  why-is : (x : Number) → why_of b x ≡ why_in (held b).lines (held b).files x
  why-is x = ap (λ (h : Option Held). why_asked h (Some x)) in-use-reads

  entry-is : (x : Number) → entry_asked (reads b) (Some x) ≡ held_as (entry_of rules (held b).lines (held b).entries x)
  unfolding entry_in
  entry-is x = ap (λ (h : Option Held). entry_asked h (Some x)) in-use-reads

  entry_found : (x : Number) (e : Entry) → entry_of rules (held b).lines (held b).entries x ≡ Some e → entry_shown b x e
  entry_found x e q = entry-is x ∙ ap held_as q

  -- the part at a place of a journal is the record there
  part-is : (which : Journal) (place : ℕ) (e : Event) → item_at (journal_of (kind_of which) (held b).files) place ≡ Some e → shown_in which b.regular b.corrections 8192 place ≡ e.bytes
  unfolding held
  part-is which place e q = part_bytes b.table b.files b.regular b.corrections (showing b.table b.files b.regular b.corrections b.entries whole) which place e q

  -- ---- why
  module _ (x : Number) (line : TableLine Number) (listed : line_of rules (held b).lines x ≡ Some line) where
    none_said : NoneShown (store_of (held b)) x line → SaysNone b x line
    none_said w = record {
      shown = why-is x ∙ w.shown;
      none-confirmed = w.none-confirmed;
      entry = w.entry;
      stored = entry_found x w.entry w.held;
      holder = w.holder;
      last = w.last;
    }

    pair-said : PairShown (store_of (held b)) x line → ShowsPair b x line
    pair-said w =
        let shown : why_of b x ≡ Ok (Some (record { first = stored_as (held b).files w.first; second = stored_as (held b).files w.second })) = why-is x ∙ w.shown in record {
          first = w.first;
          second = w.second;
          shown = shown;
          last-confirmed = w.last-confirmed;
          its-pair = w.its-pair;
          matching = w.pairing;
          first-record = w.first-record;
          second-record = w.second-record;
          in_order = w.in_order;
          first_part = ap (λ (a : Result (Option Pair) NotShown). part_at b.regular (first_place a)) shown ∙ part-is Regular (stored_as (held b).files w.first).place w.first-record.event w.first-stored;
          second-part = ap (λ (a : Result (Option Pair) NotShown). part_at b.regular (second_place a)) shown ∙ part-is Regular (stored_as (held b).files w.second).place w.second-record.event w.second-stored;
          first-publisher = sym (ap (λ (c : Code). c.0) w.first-record.publisher);
          second-publisher = sym (ap (λ (c : Code). c.0) w.second-record.publisher);
          first-day = ap (λ (p : Place). p.day.0) w.first-record.placed;
          second-day = ap (λ (p : Place). p.day.0) w.second-record.placed;
          entry = w.entry;
          stored = entry_found x w.entry w.held;
          holder = w.holder;
          last = w.last;
        }

    pub why-says : SaysNone b x line ⊎ ShowsPair b x line
    why-says = ⊎_elim (λ w. inl (none_said w)) (λ w. inr (pair-said w)) (why-promise reached x line listed)

    pub none-said-exactly : (why_of b x ≡ Ok None → NoneConfirmed b line) × (NoneConfirmed b line → why_of b x ≡ Ok None)
    none-said-exactly = let w = none-exactly reached x line listed in (λ e. w.0 (sym (why-is x) ∙ e), λ h. why-is x ∙ w.1 h)

  pub unknown-said-exactly : (x : Number) → (why_said (why_of b x) ≡ 12 → line_of rules (held b).lines x ≡ None) × (line_of rules (held b).lines x ≡ None → why_said (why_of b x) ≡ 12)
  unfolding why_in
  unknown-said-exactly x = go (line_of rules (held b).lines x) refl
    where
      never : (w : Why) → why_said (Ok (pair_of (held b).files w)) ≡ 12 → ⊥
      never Why.Nothing e = omega (arith, e)
      never (Why.Pair p q) e = omega (arith, e)

      go : (l : Option (TableLine Number)) → line_of rules (held b).lines x ≡ l → (why_said (why_of b x) ≡ 12 → l ≡ None) × (l ≡ None → why_said (why_of b x) ≡ 12)
      go None q = (λ e. refl, λ e. ap why_said (why-is x ∙ ap (why_on (held b).files) q))
      go (Some line) q = (
        λ e. absurd (never (entry_over standings (held b).files line).why (sym (ap why_said (why-is x ∙ ap (why_on (held b).files) q)) ∙ e)),
        λ e. absurd (let z : ◌≡◌ {A = ℕ} 0 1 = cc in omega arith),
      )

  -- ---- a record
  module _ (which : Journal) (place : ℕ) where
    pub record-said : (e : Event) → item_at (journal_of (kind_of which) (held b).files) place ≡ Some e → ShowsRecord b which place e
    unfolding asked_in
    record-said e q = record {
      answers = rw (in-use-reads, q);
      publisher = rw (in-use-reads, q);
      day = rw (in-use-reads, q);
      in-file = rw (in-use-reads, q);
      bytes = rw (in-use-reads, q) (part-is which place e q);
      verdict = rw (in-use-reads, q) (unfold verdict_of in verdict-promise (store_of (held b)) e);
    }

    pub beyond-said-exactly : (record_number (record_asked (reads b) which place) ≡ 7 → item_at (journal_of (kind_of which) (held b).files) place ≡ None)
        × (item_at (journal_of (kind_of which) (held b).files) place ≡ None → record_number (record_asked (reads b) which place) ≡ 7)
    unfolding asked_in
    beyond-said-exactly = (λ e. go (item_at (journal_of (kind_of which) (held b).files) place) refl e, λ q. rw (in-use-reads, q))
      where
        go : (o : Option Event) → item_at (journal_of (kind_of which) (held b).files) place ≡ o → record_number (record_asked (reads b) which place) ≡ 7 → o ≡ None
        go None q e = refl
        go (Some d) q e = absurd (omega (arith, sym (record-said d q).answers ∙ e))

  -- ---- as it stood before a file arrived
  pub before-said : {c : Buffers} → InUse c → (n : ℕ) → (held c).lines ≡ (held b).lines → (held c).files ≡ take n (held b).files → (x : Option Number) → before_asked (reads b) n x ≡ entry_asked (reads c) x
  before-said {c} v n lines files x = rw (in-use-reads, reads-some c (in-use-reached v).0) (go x)
    where
      go : (x : Option Number) → before_asked (Some (held b)) n x ≡ entry_asked (Some (held c)) x
      go None = refl
      go (Some x) = unfold entry_before entry_in in
          ap held_as ((λ i. option_map (entry_over rules (sym files i)) (line_of rules (sym lines i) x)) ∙ sym (entry-worked-afresh (in-use-reached v).1 x))

  -- ---- the figure
  pub figure-nought : figure_asked (reads b) ≡ Ok 0
  figure-nought = ap figure_asked in-use-reads ∙ ap Ok (figure-nothing reached)

  pub figure-counts : (entries : List ℕ) → is_readable (with_entries b entries) ≡ true
      → figure_asked (reads (with_entries b entries)) ≡ Ok (how_many (table (line_count b.table) (reads_otherwise entries b.entries)))
  unfolding held
  figure-counts entries other =
      ap figure_asked (reads-some (with_entries b entries) other)
      ∙ figure-promise (held (with_entries b entries)) reached refl refl
      ∙ ap (λ (l : List _). Ok (how_many l)) (zip-table unlike (line_count b.table) (entry_at b.entries) (entry_at entries))

-- ---- what one number depends on
pub depends : {b c : Buffers} → InUse b → InUse c → (x : Number) → line_of rules (held b).lines x ≡ line_of rules (held c).lines x
    → Perm (keep (about rules x) (journal (held b).files)) (keep (about rules x) (journal (held c).files)) → entry_asked (reads b) (Some x) ≡ entry_asked (reads c) (Some x)
depends u v x lines records = entry-is u x ∙ ap held_as (what-one-number-depends-on (in-use-reached u).1 (in-use-reached v).1 x lines records) ∙ sym (entry-is v x)
