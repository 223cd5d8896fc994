-- What is promised of the answers, in every store reached from a start. Assumes nothing.
--     why-promise            a pair that is shown is that of the last record that was confirmed; both reports are stored at the places shown, the one
--                            processed first coming first, and match; the
--                            holder is their gaining network. Where none is shown, no record of the number was confirmed, and the holder is the owner
--     none-exactly           none is said exactly if no pair has been confirmed
--     verdict-promise        the verdict shown is the model's, at the record's own point of the history
--     figure-promise         whatever was written over the entries, the figure is the number of those that were changed
--     figure-of-changes, figure-nothing, changed-at (`Figures`), part-bytes, record-promise (`Parts`)
use Rattle.std.specs.Option.{option_map}
use Rattle.std.specs.Prelude.{Option, Some, None, Result, Ok}
use mathlib.Core.Path.{◌≡◌, refl, sym, ap, subst, ◌∙◌}
use mathlib.Core.Logic.{◌⊎◌, inl, inr, ⊎_elim}
use mathlib.Core.Bool.{true, false, not, true≢false}
use mathlib.Core.List.{List, [], ◌∷◌, ◌++◌}
use Prim.Native.Nat.{ℕ}
use native.Mathlib.Omega.{arith}
use borrow.Author.Tests.{not-true}
use Rattle.laws.proofs.Tests.{and_left, and_right}
use Rattle.fields.specs.declared.number.Number.{Number}
use Rattle.entries.specs.declared.entry.Place.{Place}
use Rattle.entries.specs.declared.entry.Entry.{Entry}
use Rattle.entries.specs.declared.entry.Line.{Line}
use Rattle.entries.specs.Entry.{first_entry}
use Rattle.verdict.specs.declared.step.Why.{Why}
use Rattle.verdict.specs.declared.step.Standing.{Standing}
use Rattle.verdict.specs.verdicts.Numbers.{number_of}
use Rattle.verdict.specs.Sound.{Explained, Pairing, holder_by, last_by}
use Rattle.verdict.specs.Step.{stand_on, entry_after, first_standing}
use Rattle.verdict.proofs.StepLaws.{explained-stays}
use Rattle.verdict.proofs.Laws.{explained-first}
use Rattle.model.specs.Rules.{TableLine, Event}
use Rattle.model.specs.Model.{Filed, Store, Reached, history, journal_of, entry_over, line_of, entry_of, judged, verdict_of}
use Rattle.model.specs.Model as model
use Rattle.model.proofs.Stores.{reached-once}
use Rattle.rules.specs.Rules.{rules, standings, record_of, line_by}
use Rattle.rules.proofs.Promises.{entry-worked-afresh, same-history, standing-entry}
use Rattle.asking.specs.declared.answer.NotShown.{NotShown}
use Rattle.asking.specs.declared.pairs.Pair.{Pair}
use Rattle.asking.specs.Items.{item_at}
use Rattle.asking.specs.Why.{stored_as, pair_of, why_on, why_in}
use Rattle.asking.specs.Record.{point_verdict, asked_as}
use Rattle.store.specs.Reads.{Held}
use Rattle.asking.specs.answering.Confirmed.{processed_before, confirms, none_confirms}
use Rattle.asking.specs.answering.Figure.{figure_of, figure_asked}
use Rattle.asking.proofs.answering.Figures.{changes, figure-of-changes}
use Rattle.asking.proofs.answering.Latest.{standing, Latest, latest, pair_made}
use Rattle.asking.proofs.answering.Roots.{Root, Rooted, RootedPair, rooted-along, rooted-first}
use Rattle.asking.proofs.answering.Order.{first-processed}
use Rattle.asking.proofs.answering.Stored.{stored-root}

-- the records of a line's number in processing order
abbrev pub records_on : Store rules → TableLine Number → List Event
records_on s line = history rules s.files line.number

-- a pair is shown
pub record PairShown (s : Store rules) (number : Number) (line : TableLine Number) : Type 0 where
  pub first : Place
  pub second : Place
  pub shown : why_in s.lines s.files number ≡ Ok (Some (record { first = stored_as s.files first; second = stored_as s.files second }))
  -- it is the pair of the last record of the history that was confirmed
  pub last-confirmed : Latest (line_by line) (first_standing (line_by line)) (records_on s line)
  pub its-pair : (stand_on (line_by line) (standing (line_by line) (first_standing (line_by line)) last-confirmed.earlier) (record_of last-confirmed.event)).why ≡ Why.Pair first second
  -- both are reports of the history, published by the network that has to, and stored at the places shown
  pub first-record : Root (line_by line).owner (records_on s line) first
  pub second-record : Root (line_by line).owner (records_on s line) second
  pub first-stored : item_at (journal_of 0 s.files) (stored_as s.files first).place ≡ Some first-record.event
  pub second-stored : item_at (journal_of 0 s.files) (stored_as s.files second).place ≡ Some second-record.event
  -- the report processed first comes first
  pub in_order : processed_before first-record.event second-record.event ≡ true
  -- they match
  pub pairing : Pairing first second
  -- and the stored entry has their gaining network as holder, and their date
  pub entry : Entry
  pub held : entry_of rules s.lines s.entries number ≡ Some entry
  pub holder : entry.holder ≡ second.report.gaining
  pub last : entry.last ≡ Some second.report.date

-- none is shown
pub record NoneShown (s : Store rules) (number : Number) (line : TableLine Number) : Type 0 where
  pub shown : why_in s.lines s.files number ≡ Ok None
  pub none-confirmed : none_confirms (line_by line) (first_entry (line_by line)) (records_on s line) ≡ true
  pub entry : Entry
  pub held : entry_of rules s.lines s.entries number ≡ Some entry
  pub holder : entry.holder ≡ (line_by line).owner
  pub last : entry.last ≡ None

-- ---- where a line stands, over its records
explained-events : (line : Line) (s : Standing) (es : List Event) → Explained line s → Explained line (standing line s es)
explained-events line s [] h = h
explained-events line s (e ∷ es) h = explained-events line (stand_on line s (record_of e)) es (explained-stays line s (record_of e) h)

stands-over : (files : List Filed) (line : TableLine Number) → entry_over standings files line ≡ standing (line_by line) (first_standing (line_by line)) (history rules files line.number)
unfolding entry_over
stands-over files line = ap (standing (line_by line) (first_standing (line_by line))) (same-history files line.number)

none-at : (line : Line) (s : Standing) (l : List Event) (e : Event) (m : List Event) → none_confirms line s.entry (l ++ (e ∷ m)) ≡ true → confirms line (standing line s l).entry e ≡ false
unfolding none_confirms stand_on entry_after
none-at line s [] e m h = not-true _ (and_left (not (confirms line s.entry e)) (none_confirms line (entry_after line s.entry (record_of e)) m) h)
none-at line s (x ∷ l) e m h = none-at line (stand_on line s (record_of x)) l e m (and_right (not (confirms line s.entry x)) (none_confirms line (entry_after line s.entry (record_of x)) (l ++ (e ∷ m))) h)

module _ {s : Store rules} (reached : Reached rules s) (number : Number) (line : TableLine Number) (listed : line_of rules s.lines number ≡ Some line) where
  abbrev own : Line
  own = line_by line

  abbrev es : List Event
  es = records_on s line

  abbrev stand : Standing
  stand = standing own (first_standing own) es

  shows : (w : Why) → stand.why ≡ w → why_in s.lines s.files number ≡ Ok (pair_of s.files w)
  unfolding why_in
  shows w e = ap (why_on s.files) listed ∙ ap (λ (v : Why). Ok (pair_of s.files v)) (ap (λ (t : Standing). t.why) (stands-over s.files line) ∙ e)

  abbrev worked : Entry
  worked = entry_over rules s.files line

  held-worked : entry_of rules s.lines s.entries number ≡ Some worked
  held-worked = entry-worked-afresh reached number ∙ ap (option_map (entry_over rules s.files)) listed

  worked-stands : worked ≡ stand.entry
  worked-stands = sym (standing-entry s.files line) ∙ ap (λ (t : Standing). t.entry) (stands-over s.files line)

  explained : Explained own stand
  explained = explained-events own (first_standing own) es (explained-first own)

  rooted : Rooted own.owner es stand
  rooted = rooted-along own [] es (first_standing own) (explained-first own) (rooted-first own)

  no-pair : stand.why ≡ Why.Nothing → NoneShown s number line
  no-pair e = record {
    shown = shows Why.Nothing e;
    none-confirmed =
        ⊎_elim (λ w. w.0) (λ w. absurd (pair_made own (standing own (first_standing own) w.earlier) w.event w.confirmed (sym w.why ∙ e)))
        (latest own (first_standing own) es);
    entry = worked;
    held = held-worked;
    holder = ap (λ (x : Entry). x.holder) worked-stands ∙ explained.holder ∙ ap (holder_by own.owner) e;
    last = ap (λ (x : Entry). x.last) worked-stands ∙ explained.last ∙ ap last_by e;
  }

  confirmed : (a b : Place) → stand.why ≡ Why.Pair a b → Latest own (first_standing own) es
  confirmed a b e = ⊎_elim (λ w. absurd (apart (sym e ∙ w.1))) (λ w. w) (latest own (first_standing own) es)
    where
      apart : Why.Pair a b ≡ Why.Nothing → ⊥
      apart q = let z : ◌≡◌ {A = ℕ} 0 1 = cc in absurd (omega arith)

  a_pair : (a b : Place) → stand.why ≡ Why.Pair a b → PairShown s number line
  a_pair a b e =
      let roots : RootedPair own.owner es (Why.Pair a b) = subst (RootedPair own.owner es) e rooted.pair in record {
        first = a;
        second = b;
        shown = shows (Why.Pair a b) e;
        last-confirmed = confirmed a b e;
        its-pair = sym (confirmed a b e).why ∙ e;
        first-record = roots.first;
        second-record = roots.second;
        first-stored = stored-root s.files (reached-once rules reached) own.owner line.number a roots.first;
        second-stored = stored-root s.files (reached-once rules reached) own.owner line.number b roots.second;
        in_order = first-processed s.files (reached-once rules reached) own.owner line.number a b roots (rw e at explained.pair);
        pairing = rw e at explained.pair;
        entry = worked;
        held = held-worked;
        holder = ap (λ (x : Entry). x.holder) worked-stands ∙ explained.holder ∙ ap (holder_by own.owner) e;
        last = ap (λ (x : Entry). x.last) worked-stands ∙ explained.last ∙ ap last_by e;
      }

  pub why-promise : NoneShown s number line ⊎ PairShown s number line
  why-promise = go stand.why refl
    where
      go : (w : Why) → stand.why ≡ w → NoneShown s number line ⊎ PairShown s number line
      go Why.Nothing e = inl (no-pair e)
      go (Why.Pair a b) e = inr (a_pair a b e)

  pub none-exactly : (why_in s.lines s.files number ≡ Ok None → none_confirms own (first_entry own) es ≡ true) × (none_confirms own (first_entry own) es ≡ true → why_in s.lines s.files number ≡ Ok None)
  none-exactly = (
    (λ e. ⊎_elim (λ w. w.none-confirmed) (λ w. absurd (apart (record { first = stored_as s.files w.first; second = stored_as s.files w.second }) (sym w.shown ∙ e))) why-promise),
    (λ h. ⊎_elim (λ w. w.shown) (λ w. absurd (true≢false (sym w.last-confirmed.confirmed ∙ none-at own (first_standing own) w.last-confirmed.earlier w.last-confirmed.event w.last-confirmed.later
        (ap (none_confirms own (first_entry own)) (sym w.last-confirmed.split) ∙ h)))) why-promise),
  )
    where
      apart : (p : Pair) → ◌≡◌ {A = Result (Option Pair) NotShown} (Ok (Some p)) (Ok None) → ⊥
      apart p q = let z : ◌≡◌ {A = ℕ} 0 1 = cc in absurd (omega arith)

-- ---- verdicts
verdict-by : (files : List Filed) (e : Event) (l : Option (TableLine Number)) → number_of (point_verdict files e (record_of e) l) ≡ judged rules files e l
unfolding judged
verdict-by files e None = refl
verdict-by files e (Some line) = unfold model.verdict_over in refl

pub verdict-promise : (s : Store rules) (e : Event) → number_of (asked_as s.lines s.files e).verdict ≡ verdict_of rules s e
unfolding verdict_of
verdict-promise s e = verdict-by s.files e (line_of rules s.lines (model.number_of rules e))

-- ---- the figure of buffers whose table and files are those of a reached store, whatever was written over the entries
pub figure-promise : (h : Held) {s : Store rules} → Reached rules s → h.lines ≡ s.lines → h.files ≡ s.files → figure_asked (Some h) ≡ Ok (changes s.entries h.entries)
figure-promise h {s} r el ef = ap Ok ((λ j. figure_of (el j) (ef j) h.entries) ∙ figure-of-changes r h.entries)
