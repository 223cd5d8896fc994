-- Working out: the fold over the sorted keys is the one over the history. Assumes nothing.
use mathlib.Core.Path.{◌≡◌, refl, sym, ap, ◌∙◌}
use mathlib.Core.List.{List, [], ◌++◌, map, foldl}
use Prim.Native.Nat.{ℕ, ◌≤◌, ◌<◌}
use lib.Dec.{leb}
use lib.ListN.{length, take, drop}
use Rattle.laws.specs.Lists.{table}
use Rattle.laws.specs.Order.{sorted}
use Rattle.laws.proofs.Order.{length-in_order}
use Rattle.laws.proofs.Rising.{take-sorted-any}
use Rattle.laws.proofs.Folds.{fold-map}
use Rattle.fields.specs.declared.number.Number.{Number}
use Rattle.entries.specs.declared.entry.Entry.{Entry}
use Rattle.entries.specs.declared.entry.Line.{Line}
use Rattle.verdict.specs.declared.step.Standing.{Standing}
use Rattle.verdict.specs.Step.{first_standing, stand_on, entry_after}
use Rattle.verdict.proofs.Laws.{entry-stands}
use Rattle.model.specs.Rules.{Event}
use Rattle.model.specs.Model.{Filed, Store, Reached, Later, history, before, worked, entry_over, entries_before}
use Rattle.store.specs.journals.Files.{file_at, records_of}
use Rattle.rules.specs.Rules.{rules, standings, record_of}
use Rattle.rules.proofs.Promises.{before-a-late-file, same-history, standing-entry}
use Rattle.store.specs.journals.Reads.{records_at, filed_in, first_files, read_files}
use Rattle.working.specs.Slips.{Slip, slip_at, key_of, keys_of}
use Rattle.working.specs.declared.work.Worked.{Worked}
use Rattle.working.specs.Working.{table_line, Sound, Gathered, stand_behind, folded_behind, WorkedAfresh, record_in, stand_before}
use Rattle.store.proofs.journals.FirstFiles.{first-of-all}
use Rattle.working.proofs.KeyLaws.{fold-keys, keys-count, bounded_at, fold-before}
use Rattle.working.proofs.GatherLaws.{ranged, room-all, in-turn}

-- ---- how many records name the number
module _ (n : ℕ) (files regular corrections : List ℕ) (number : Number) (sound : Sound n files regular corrections) where
  counted : length (keys_of (records_at regular corrections) number (file_at files) n) ≡ length (history rules (first_files n files regular corrections) number)
  unfolding first_files
  counted =
      keys-count regular corrections sound.regular_room sound.correction_room (file_at files) n (ranged n files regular corrections sound) sound.reports sound.objections number

  -- what gathering counts is the length of the history
  pub gathered-count : (keys : List ℕ) (r : ℕ) → Gathered n files regular corrections number keys r → r ≡ length (history rules (take n (read_files files regular corrections)) number)
  gathered-count keys r g =
      g.counted ∙ counted ∙ ap (λ (fs : List Filed). length (history rules fs number)) (first-of-all n files regular corrections sound.filed)

  -- which is at most as long as both journals
  pub history-few : length (history rules (take n (read_files files regular corrections)) number) ≤ 10240
  history-few =
      rw (← (counted ∙ ap (λ (fs : List Filed). length (history rules fs number)) (first-of-all n files regular corrections sound.filed)))
      (room-all n files regular corrections sound number (length (keys_of (records_at regular corrections) number (file_at files) n)) refl)

-- the entry of where a number stands is the one that is worked out
entry-along : (line : Line) (s : Standing) (es : List Event) → (foldl (λ (t : Standing) (e : Event). stand_on line t (record_of e)) s es).entry ≡ foldl (λ (t : Entry) (e : Event). entry_after line t (record_of e)) s.entry es
entry-along line s es =
    ap (λ (t : Standing). t.entry) (sym (fold-map (stand_on line) record_of s es)) ∙ entry-stands line s (map record_of es) ∙ fold-map (entry_after line) record_of s.entry es

-- ---- where it stands
module _ (n : ℕ) (files regular corrections : List ℕ) (number : Number) (line : Line) (sound : Sound n files regular corrections) where
  folded : foldl (stand_behind line regular corrections) (first_standing line) (sorted (keys_of (records_at regular corrections) number (file_at files) n)) ≡ entry_over standings (first_files n files regular corrections) (table_line number line)
  unfolding stand_behind entry_over first_files
  folded =
      fold-keys regular corrections sound.regular_room sound.correction_room (file_at files) n (ranged n files regular corrections sound) sound.reports sound.objections number
      (λ (t : Standing) (e : Event). stand_on line t (record_of e)) (first_standing line)
      ∙ ap (foldl (λ (t : Standing) (e : Event). stand_on line t (record_of e)) (first_standing line)) (sym (same-history (filed_in (records_at regular corrections) [] (table n (file_at files))) number))

  pub answer : (keys after : List ℕ) (r : ℕ) (w : Worked) → Gathered n files regular corrections number keys r → after ≡ sorted (take r keys) ++ drop r keys
      → w ≡ folded_behind line regular corrections (take r after) → WorkedAfresh n files regular corrections number line w.standing w.count
  answer keys after r w g e f =
      let read = first-of-all n files regular corrections sound.filed in
      let all = ap (take r) e ∙ take-sorted-any r keys ∙ ap sorted g.laid in
      let stands = ap (λ (x : Worked). x.standing) f
      ∙ ap (foldl (stand_behind line regular corrections) (first_standing line)) all
      ∙ folded
      ∙ ap (λ (fs : List Filed). entry_over standings fs (table_line number line)) read in record {
        stands = stands;
        entry = ap (λ (t : Standing). t.entry) stands ∙ standing-entry (take n (read_files files regular corrections)) (table_line number line);
        counted = ap (λ (x : Worked). x.count) f ∙ ap length all ∙ length-in_order leb (keys_of (records_at regular corrections) number (file_at files) n) ∙ sym g.counted
            ∙ gathered-count n files regular corrections number sound keys r g;
      }

  -- ---- those records that are processed before the one at a place of the file k
  module _ (k place : ℕ) (h : k < n) (b : place < (file_at files k).count) where
    -- that record
    abbrev mark : Slip
    mark = slip_at (records_at regular corrections) (file_at files k) (records_of (file_at files k).kind (table k (file_at files))) place

    folded-before : foldl (stand_before line regular corrections (key_of mark)) (first_standing line) (sorted (keys_of (records_at regular corrections) number (file_at files) n)) ≡ foldl (λ (t : Standing) (e : Event). stand_on line t (record_of e)) (first_standing line) (before rules (record_in files regular corrections k place) (history rules (first_files n files regular corrections) number))
    unfolding stand_before stand_behind first_files record_in
    folded-before =
        fold-before regular corrections sound.regular_room sound.correction_room (file_at files) n (ranged n files regular corrections sound) sound.reports sound.objections number mark
        (bounded_at regular corrections sound.regular_room sound.correction_room (file_at files) n (ranged n files regular corrections sound) sound.reports sound.objections k place h b
        (in-turn n files regular corrections sound k (file_at files k) (records_of (file_at files k).kind (table k (file_at files))) h refl refl).within)
        (λ (t : Standing) (e : Event). stand_on line t (record_of e)) (first_standing line)

    pub answer-before : (keys after : List ℕ) (r m : ℕ) (s : Standing) → Gathered n files regular corrections number keys r → after ≡ sorted (take r keys) ++ drop r keys → m ≡ key_of mark
        → s ≡ foldl (stand_before line regular corrections m) (first_standing line) (take r after)
        → s.entry ≡ worked rules (table_line number line) (before rules (record_in files regular corrections k place) (history rules (take n (read_files files regular corrections)) number))
    answer-before keys after r m s g e q f =
        let event = record_in files regular corrections k place in
        ap (λ (t : Standing). t.entry)
        (f ∙ ap (λ (j : ℕ). foldl (stand_before line regular corrections j) (first_standing line) (take r after)) q
        ∙ ap (foldl (stand_before line regular corrections (key_of mark)) (first_standing line)) (ap (take r) e ∙ take-sorted-any r keys ∙ ap sorted g.laid)
        ∙ folded-before)
        ∙ entry-along line (first_standing line) (before rules event (history rules (first_files n files regular corrections) number))
        ∙ ap (λ (fs : List Filed). worked rules (table_line number line) (before rules event (history rules fs number))) (first-of-all n files regular corrections sound.filed)

-- what is worked out over the first files is what the stored entries were when only these had arrived
pub worked-before : (files regular corrections : List ℕ) {s t : Store rules} → Reached rules s → Later rules s t → t.files ≡ read_files files regular corrections → map (entry_over rules (take (length s.files) (read_files files regular corrections))) t.lines ≡ s.entries
unfolding entries_before
worked-before files regular corrections {s} {t} r l e =
    ap (λ (fs : List Filed). map (entry_over rules (take (length s.files) fs)) t.lines) (sym e) ∙ before-a-late-file r l
