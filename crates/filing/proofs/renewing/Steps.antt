-- What the callees' contracts say, put together: a line, a number, a record of the file. Assumes nothing.
use mathlib.Core.Path.{◌≡◌, sym, ap, ◌∙◌}
use mathlib.Core.Bool.{true, false}
use mathlib.Core.List.{List}
use Prim.Native.Nat.{ℕ, ◌+◌, ◌*◌, ◌≤◌, ◌<◌}
use native.Mathlib.Omega.{arith}
use lib.ListN.{length, take}
use Rattle.laws.specs.Lists.{table, first_at}
use Rattle.laws.specs.Overlay.{overlay}
use Rattle.fields.specs.declared.number.Number.{Number}
use Rattle.fields.specs.Number.{same_number}
use Rattle.entries.specs.declared.entry.Entry.{Entry}
use Rattle.verdict.specs.declared.step.Standing.{Standing}
use Rattle.model.specs.Model.{Filed, history, entry_over}
use Rattle.store.specs.journals.Files.{file_count}
use Rattle.store.specs.journals.Reads.{read_files}
use Rattle.store.specs.numbers.Lines.{line_count, line_at, number_at}
use Rattle.store.specs.declared.numbers.lines.Line.{Line}
use Rattle.store.specs.entry_slots.Entries.{entry_slot}
use Rattle.rules.specs.Rules.{rules}
use Rattle.store.specs.Reads.{table_line}
use Rattle.working.specs.Working.{WorkedAfresh}
use Rattle.working.proofs.WorkLaws.{history-few}
use Rattle.filing.specs.renewing.Turns.{number_from, named_to, new_at, count_to, Workable, LineRenewed, NumberRenewed, RecordRenewed}
use Rattle.filing.proofs.renewing.LastFile.{all-files}
use Rattle.filing.proofs.renewing.Stages.{not_new, new-same, count-stays, count-grows}
use Rattle.filing.proofs.renewing.Writing.{line-renewed, number-counted, redone-none, redone-same}

module _ (lines files regular corrections : List ℕ) where
  -- the line k
  pub line-worked : (before after : List ℕ) (n k : ℕ) (l : Line) (s : Standing) (r : ℕ) → n ≡ file_count files → l ≡ line_at lines k
      → WorkedAfresh n files regular corrections l.number (record { owner = l.owner; setup = l.setup }) s r → after ≡ overlay before (k * 100) (entry_slot s.entry)
      → LineRenewed (read_files files regular corrections) lines before after k r
  unfolding number_at
  line-worked before after n k l s r en el w e =
      let all = read_files files regular corrections in
      let read = all-files files regular corrections n en in record {
        written =
            e
            ∙ ap (λ (x : Entry). overlay before (k * 100) (entry_slot x))
            (w.entry ∙ (λ i. entry_over rules (read i) (table_line (el i))));
        counted = w.counted ∙ (λ i. length (history rules (read i) (el i).number));
      }

  module _ (entries : List ℕ) (m : ℕ) (able : Workable m lines files regular corrections entries) (number : Number) (n k : ℕ) (en : n ≡ line_count lines)
      (ek : k ≡ first_at (same_number number) (table n (number_at lines))) where
    -- a number that has a line
    pub with-line : (after : List ℕ) (r : ℕ) → k < n → LineRenewed (read_files files regular corrections) lines entries after k r
        → NumberRenewed (read_files files regular corrections) number lines entries after r
    with-line after r h w =
        line-renewed (read_files files regular corrections) lines number entries after (omega (arith, able.few_lines, able.entry_room)) able.once k (rw en at ek) (rw en at h) r w

    -- and one that has none
    pub without-line : (r : ℕ) → n ≤ k → r ≡ length (history rules (take m (read_files files regular corrections)) number)
        → NumberRenewed (read_files files regular corrections) number lines entries entries r
    without-line r h er =
        number-counted (read_files files regular corrections) lines number entries k r (rw en at ek) (rw en at h)
        (er ∙ ap (λ (fs : List Filed). length (history rules fs number)) (all-files files regular corrections m able.counted))

  -- ---- the record at j of the file f
  module _ (entries : List ℕ) (m : ℕ) (able : Workable m lines files regular corrections entries) (f : Filed) (j : ℕ) (number : Number) (e : number ≡ number_from f j) where
    pub seen-before : true ≡ named_to f j number → RecordRenewed (read_files files regular corrections) f j lines entries entries 0
    seen-before s =
        let seen : named_to f j (number_from f j) ≡ true = ap (named_to f j) (sym e) ∙ sym s in record {
          redone = redone-none (read_files files regular corrections) lines (new_at f j) entries (λ k h. not_new f j seen (number_at lines k));
          counted = count-stays f j (read_files files regular corrections) seen;
          few = omega arith;
        }

    pub seen_first : (after : List ℕ) (r : ℕ) → false ≡ named_to f j number → NumberRenewed (read_files files regular corrections) number lines entries after r
        → RecordRenewed (read_files files regular corrections) f j lines entries after r
    seen_first after r s w =
        let all = read_files files regular corrections in
        let new : named_to f j (number_from f j) ≡ false = ap (named_to f j) (sym e) ∙ sym s in
        let count : r ≡ length (history rules all (number_from f j)) = w.counted ∙ ap (λ (n : Number). length (history rules all n)) e in record {
          redone = redone-same all lines (same_number number) (new_at f j) (λ n. ap (λ (x : Number). same_number x n) e ∙ new-same f j new n) w.redone;
          counted = count-grows f j all new ∙ ap (λ (n : ℕ). count_to all f j + n) (sym count);
          few =
              omega (
                arith,
                w.counted,
                ap (λ (fs : List Filed). length (history rules fs number)) (all-files files regular corrections m able.counted),
                history-few m files regular corrections number able.sound,
              );
        }
