-- The look at why, put together from what the code found. Assumes nothing.
use Rattle.std.specs.Prelude.{Option, Some, None, Ok, Err}
use mathlib.Core.Path.{◌≡◌, sym, ap, ◌∙◌}
use mathlib.Core.Bool.{Bool, true, false, cond}
use mathlib.Core.List.{List}
use Prim.Native.Nat.{ℕ, ◌+◌, ◌*◌, ◌≤◌}
use native.Mathlib.Omega.{arith}
use lib.ListN.{length, take}
use lib.Seq.{take_all}
use Rattle.laws.specs.Lists.{table}
use Rattle.fields.specs.declared.number.Number.{Number}
use Rattle.verdict.specs.declared.step.Standing.{Standing}
use Rattle.model.specs.Rules.{TableLine}
use Rattle.model.specs.Model.{Filed, entry_over, line_of}
use Rattle.store.specs.journals.Files.{file_at, file_count}
use Rattle.store.specs.journals.Reads.{read_files}
use Rattle.rules.specs.Rules.{rules, standings}
use Rattle.store.specs.numbers.Lines.{line_at, line_count}
use Rattle.store.specs.numbers.Find.{found_line}
use Rattle.store.specs.Reads.{table_line}
use Rattle.asking.specs.declared.looks.NotSeen.{NotSeen}
use Rattle.asking.specs.declared.pairs.Pair.{Pair}
use Rattle.asking.specs.Showable.{is_showable}
use Rattle.asking.specs.Standing.{lines_in}
use Rattle.asking.specs.pairs.Pairs.{listed_pair}
use Rattle.asking.specs.Why.{pair_of, why_on, why_in}
use Rattle.asking.specs.Looks.{look_of, why_looked}
use Rattle.asking.proofs.Lines.{found-line, no_line}
use Rattle.asking.proofs.Showing.{showable}
use Rattle.asking.proofs.Standings.{length-first}
use Rattle.asking.proofs.Starts.{pair-files}

module _ (t f r c : List ℕ) (x : Number) where
  pub why_unshowable : is_showable t f r c ≡ false → Err NotSeen.Unshowable ≡ why_looked t f r c x
  unfolding why_looked
  why_unshowable e = rw e

  module _ (yes : is_showable t f r c ≡ true) where
    room : 2 + line_count t * 14 ≤ length t
    room = let s = showable t f r c yes in omega (arith, s.long-table, s.few-lines)

    pub why_unknown : None ≡ found_line t x → Err NotSeen.UnknownNumber ≡ why_looked t f r c x
    unfolding why_looked why_in
    why_unknown q = rw (yes, no_line t x room q)

    pub why_pair : (i n : ℕ) (s : Standing) (a : Option Pair) → Some i ≡ found_line t x → n ≡ file_count f → s ≡ entry_over standings (take n (read_files f r c)) (table_line (line_at t i))
        → a ≡ listed_pair (table n (file_at f)) s.why → Ok a ≡ why_looked t f r c x
    unfolding why_looked why_in
    why_pair i n s a q en es ea =
        let all : take n (read_files f r c) ≡ read_files f r c = take_all n (read_files f r c) (omega (arith, length-first (file_count f) f r c)) in
        let stands : s ≡ entry_over standings (read_files f r c) (table_line (line_at t i)) = es ∙ ap (λ (l : List Filed). entry_over standings l (table_line (line_at t i))) all in
        ap Ok
        (ea
        ∙ ap (λ (k : ℕ). listed_pair (table k (file_at f)) s.why) en
        ∙ pair-files (file_count f) f r c s.why
        ∙ ap (λ (u : Standing). pair_of (read_files f r c) u.why) stands)
        ∙ ap (λ (l : Option (TableLine Number)). look_of (why_on (read_files f r c) l)) (sym (found-line t x room i q))
        ∙ ap (λ (b : Bool). cond b (look_of (why_on (read_files f r c) (line_of rules (lines_in t) x))) (Err NotSeen.Unshowable)) (sym yes)
