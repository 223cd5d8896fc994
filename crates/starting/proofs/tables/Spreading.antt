-- The loop that lays the given lines out, turn by turn, and what it has laid out. Assumes nothing.
use Rattle.std.specs.Prelude.{Option, Some, None}
use mathlib.Core.Path.{◌≡◌, refl, sym, ap, ap₂, ◌∙◌}
use mathlib.Core.Bool.{Bool, true, false, ◌&&◌}
use mathlib.Core.List.{List, [], ◌∷◌, ◌++◌, map, flat_map, append_assoc, append-nil}
use Prim.Native.Nat.{ℕ, ◌+◌, ◌*◌, ◌≤◌, ◌<◌}
use native.Mathlib.Omega.{arith}
use lib.ListN.{length, take, drop, get_or, length-append, drop_of_length-le}
use lib.Seq.{length-take-le}
use borrow.Author.Tests.{lt-leb, le-leb}
use Rattle.laws.specs.Lists.{all, table, none_twice}
use Rattle.laws.specs.Overlay.{overlay, part}
use Rattle.laws.specs.Slots.{slot_at}
use Rattle.laws.specs.Split.{split, between, end_of}
use Rattle.laws.proofs.Lists.{flat_append}
use Rattle.laws.proofs.Overlay.{overlay-append, overlay-none, overlay-parts, part_same}
use Rattle.laws.proofs.Slots.{length-flat, slot-flat}
use Rattle.laws.proofs.Split.{split-some, ends_at, ends_more, ends_last, length-between}
use Rattle.laws.proofs.Tables.{all_more, all-at, table-cong, table-self, map-table}
use Rattle.fields.specs.Number.{same_number}
use Rattle.store.specs.numbers.Lines.{line_slot, line_of, line_at, number_at, good_line}
use Rattle.store.specs.declared.numbers.lines.Line.{Line}
use Rattle.store.proofs.numbers.Fitting.{good-roomy}
use Rattle.store.proofs.numbers.Reading.{length-line, line-back}
use Rattle.starting.specs.tables.Given.{line_given, with_line, lines_given, number_of_line, checked, table_of, Spread}
use Rattle.starting.proofs.tables.Reading.{line-good}

-- lines in front of lines, if there are any
abbrev pub joined : List Line → Option (List Line) → Option (List Line)
joined done (Some ls) = Some (done ++ ls)
joined done None = None

-- what has been laid out when the place `at` of the text is reached
pub record Turn (text before : List ℕ) (at n : ℕ) (after : List ℕ) : Type 0 where
  pub done : List Line
  pub inside : at ≤ length text
  pub left : lines_given (split 10 text) ≡ joined done (lines_given (split 10 (drop at text)))
  pub spread : Spread done before n after

joined-none : (o : Option (List Line)) → o ≡ joined [] o
joined-none (Some ls) = refl
joined-none None = refl

pub turn-start : (text before : List ℕ) → Turn text before 0 0 before
unfolding all flat_map
turn-start text before = record {
  done = [];
  inside = omega arith;
  left = joined-none (lines_given (split 10 text));
  spread = record { size = refl; few = omega arith; good = refl; bytes = overlay-none before 2 };
}

-- a piece in front of others is a line
in-front : (l : List ℕ) (rest : List (List ℕ)) → 1 ≤ length rest → lines_given (l ∷ rest) ≡ with_line (line_given l) (lines_given rest)
unfolding lines_given
in-front l [] h = absurd (omega arith)
in-front l (m ∷ more) h = refl

one_more : (done : List Line) (x : Line) (o : Option (List Line)) → joined done (with_line (Some x) o) ≡ joined (done ++ (x ∷ [])) o
one_more done x (Some ls) = ap Some (sym (append_assoc done (x ∷ []) ls))
one_more done x None = refl

not-empty : (l : List ℕ) → 1 ≤ length l → lines_given (l ∷ []) ≡ None
unfolding lines_given
not-empty [] h = absurd (omega arith)
not-empty (b ∷ bs) h = refl

too_many : (done : List Line) (r : Option Line) (o : Option (List Line)) → 1024 ≤ length done → checked (joined done (with_line r o)) ≡ None
unfolding checked
too_many done (Some x) (Some ls) h =
    rw (lt-leb (length (done ++ (x ∷ ls))) 1024 (omega (arith, length-append done (x ∷ ls))))
too_many done (Some x) None h = refl
too_many done None o h = refl

no_line_lem : (done : List Line) (o : Option (List Line)) → checked (joined done (with_line None o)) ≡ None
unfolding checked
no_line_lem done o = refl

module _ (text before : List ℕ) (at n : ℕ) (after : List ℕ) (t : Turn text before at n after) where
  pub turn-from : at ≤ end_of 10 text at
  turn-from = (ends_at 10 text at t.inside).from

  -- the line feeds are at an end, and something stands behind the last
  pub turn-open : at < length text → length text ≤ end_of 10 text at → table_of text ≡ None
  unfolding table_of checked
  turn-open h e =
      let ends = ends_at 10 text at t.inside in
      let some_bytes : 1 ≤ length (between text at (end_of 10 text at)) = omega (arith, length-between ends) in
      ap checked (t.left ∙ ap (joined t.done) (ap lines_given (ends_last ends e) ∙ not-empty (between text at (end_of 10 text at)) some_bytes))

  module _ (e : end_of 10 text at < length text) where
    line-next : lines_given (split 10 (drop at text)) ≡ with_line (line_given (between text at (end_of 10 text at))) (lines_given (split 10 (drop (end_of 10 text at + 1) text)))
    line-next =
        ap lines_given (ends_more (ends_at 10 text at t.inside) e)
        ∙ in-front (between text at (end_of 10 text at)) (split 10 (drop (end_of 10 text at + 1) text)) (split-some 10 (drop (end_of 10 text at + 1) text))

    pub turn_many : 1024 ≤ n → table_of text ≡ None
    unfolding table_of
    turn_many h =
        ap checked (t.left ∙ ap (joined t.done) line-next)
        ∙ too_many t.done (line_given (between text at (end_of 10 text at))) (lines_given (split 10 (drop (end_of 10 text at + 1) text))) (omega (arith, t.spread.size))

    pub turn-fault : line_given (between text at (end_of 10 text at)) ≡ None → table_of text ≡ None
    unfolding table_of
    turn-fault f =
        ap checked (t.left ∙ ap (joined t.done) (line-next ∙ ap (λ (r : Option Line). with_line r (lines_given (split 10 (drop (end_of 10 text at + 1) text)))) f))
        ∙ no_line_lem t.done (lines_given (split 10 (drop (end_of 10 text at + 1) text)))

    -- one line more
    pub turn-next : (x : Line) (next : List ℕ) → n < 1024 → line_given (between text at (end_of 10 text at)) ≡ Some x → next ≡ overlay after (2 + n * 14) (line_slot x)
        → Turn text before (end_of 10 text at + 1) (n + 1) next
    unfolding flat_map
    turn-next x next h p q = record {
      done = t.done ++ (x ∷ []);
      inside = omega arith;
      left =
          t.left
          ∙ ap (joined t.done) (line-next ∙ ap (λ (r : Option Line). with_line r (lines_given (split 10 (drop (end_of 10 text at + 1) text)))) p)
          ∙ one_more t.done x (lines_given (split 10 (drop (end_of 10 text at + 1) text)));
      spread = record {
        size = omega (arith, t.spread.size, length-append t.done (x ∷ []));
        few = omega arith;
        good = all_more good_line t.done x ∙ ap₂ (λ (b c : Bool). b && c) t.spread.good (line-good x (between text at (end_of 10 text at)) p);
        bytes = q ∙ laid_more;
      };
    }
      where
        laid_more : overlay after (2 + n * 14) (line_slot x) ≡ overlay before 2 (flat_map line_slot (t.done ++ (x ∷ [])))
        laid_more =
            let place : 2 + n * 14 ≡ 2 + length (flat_map line_slot t.done) = omega (arith, t.spread.size, length-flat 14 line_slot length-line t.done) in
            ap₂ (λ (b : List ℕ) (k : ℕ). overlay b k (line_slot x)) t.spread.bytes place
            ∙ sym (overlay-append before 2 (flat_map line_slot t.done) (line_slot x))
            ∙ ap (overlay before 2) (ap (λ (l : List ℕ). flat_map line_slot t.done ++ l) (sym (append-nil (line_slot x))) ∙ sym (flat_append line_slot t.done (x ∷ [])))

  -- all lines
  pub turn_end : length text ≤ at → (ls : List Line) × (lines_given (split 10 text) ≡ Some ls) × Spread ls before n after
  unfolding split lines_given
  turn_end h = (
    t.done,
    t.left ∙ ap (λ (s : List ℕ). joined t.done (lines_given (split 10 s))) (drop_of_length-le text h) ∙ ap Some (append-nil t.done),
    t.spread,
  )

-- ---- what was laid out is read
-- what `get_or` has past the end
abbrev pub no_line : Line
no_line = record { number = record { first = record { 0 = 0 }; last = record { 0 = 0 } }; owner = record { 0 = 0 }; setup = record { 0 = 0 } }

module _ (ls : List Line) (before : List ℕ) (n : ℕ) (after : List ℕ) (s : Spread ls before n after) (room : 14338 ≤ length before) where
  fits : 2 + length (flat_map line_slot ls) ≤ length before
  fits = omega (arith, s.size, s.few, length-flat 14 line_slot length-line ls)

  -- the bytes of the lines
  pub spread-part : part after 2 (n * 14) ≡ flat_map line_slot ls
  spread-part =
      ap (λ (b : List ℕ). part b 2 (n * 14)) s.bytes
      ∙ part_same before 2 (flat_map line_slot ls) (n * 14) fits (length-flat 14 line_slot length-line ls ∙ ap (λ (k : ℕ). k * 14) (sym s.size))

  line-laid : (i : ℕ) → i < length ls → line_at after i ≡ get_or ls i no_line
  unfolding line_at
  line-laid i h =
      let two : length (take 2 before) ≡ 2 = length-take-le 2 before (omega arith) in
      let rest : List ℕ = drop (2 + length (flat_map line_slot ls)) before in
      ap (λ (b : List ℕ). line_of (slot_at 2 14 b i)) (s.bytes ∙ overlay-parts before 2 (flat_map line_slot ls) fits ∙ append_assoc (take 2 before) (flat_map line_slot ls) rest)
      ∙ ap (λ (k : ℕ). line_of (slot_at k 14 (take 2 before ++ (flat_map line_slot ls ++ rest)) i)) (sym two)
      ∙ ap line_of (slot-flat 14 line_slot length-line (take 2 before) ls rest i no_line h)
      ∙ line-back (get_or ls i no_line) (good-roomy (get_or ls i no_line) (all-at good_line ls i no_line s.good h))

  -- the lines
  pub lines-laid : table n (line_at after) ≡ ls
  lines-laid =
      table-cong n (line_at after) (λ (i : ℕ). get_or ls i no_line) (λ i h. line-laid i (omega (arith, s.size)))
      ∙ table-self ls no_line n (sym s.size)

  -- and their numbers
  pub numbers-laid : table n (number_at after) ≡ map number_of_line ls
  unfolding number_at
  numbers-laid = sym (map-table number_of_line n (line_at after)) ∙ ap (map number_of_line) lines-laid

  module _ (text : List ℕ) (given : lines_given (split 10 text) ≡ Some ls) where
    pub judged-some : none_twice same_number (table n (number_at after)) ≡ true → table_of text ≡ Some ls
    unfolding table_of checked
    judged-some e =
        let once : none_twice same_number (map number_of_line ls) ≡ true = ap (none_twice same_number) (sym numbers-laid) ∙ e in
        rw (given, le-leb (length ls) 1024 (omega (arith, s.size, s.few)), once)

    pub judged-none : none_twice same_number (table n (number_at after)) ≡ false → table_of text ≡ None
    unfolding table_of checked
    judged-none e =
        let twice : none_twice same_number (map number_of_line ls) ≡ false = ap (none_twice same_number) (sym numbers-laid) ∙ e in
        rw (given, le-leb (length ls) 1024 (omega (arith, s.size, s.few)), twice)
