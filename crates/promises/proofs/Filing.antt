-- What answer 0 of filing leaves, from its contract alone. Assumes nothing.
use Rattle.std.specs.Prelude.{Result, Ok, Err}
use Rattle.files.specs.declared.judge.Fault.{Fault}
use Rattle.std.specs.Prelude.{Option, Some, None}
use mathlib.Core.Path.{◌≡◌, refl, sym, ap, subst, ◌∙◌}
use mathlib.Core.Bool.{Bool, true, false, cond, not, ◌||◌, false≢true}
use mathlib.Core.List.{List, [], ◌∷◌, ◌++◌, map}
use Prim.Native.Nat.{ℕ, zero, suc, ◌≤◌, ◌<◌}
use native.Mathlib.Omega.{arith}
use borrow.Author.Tests.{leb-true}
use lib.Dec.{leb}
use lib.ListN.{length, get_or, length-map}
use Rattle.laws.specs.Lists.{table, any, first_line}
use Rattle.laws.specs.Slots.{slot_at}
use Rattle.laws.proofs.Lists.{zip-at}
use Rattle.laws.proofs.Tables.{any-more, length-table, get_or-table, table-self, map-table}
use Rattle.calendar.specs.Dates.{in_calendar}
use Rattle.fields.specs.Code.{code_of}
use Rattle.fields.specs.Number.{same_number}
use Rattle.fields.specs.declared.code.Code.{Code}
use Rattle.fields.specs.declared.number.Number.{Number}
use Rattle.files.specs.Judged.{judged_file, records_of as texts_of}
use Rattle.entries.specs.declared.entry.Entry.{Entry}
use Rattle.model.specs.Rules.{TableLine}
use Rattle.model.specs.Model.{Filed, Store, alike, event_at, events, journal_of, about, named, entry_over, count_of, renewed, filed}
use Rattle.model.proofs.Files.{journal-own, journal-other}
use Rattle.rules.specs.Records.{number_in}
use Rattle.rules.specs.Rules.{rules}
use Rattle.store.specs.journals.Reads.{records_at}
use Rattle.store.specs.numbers.Lines.{line_count, line_at, lines_of}
use Rattle.store.specs.entry_slots.Entries.{entry_at}
use Rattle.store.specs.Reads.{Buffers, table_line, held, is_readable, reads}
use Rattle.store.proofs.Checks.{reads-some}
use Rattle.filing.specs.declared.entering.kind.Filable.{Filable}
use Rattle.filing.specs.declared.checking.answer.NotFiled.{NotFiled}
use Rattle.filing.specs.entering.Entering.{kind_number, file_kind, filed_as, entered, Enterable}
use Rattle.filing.specs.checking.Checks.{checked}
use Rattle.filing.specs.checking.Filing.{Decision, Refuse, Accept, within_limits, judged_to, new_to, published_to, decide, decision_of}
use Rattle.filing.specs.Effect.{renewed_in, filed_into, answer_to, buffers_after, Files, store_of}
use Rattle.filing.proofs.checking.Deciding.{decided, decided-unreadable, passed-enterable, refused-not-filed}
use Rattle.filing.proofs.entering.Entered.{entered-stays}
use Rattle.filing.proofs.Promises.{filed-reads, untouched-bytes}
use Rattle.capi.specs.Offer.{filable_by, day_for, answered, FilesAs}
use Rattle.promises.specs.Numbers.{filed_number, filed_count}
use Rattle.promises.specs.Filed.{is_no_code, is_fault, offered_as, filing_table, named_in, JoinedAndRenewed}

never : {A : Type 0} (a : NotFiled) (f : Filed) → Refuse a ≡ Accept f → A
never a f q = absurd (let z : ◌≡◌ {A = ℕ} 0 1 = cc in omega arith)

-- ---- the file that is accepted is the one offered, by a publisher that is a network code
module _ (files : List Filed) (kind : Filable) (day : ℕ) (text : List ℕ) (f : Filed) where
  room-accepts : (g : Filed) (t : Bool) → cond t (Accept g) (Refuse NotFiled.Full) ≡ Accept f → g ≡ f
  room-accepts g true q = cc
  room-accepts g false q = never NotFiled.Full f q

  text-accepts : (g : Filed) (j : Result ℕ Fault) → judged_to files g j ≡ Accept f → g ≡ f
  text-accepts g (Err fault) q = never (NotFiled.Fault fault.at fault.cause) f q
  text-accepts g (Ok m) q = room-accepts g (within_limits (files ++ (g ∷ []))) q

  new-accepts : (g : Filed) (j : Result ℕ Fault) (t : Bool) → cond t (Refuse NotFiled.FiledAlready) (judged_to files g j) ≡ Accept f → g ≡ f
  new-accepts g j true q = never NotFiled.FiledAlready f q
  new-accepts g j false q = text-accepts g j q

  day-accepts : (g : Filed) (j : Result ℕ Fault) (t : Bool) → cond t (new_to files g j) (Refuse NotFiled.NoDay) ≡ Accept f → g ≡ f
  unfolding new_to
  day-accepts g j true q = new-accepts g j (any (alike g) files) q
  day-accepts g j false q = never NotFiled.NoDay f q

  code-accepts : (r : Option Code) → published_to files kind r day text ≡ Accept f → (c : Code) × (r ≡ Some c) × (f ≡ filed_as kind c.0 day text)
  code-accepts None q = never NotFiled.NoCode f q
  code-accepts (Some c) q = (c, refl, sym (day-accepts (filed_as kind c.0 day text) (judged_file (file_kind kind) text) (in_calendar day) q))

offered-by : (b : Buffers) (kind : Filable) (publisher : List ℕ) (day : ℕ) (text : List ℕ) (f : Filed) → is_readable b ≡ true → decide b kind publisher day text ≡ Accept f
    → (c : Code) × (code_of publisher ≡ Some c) × (f ≡ filed_as kind c.0 day text)
unfolding decide
offered-by b kind publisher day text f whole q = code-accepts (held b).files kind day text f (code_of publisher) (rw whole at q)

-- ---- the answers are those of the paper's table
abbrev number_to : Decision → ℕ
number_to (Refuse a) = filed_number (Err a)
number_to (Accept f) = 0

module _ (files : List Filed) (kind : Filable) (day : ℕ) (text : List ℕ) where
  -- the lines from 5, 3 and 2 on
  room-line : (f : Filed) (t : Bool) → number_to (cond t (Accept f) (Refuse NotFiled.Full)) ≡ first_line ((not t, 5) ∷ []) 0
  room-line f true = refl
  room-line f false = refl

  text-line : (f : Filed) (j : Result ℕ Fault) → number_to (judged_to files f j) ≡ first_line ((is_fault j, 4) ∷ (not (within_limits (files ++ (f ∷ []))), 5) ∷ []) 0
  text-line f (Err fault) = refl
  text-line f (Ok m) = room-line f (within_limits (files ++ (f ∷ [])))

  new_line : (f : Filed) (j : Result ℕ Fault) (t : Bool)
      → number_to (cond t (Refuse NotFiled.FiledAlready) (judged_to files f j)) ≡ first_line ((t, 3) ∷ (is_fault j, 4) ∷ (not (within_limits (files ++ (f ∷ []))), 5) ∷ []) 0
  new_line f j true = refl
  new_line f j false = text-line f j

  day-line : (f : Filed) (j : Result ℕ Fault) (t : Bool)
      → number_to (cond t (new_to files f j) (Refuse NotFiled.NoDay)) ≡ first_line ((not t, 2) ∷ (any (alike f) files, 3) ∷ (is_fault j, 4) ∷ (not (within_limits (files ++ (f ∷ []))), 5) ∷ []) 0
  unfolding new_to
  day-line f j true = new_line f j (any (alike f) files)
  day-line f j false = refl

by-table : (b : Buffers) (kind : Filable) (publisher : List ℕ) (day : ℕ) (text : List ℕ) → number_to (decide b kind publisher day text) ≡ first_line (filing_table b kind publisher day text) 0
unfolding decide
by-table b kind publisher day text = go (is_readable b) (code_of publisher)
  where
    f : Option Code → Filed
    f r = offered_as kind r day text

    go : (t : Bool) (r : Option Code) → number_to (cond t (published_to (held b).files kind r day text) (Refuse NotFiled.Unreadable))
        ≡ first_line ((not t, 44) ∷ (is_no_code r, 1) ∷ (not (in_calendar day), 2) ∷ (any (alike (f r)) (held b).files, 3) ∷ (is_fault (judged_file (file_kind kind) text), 4) ∷ (not (within_limits ((held b).files ++ (f r ∷ []))), 5) ∷ []) 0
    go false r = refl
    go true None = refl
    go true (Some c) = day-line (held b).files kind day text (filed_as kind c.0 day text) (judged_file (file_kind kind) text) (in_calendar day)

number-answered : (files : List Filed) (d : Decision) → filed_number (answer_to files d) ≡ number_to d
number-answered files (Refuse a) = refl
number-answered files (Accept f) = refl

pub answers-by-table : {b after : Buffers} {kind : Filable} {publisher : List ℕ} {day : ℕ} {text : List ℕ} {answer : Result ℕ NotFiled} → Files b kind publisher day text answer after
    → filed_number answer ≡ first_line (filing_table b kind publisher day text) 0
answers-by-table {b} {after} {kind} {publisher} {day} {text} s = ap filed_number s.answers ∙ number-answered (held b).files (decide b kind publisher day text) ∙ by-table b kind publisher day text

-- ---- the numbers that the file names
any-tables : {A B : Type 0} (p : A → Bool) (q : B → Bool) (f : ℕ → A) (g : ℕ → B) → ((i : ℕ) → p (f i) ≡ q (g i)) → (n : ℕ) → any p (table n f) ≡ any q (table n g)
unfolding table any
any-tables p q f g same zero = refl
any-tables p q f g same (suc n) = any-more p (table n f) (f n) ∙ (λ i. any-tables p q f g same n i || same n i) ∙ sym (any-more q (table n g) (g n))

named-so : (kind : Filable) (c day : ℕ) (text : List ℕ) (x : Number) → named rules (filed_as kind c day text) x ≡ named_in kind text x
unfolding named about events filed_as
named-so kind c day text x =
    let l : List (List ℕ) = texts_of (file_kind kind) text in
    let names : List ℕ → Bool = λ (r : List ℕ). same_number (number_in (kind_number kind) r) x in
    any-tables (about rules x) names (event_at (filed_as kind c day text)) (λ (i : ℕ). get_or l i []) (λ i. refl) (length l)
    ∙ ap (any names) (table-self l [] (length l) refl)

-- ---- what answer 0 says was found
module _ {b after : Buffers} {kind : Filable} {publisher : List ℕ} {day : ℕ} {text : List ℕ} {n : ℕ} (s : Files b kind publisher day text (Ok n) after) where
  not-refused : (a : NotFiled) → decide b kind publisher day text ≡ Refuse a → Ok n ≡ Err a
  not-refused a d = s.answers ∙ ap (answer_to (held b).files) d

  found : (c : Code) × (m : ℕ) × Enterable b kind c.0 day text m × (decide b kind publisher day text ≡ Accept (filed_as kind c.0 day text))
  found = go (is_readable b) refl
    where
      judged : Result ℕ Fault
      judged = judged_file (file_kind kind) text

      passing : (h : is_readable b ≡ true) (k : Result (Code × ℕ) NotFiled) → checked b.files kind (code_of publisher) day judged ≡ k
          → (c : Code) × (m : ℕ) × Enterable b kind c.0 day text m × (decide b kind publisher day text ≡ Accept (filed_as kind c.0 day text))
      passing h (Err a) q = absurd (refused-not-filed b.files kind day (code_of publisher) judged a q n (sym (not-refused a (decided b h kind day text publisher ∙ ap (decision_of kind day text) q))))
      passing h (Ok (c, m)) q = (c, m, passed-enterable b h kind day text c m publisher q, decided b h kind day text publisher ∙ ap (decision_of kind day text) q)

      go : (t : Bool) → is_readable b ≡ t → (c : Code) × (m : ℕ) × Enterable b kind c.0 day text m × (decide b kind publisher day text ≡ Accept (filed_as kind c.0 day text))
      go true h = passing h (checked b.files kind (code_of publisher) day judged) refl
      go false h = absurd (let z = ap filed_number (not-refused NotFiled.Unreadable (decided-unreadable b kind publisher day text h)) in omega (arith, z))

  -- the file
  abbrev f : Filed
  f = filed_as kind found.0.0 day text

  can : Enterable b kind found.0.0 day text found.1
  can = found.2

  left : after ≡ filed_into f b
  left = s.leaves ∙ ap (buffers_after b) found.3

  now : (reads after ≡ Some (held after)) × (store_of (held after) ≡ filed rules (store_of (held b)) f)
  now = filed-reads s found.3

  one_more : (held after).files ≡ (held b).files ++ (f ∷ [])
  unfolding filed
  one_more = ap (λ (t : Store rules). t.files) now.1

  same-table : after.table ≡ b.table
  unfolding filed_into renewed_in entered
  same-table = ap (λ (x : Buffers). x.table) left

  kind-is : f.kind ≡ kind_number kind
  unfolding filed_as
  kind-is = refl

  counts : n ≡ count_of rules (held after).files f
  counts =
      let e : Ok n ≡ Ok (count_of rules ((held b).files ++ (f ∷ [])) f) = s.answers ∙ ap (answer_to (held b).files) found.3 in
      let same : n ≡ count_of rules ((held b).files ++ (f ∷ [])) f = cc in
      same ∙ ap (λ (l : List Filed). count_of rules l f) (sym one_more)

  -- the entry of the line k
  line-count : length (held b).lines ≡ line_count b.table
  unfolding held lines_of
  line-count = length-map (lines_of b.table) table_line ∙ length-table (line_count b.table) (line_at b.table)

  entry-count : length (held b).entries ≡ line_count b.table
  unfolding held
  entry-count = length-table (line_count b.table) (entry_at b.entries)

  entry-now : (k : ℕ) → k < line_count b.table → entry_at after.entries k ≡ renewed rules (held b).files f (table_line (line_at b.table k)) (entry_at b.entries k)
  unfolding filed held lines_of
  entry-now k h =
      let m : ℕ = line_count b.table in
      let d : Entry = entry_at after.entries k in
      let line : TableLine Number = table_line (line_at b.table k) in
      let count : line_count after.table ≡ m = ap line_count same-table in
      let lines : get_or (map table_line (table m (line_at b.table))) k line ≡ line = ap (λ (l : List (TableLine Number)). get_or l k line) (map-table table_line m (line_at b.table)) ∙ get_or-table m k (λ (j : ℕ). table_line (line_at b.table j)) line h in
      let entries : get_or (table m (entry_at b.entries)) k d ≡ entry_at b.entries k = get_or-table m k (entry_at b.entries) d h in
      sym (get_or-table (line_count after.table) k (entry_at after.entries) d (omega (arith, count)))
      ∙ ap (λ (t : Store rules). get_or t.entries k d) now.1
      ∙ zip-at (renewed rules (held b).files f) (held b).lines (held b).entries k line d d (omega (arith, line-count)) (omega (arith, entry-count))
      ∙ (λ i. renewed rules (held b).files f (lines i) (entries i))

  worked-afresh : (k : ℕ) → k < line_count b.table → named rules f (line_at b.table k).number ≡ true → entry_at after.entries k ≡ entry_over rules (held after).files (table_line (line_at b.table k))
  worked-afresh k h e =
      entry-now k h
      ∙ ap (λ (t : Bool). cond t (entry_over rules ((held b).files ++ (f ∷ [])) (table_line (line_at b.table k))) (entry_at b.entries k)) e
      ∙ ap (λ (l : List Filed). entry_over rules l (table_line (line_at b.table k))) (sym one_more)

  pub joined-and-renewed : JoinedAndRenewed b kind publisher day text n after
  unfolding filed_into renewed_in
  joined-and-renewed =
      let w = offered-by b kind publisher day text f can.readable found.3 in record {
        code = w.0;
        published = w.1;
        dated = can.date;
        filed = f;
        offered = w.2;
        read-before = reads-some b can.readable;
        read-after = now.0;
        same-table = same-table;
        one_more = one_more;
        joined = ap (journal_of (kind_number kind)) one_more ∙ journal-own (held b).files f (kind_number kind) kind-is;
        other = λ k apart. ap (journal_of k) one_more ∙ journal-other (held b).files f k (λ e. apart (sym kind-is ∙ e));
        kept = λ k i h. ap (λ (x : Buffers). records_at x.regular x.corrections k i) left ∙ entered-stays can k i h;
        counted = counts;
        renewed = λ k h e. worked-afresh k h (named-so kind found.0.0 day text (line_at b.table k).number ∙ e);
        untouched = λ k h e. ap (λ (x : Buffers). slot_at 0 100 x.entries k) left ∙ untouched-bytes can k h (named-so kind found.0.0 day text (line_at b.table k).number ∙ e);
      }

-- ---- for other languages
pub filed-c : {b after : Buffers} {kind : ℕ} {publisher : List ℕ} {day : ℕ} {text : List ℕ} {more field cause : ℕ} → FilesAs b kind publisher day text 0 more field cause after
    → Files b (filable_by kind) publisher (day_for kind day) text (Ok more) after
filed-c {b} {after} {kind} {publisher} {day} {text} {more} s = go (answered b kind publisher day text) refl
  where
    go : (a : Result ℕ NotFiled) → answered b kind publisher day text ≡ a → Files b (filable_by kind) publisher (day_for kind day) text (Ok more) after
    go (Ok n) e = record { answers = ap Ok (s.tells ∙ ap filed_count e) ∙ sym e; leaves = s.leaves }
    go (Err NotFiled.Unreadable) e = absurd (let z = s.answers ∙ ap filed_number e in omega (arith, z))
    go (Err NotFiled.NoCode) e = absurd (let z = s.answers ∙ ap filed_number e in omega (arith, z))
    go (Err NotFiled.NoDay) e = absurd (let z = s.answers ∙ ap filed_number e in omega (arith, z))
    go (Err NotFiled.FiledAlready) e = absurd (let z = s.answers ∙ ap filed_number e in omega (arith, z))
    go (Err (NotFiled.Fault place cause)) e = absurd (let z = s.answers ∙ ap filed_number e in omega (arith, z))
    go (Err NotFiled.Full) e = absurd (let z = s.answers ∙ ap filed_number e in omega (arith, z))

-- any other number than 0 and 1 is no kind that is filed
kind-told : (kind day : ℕ) → in_calendar (day_for kind day) ≡ true → (kind ≤ 1) × (day_for kind day ≡ day)
unfolding day_for
kind-told kind day e = go (leb kind 1) refl e
  where
    go : (t : Bool) → leb kind 1 ≡ t → in_calendar (cond t day 65535) ≡ true → (kind ≤ 1) × (cond t day 65535 ≡ day)
    go true q e = (leb-true kind 1 q, refl)
    go false q e = absurd (false≢true e)

pub joined-and-renewed-c : {b after : Buffers} {kind : ℕ} {publisher : List ℕ} {day : ℕ} {text : List ℕ} {more field cause : ℕ} → FilesAs b kind publisher day text 0 more field cause after
    → (kind ≤ 1) × JoinedAndRenewed b (filable_by kind) publisher day text more after
joined-and-renewed-c {b} {after} {kind} {publisher} {day} {text} {more} s =
    let w = joined-and-renewed (filed-c s) in
    let k = kind-told kind day w.dated in
    (k.0, subst (λ (d : ℕ). JoinedAndRenewed b (filable_by kind) publisher d text more after) k.1 w)
