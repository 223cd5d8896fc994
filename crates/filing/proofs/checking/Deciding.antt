-- The checks over the list of files come to what `decide` says of the store. Assumes nothing.
--     decided             what they come to stands for the store's decision
--     decided-unreadable  where the buffers don't read as a store, that is 44
--     passed-enterable    a file that passes may be entered
--     refused-number      a refusal behind 44 is one of 1 to 5; so it is never the answer of a file that was filed (refused-not-filed)
use Rattle.std.specs.Prelude.{Result, Ok, Err}
use Rattle.files.specs.declared.judge.Fault.{Fault}
use Rattle.std.specs.Prelude.{Option, Some, None}
use mathlib.Core.Path.{◌≡◌, refl, sym, ap, ◌∙◌}
use mathlib.Core.Bool.{Bool, true, false, cond, ◌&&◌, ◌||◌}
use mathlib.Core.List.{List, [], ◌∷◌, ◌++◌}
use Prim.Native.Nat.{ℕ, ◌+◌, ◌≤◌, ◌<◌}
use native.Mathlib.Omega.{arith}
use lib.Dec.{ltb, leb}
use borrow.Author.Tests.{ltb-true, leb-true}
use Rattle.laws.specs.Lists.{any}
use Rattle.laws.proofs.Tests.{and_left, and_right}
use Rattle.calendar.specs.Dates.{in_calendar}
use Rattle.fields.specs.Code.{code_of}
use Rattle.fields.specs.declared.code.Code.{Code}
use Rattle.fields.proofs.CodeLaws.{code-back}
use Rattle.files.specs.Judged.{judged_file}
use Rattle.model.specs.Model.{Filed, alike}
use Rattle.store.specs.journals.Files.{file_count, files_of, same_file, records_of}
use Rattle.store.specs.declared.journals.files.File.{File}
use Rattle.store.specs.Reads.{Buffers, held, is_readable}
use Rattle.filing.specs.declared.entering.kind.Filable.{Filable}
use Rattle.filing.specs.entering.Entering.{kind_number, file_kind, most, filed_as, file_in, Enterable}
use Rattle.filing.specs.declared.checking.answer.NotFiled.{NotFiled}
use Rattle.filing.specs.checking.Answers.{answer_number}
use Rattle.filing.specs.checking.Checks.{has_room, room_checked, text_checked, sought, day_checked, checked}
use Rattle.filing.specs.checking.Filing.{within_limits, Decision, judged_to, new_to, published_to, decide, decision_of}
use Rattle.filing.specs.checking.Filing.Decision.{Refuse, Accept}
use Rattle.filing.proofs.checking.Stored.{already-alike}
use Rattle.filing.proofs.checking.Limits.{room-limits}

-- the file that is looked for and the file that is filed: neither's count of records is looked at
sought-same : (kind : Filable) (publisher day : ℕ) (text : List ℕ) (fs : List File)
    → any (same_file (sought kind publisher day)) fs ≡ any (same_file (file_in (filed_as kind publisher day text))) fs
unfolding any same_file file_in filed_as
sought-same kind publisher day text [] = refl
sought-same kind publisher day text (f ∷ fs) = ap (λ (t : Bool). same_file (sought kind publisher day) f || t) (sought-same kind publisher day text fs)

module _ (b : Buffers) (e : is_readable b ≡ true) (kind : Filable) (day : ℕ) (text : List ℕ) where
  -- ---- what the checks come to is what is decided
  module _ (c : Code) where
    abbrev file : Filed
    file = filed_as kind c.0 day text

    room-decided : (s t : Bool) (m : ℕ) → s ≡ t → cond s (Accept file) (Refuse NotFiled.Full) ≡ decision_of kind day text (room_checked t c m)
    room-decided true t m q = rw (← q)
    room-decided false t m q = rw (← q)

    text-decided : (j : Result ℕ Fault) → judged_file (file_kind kind) text ≡ j → judged_to (held b).files file j ≡ decision_of kind day text (text_checked (has_room b.files kind) c j)
    text-decided (Err fault) q = refl
    text-decided (Ok m) q = room-decided (within_limits ((held b).files ++ (file ∷ []))) (has_room b.files kind m) m (room-limits b e c.0 day text m kind q)

    alike-decided : any (alike file) (held b).files ≡ any (same_file (sought kind c.0 day)) (files_of b.files)
    unfolding held
    alike-decided = already-alike file b.files b.regular b.corrections ∙ sym (sought-same kind c.0 day text (files_of b.files))

    new-decided : (s t : Bool) → s ≡ t → (u : Result (Code × ℕ) NotFiled) (d : Decision) → d ≡ decision_of kind day text u
        → cond s (Refuse NotFiled.FiledAlready) d ≡ decision_of kind day text (cond t (Err NotFiled.FiledAlready) u)
    new-decided true t q u d p = rw (← q)
    new-decided false t q u d p = rw (← q) p

    day-decided : (t : Bool) (u : Result (Code × ℕ) NotFiled) (d : Decision) → d ≡ decision_of kind day text u
        → cond t d (Refuse NotFiled.NoDay) ≡ decision_of kind day text (cond t u (Err NotFiled.NoDay))
    day-decided true u d p = p
    day-decided false u d p = refl

  published-decided : (r : Option Code) → published_to (held b).files kind r day text ≡ decision_of kind day text (checked b.files kind r day (judged_file (file_kind kind) text))
  unfolding day_checked new_to
  published-decided None = refl
  published-decided (Some c) =
      let j : Result ℕ Fault = judged_file (file_kind kind) text in
      let rest : Result (Code × ℕ) NotFiled = text_checked (has_room b.files kind) c j in
      let there : Bool = any (same_file (sought kind c.0 day)) (files_of b.files) in
      day-decided c (in_calendar day) (cond there (Err NotFiled.FiledAlready) rest) (new_to (held b).files (file c) j)
      (new-decided c (any (alike (file c)) (held b).files) there (alike-decided c) rest (judged_to (held b).files (file c) j) (text-decided c j refl))

  -- this is what the checks come to where the buffers read as a store; else the answer is 44 (`decided-unreadable`)
  pub decided : (publisher : List ℕ) → decide b kind publisher day text ≡ decision_of kind day text (checked b.files kind (code_of publisher) day (judged_file (file_kind kind) text))
  unfolding decide
  decided publisher = rw e (published-decided (code_of publisher))

  -- ---- a file that passes may be entered
  module _ (c : Code) (m : ℕ) where
    -- an answer that refuses is none that passes
    never : {A : Type 0} (a : NotFiled) → ◌≡◌ {A = Result (Code × ℕ) NotFiled} (Err a) (Ok (c, m)) → A
    never a q = absurd (let z : ◌≡◌ {A = ℕ} 0 1 = cc in omega arith)

    -- what the checks have found out on the way
    record Found (r : Option Code) (j : Result ℕ Fault) : Type 0 where
      pub code : r ≡ Some c
      pub date : in_calendar day ≡ true
      pub new : any (same_file (sought kind c.0 day)) (files_of b.files) ≡ false
      pub records : j ≡ Ok m
      pub room : has_room b.files kind m ≡ true

    room-found : (d : Code) (n : ℕ) (t : Bool) → room_checked t d n ≡ Ok (c, m) → (t ≡ true) × (d ≡ c) × (n ≡ m)
    room-found d n true q = let e : ◌≡◌ {A = Code × ℕ} (d, n) (c, m) = cc in (refl, ap (λ (x : Code × ℕ). x.0) e, ap (λ (x : Code × ℕ). x.1) e)
    room-found d n false q = never NotFiled.Full q

    text-found : (d : Code) (j : Result ℕ Fault) → text_checked (has_room b.files kind) d j ≡ Ok (c, m) → (d ≡ c) × (j ≡ Ok m) × (has_room b.files kind m ≡ true)
    text-found d (Err fault) q = never (NotFiled.Fault fault.at fault.cause) q
    text-found d (Ok n) q = let w = room-found d n (has_room b.files kind n) q in (w.1, ap Ok w.2, rw w.2 at w.0)

    new-found : (t : Bool) (u : Result (Code × ℕ) NotFiled) → cond t (Err NotFiled.FiledAlready) u ≡ Ok (c, m) → (t ≡ false) × (u ≡ Ok (c, m))
    new-found true u q = never NotFiled.FiledAlready q
    new-found false u q = (refl, q)

    day-found : (t : Bool) (u : Result (Code × ℕ) NotFiled) → cond t u (Err NotFiled.NoDay) ≡ Ok (c, m) → (t ≡ true) × (u ≡ Ok (c, m))
    day-found true u q = (refl, q)
    day-found false u q = never NotFiled.NoDay q

    found : (r : Option Code) (j : Result ℕ Fault) → checked b.files kind r day j ≡ Ok (c, m) → Found r j
    unfolding day_checked
    found None j q = never NotFiled.NoCode q
    found (Some d) j q =
        let rest : Result (Code × ℕ) NotFiled = text_checked (has_room b.files kind) d j in
        let there : Bool = any (same_file (sought kind d.0 day)) (files_of b.files) in
        let w = day-found (in_calendar day) (cond there (Err NotFiled.FiledAlready) rest) q in
        let n = new-found there rest w.1 in
        let t = text-found d j n.1 in
        record {
          code = ap Some t.0;
          date = w.0;
          new = ap (λ (x : Code). any (same_file (sought kind x.0 day)) (files_of b.files)) (sym t.0) ∙ n.0;
          records = t.1;
          room = t.2;
        }

    pub passed-enterable : (publisher : List ℕ) → checked b.files kind (code_of publisher) day (judged_file (file_kind kind) text) ≡ Ok (c, m) → Enterable b kind c.0 day text m
    unfolding has_room
    passed-enterable publisher q =
        let w = found (code_of publisher) (judged_file (file_kind kind) text) q in
        let slot? : Bool = ltb (file_count b.files) 1024 in
        let room? : Bool = leb (records_of (kind_number kind) (files_of b.files) + m) (most kind) in
        record {
          readable = e;
          judged = w.records;
          code = leb-true c.0 999 (code-back publisher c w.code).1;
          date = w.date;
          new = sym (sought-same kind c.0 day text (files_of b.files)) ∙ w.new;
          slot = ltb-true (file_count b.files) 1024 (and_left slot? room? w.room);
          room = leb-true (records_of (kind_number kind) (files_of b.files) + m) (most kind) (and_right slot? room? w.room);
        }

pub decided-unreadable : (b : Buffers) (kind : Filable) (publisher : List ℕ) (day : ℕ) (text : List ℕ) → is_readable b ≡ false → decide b kind publisher day text ≡ Refuse NotFiled.Unreadable
unfolding decide
decided-unreadable b kind publisher day text e = rw e

-- ---- a refusal is a refusal
-- one of the paper's numbers 1 to 5
abbrev refuses : Result (Code × ℕ) NotFiled → Bool
refuses (Err a) = ltb 0 (answer_number (Err a)) && leb (answer_number (Err a)) 5
refuses (Ok (c, m)) = true

module _ (files : List ℕ) (kind : Filable) (day : ℕ) where
  refuses-cond : (t : Bool) (u v : Result (Code × ℕ) NotFiled) → refuses u ≡ true → refuses v ≡ true → refuses (cond t u v) ≡ true
  refuses-cond true u v p q = p
  refuses-cond false u v p q = q

  refuses-text : (c : Code) (j : Result ℕ Fault) → refuses (text_checked (has_room files kind) c j) ≡ true
  refuses-text c (Err fault) = refl
  refuses-text c (Ok m) = refuses-cond (has_room files kind m) (Ok (c, m)) (Err NotFiled.Full) refl refl

  refuses-all : (r : Option Code) (j : Result ℕ Fault) → refuses (checked files kind r day j) ≡ true
  unfolding day_checked
  refuses-all None j = refl
  refuses-all (Some c) j =
      let rest : Result (Code × ℕ) NotFiled = text_checked (has_room files kind) c j in
      let there : Bool = any (same_file (sought kind c.0 day)) (files_of files) in
      refuses-cond (in_calendar day) (cond there (Err NotFiled.FiledAlready) rest) (Err NotFiled.NoDay)
      (refuses-cond there (Err NotFiled.FiledAlready) rest refl (refuses-text c j)) refl

  pub refused-number : (r : Option Code) (j : Result ℕ Fault) (a : NotFiled) → checked files kind r day j ≡ Err a → (0 < answer_number (Err a)) × (answer_number (Err a) ≤ 5)
  refused-number r j a q =
      let n : ℕ = answer_number (Err a) in
      let w : (ltb 0 n && leb n 5) ≡ true = ap refuses (sym q) ∙ refuses-all r j in
      (ltb-true 0 n (and_left (ltb 0 n) (leb n 5) w), leb-true n 5 (and_right (ltb 0 n) (leb n 5) w))

  pub refused-not-filed : (r : Option Code) (j : Result ℕ Fault) (a : NotFiled) → checked files kind r day j ≡ Err a → (count : ℕ) → ◌≡◌ {A = Result ℕ NotFiled} (Err a) (Ok count) → ⊥
  refused-not-filed r j a q count p = let z : answer_number (Err a) ≡ 0 = ap answer_number p in omega (arith, (refused-number r j a q).0)
