-- The promises of the paper about the store, each a citation of the model's theorem for the real rules. Assumes nothing.
--     entries-worked-afresh, entry-worked-afresh   demand 3: in every store that is reached, each entry equals the one worked out afresh from the journals
--     other-numbers-untouched                      a number that no record of the file names keeps its entry
--     what-one-number-depends-on                   its own line, and the records that name it with publisher, publication day and place in file
--     before-a-late-file, there-was-a-time         what the first n files lead to is what the entries were when only these had arrived
--     arrival-plays-no-part                        the order in which the files arrived plays no part
--     count-is-what-is-folded                      the count of answer 0 is that of the records that working out goes through
--     same-history, standing-entry                 where a number stands, with the pair that confirmed last, has the store's entry
--     unknown-number                               a record whose number is not in the table gets 12, whatever it says
use Rattle.std.specs.Option.{option_map}
use Rattle.std.specs.Prelude.{None}
use mathlib.Core.Path.{◌≡◌, refl, ap, ◌∙◌}
use mathlib.Core.Bool.{false}
use mathlib.Core.List.{List, [], ◌∷◌, map, foldl, Perm}
use Prim.Native.Nat.{ℕ, ◌≤◌}
use lib.ListN.{length}
use Rattle.laws.specs.Lists.{keep, total}
use Rattle.laws.specs.Order.{in_order}
use Rattle.laws.proofs.Lists.{keep_same}
use Rattle.fields.specs.declared.number.Number.{Number}
use Rattle.entries.specs.declared.entry.Entry.{Entry}
use Rattle.entries.specs.declared.entry.Line.{Line}
use Rattle.entries.specs.Entry.{first_entry}
use Rattle.verdict.specs.declared.step.Standing.{Standing}
use Rattle.verdict.specs.declared.step.Says.{Says}
use Rattle.verdict.specs.declared.step.Says.TheVariants.{Reported, Objected, Other}
use Rattle.verdict.specs.verdicts.Numbers.{number_of}
use Rattle.verdict.specs.Step.{verdict_by, verdict_on, entry_after, first_standing, stand_on}
use Rattle.model.specs.Rules.{TableLine, Event}
use Rattle.model.specs.Model.{Filed, Store, Reached, Later, journal, about, not_later, named, history, entry_over, filed, entry_of, line_of, entries_before, count_of, numbers_of}
use Rattle.model.proofs.Stores.{Agree, entries-worked, entry-worked, entry-untouched, number-depends, entries-before, was, any_order}
use Rattle.model.proofs.Counts.{count-histories}
use Rattle.rules.specs.Records.{says_in}
use Rattle.rules.specs.Rules.{rules, standings, record_of, line_by}
use Rattle.rules.proofs.Lawful.{lawful}

-- demand 3
pub entries-worked-afresh : {s : Store rules} → Reached rules s → s.entries ≡ map (entry_over rules s.files) s.lines
entries-worked-afresh r = entries-worked rules r

pub entry-worked-afresh : {s : Store rules} → Reached rules s → (n : Number) → entry_of rules s.lines s.entries n ≡ option_map (entry_over rules s.files) (line_of rules s.lines n)
entry-worked-afresh r = entry-worked rules r

pub other-numbers-untouched : (s : Store rules) (f : Filed) (n : Number) → named rules f n ≡ false → entry_of rules (filed rules s f).lines (filed rules s f).entries n ≡ entry_of rules s.lines s.entries n
other-numbers-untouched = entry-untouched rules lawful

pub what-one-number-depends-on : {s t : Store rules} → Reached rules s → Reached rules t → (n : Number) → line_of rules s.lines n ≡ line_of rules t.lines n → Perm (keep (about rules n) (journal s.files)) (keep (about rules n) (journal t.files)) → entry_of rules s.lines s.entries n ≡ entry_of rules t.lines t.entries n
what-one-number-depends-on r q = number-depends rules lawful r q

pub before-a-late-file : {s t : Store rules} → Reached rules s → Later rules s t → entries_before rules t (length s.files) ≡ s.entries
before-a-late-file r l = entries-before rules r l

pub there-was-a-time : {t : Store rules} → Reached rules t → (n : ℕ) → n ≤ length t.files → (s : Store rules) × Reached rules s × Later rules s t × (length s.files ≡ n)
there-was-a-time r = was rules r

pub arrival-plays-no-part : {s t : Store rules} → Reached rules s → Reached rules t → s.lines ≡ t.lines → Perm s.files t.files → Agree s t
arrival-plays-no-part r q = any_order rules lawful r q

pub count-is-what-is-folded : (files : List Filed) (f : Filed) → count_of rules files f ≡ total (λ (n : Number). length (history rules files n)) (numbers_of rules f)
count-is-what-is-folded = count-histories rules lawful

-- ---- where a number stands, worked out by the same rules: its entry is the store's, and the records are the same
pub same-history : (files : List Filed) (n : Number) → history standings files n ≡ history rules files n
unfolding history about
same-history files n = ap (in_order (not_later rules)) (keep_same (about standings n) (about rules n) (journal files) (λ e m. refl))

stand-entry : (line : Line) (s : Standing) (es : List Event) → (foldl (λ (t : Standing) (e : Event). stand_on line t (record_of e)) s es).entry ≡ foldl (λ (t : Entry) (e : Event). entry_after line t (record_of e)) s.entry es
unfolding stand_on entry_after
stand-entry line s [] = refl
stand-entry line s (e ∷ es) = stand-entry line (stand_on line s (record_of e)) es

pub standing-entry : (files : List Filed) (line : TableLine Number) → (entry_over standings files line).entry ≡ entry_over rules files line
unfolding entry_over
standing-entry files line =
    stand-entry (line_by line) (first_standing (line_by line)) (history standings files line.number)
    ∙ ap (foldl (λ (t : Entry) (e : Event). entry_after (line_by line) t (record_of e)) (first_entry (line_by line))) (same-history files line.number)

-- 12 is what the verdicts themselves give where the number has no line, on any entry
pub unknown-number : (entry : Entry) (e : Event) → number_of (verdict_on None entry (record_of e)) ≡ rules.unknown e
unknown-number entry e = go (says_in e.kind e.bytes)
  where
    go : (says : Says) → number_of (verdict_by None entry (record { 0 = e.publisher }) (record { 0 = e.day }) says) ≡ 12
    go (Reported p) = refl
    go (Objected o) = refl
    go Other = refl
