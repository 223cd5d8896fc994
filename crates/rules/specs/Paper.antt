-- Paper 01, "Days and reports worked through": all lines marked (p), days and reports alike, in one table under one claim. The days are those of
-- the calendar; the reports are files with their records' bytes as published, filed one after the other in the order in which they arrive into
-- a store whose table has the one number 3055501. Behind them the return that moved when 31 October 2017 came to the holiday list. Assumes
-- nothing: these are definitions.
use Rattle.std.specs.Prelude.{Option, Some, None}
use Rattle.std.specs.Prelude.{◌≡◌, true, false, ℕ, get_or}
use mathlib.Core.List.{List, [], ◌∷◌, ◌++◌, map, foldl}
use Rattle.laws.specs.Lists.{keep}
use Rattle.laws.specs.Split.{joined}
use Rattle.laws.specs.Digits.{digits}
use Rattle.calendar.specs.declared.dates.CalendarDays.{CalendarDays}
use Rattle.calendar.specs.declared.dates.Weekday.TheVariants.{Monday}
use Rattle.calendar.specs.Dates.{day_number}
use Rattle.calendar.specs.Holidays.{holidays, working}
use Rattle.calendar.specs.Former.{formerly_working}
use Rattle.calendar.specs.WorkingDays.{days_after, working_day_after}
use Rattle.calendar.specs.Answers.{day_of, weekday_of}
use Rattle.calendar.specs.Paper.{date, day}
use Rattle.fields.specs.declared.number.Number.{Number}
use Rattle.fields.specs.declared.kind.Kind.{Kind}
use Rattle.fields.specs.declared.kind.Kind.TheVariants.{P, L, Z}
use Rattle.entries.specs.declared.entry.Place.{Place}
use Rattle.entries.specs.declared.entry.Entry.{Entry}
use Rattle.entries.specs.Entry.{first_entry}
use Rattle.verdict.specs.report_tests.Tests.{return_period, not_yet}
use Rattle.verdict.specs.declared.step.Why.{Why}
use Rattle.verdict.specs.declared.step.Why.TheVariants.{Nothing, Pair}
use Rattle.model.specs.Rules.{TableLine}
use Rattle.model.specs.Model.{Filed, Store, journal, entry_over, started, filed, verdict_of}
use Rattle.rules.specs.Rules.{rules, standings, line_by}

-- ---- days

-- the k-th working day after a date
abbrev pub after_date : ℕ → ℕ → ℕ → ℕ → Option CalendarDays
after_date k y m d = working_day_after (day_number y m d) k

abbrev pub on_date : ℕ → ℕ → ℕ → Option CalendarDays
on_date y m d = Some (record { 0 = day_number y m d })

-- the last entry of a list
unfoldable pub last_of : List ℕ → ℕ
last_of [] = 0
last_of (x ∷ []) = x
last_of (x ∷ (y ∷ ys)) = last_of (y ∷ ys)

-- ---- the records' bytes

-- a network code: 'D' (68) and three digits
abbrev pub code : ℕ → List ℕ
code n = 68 ∷ digits 3 n

-- "3055501,,ddmmyyyy,GAINING,LOSING,STATUS": the date as the number ddmmyyyy, the status as its byte
abbrev pub report : ℕ → ℕ → ℕ → ℕ → List ℕ
report date losing gaining status = joined 44 (digits 7 3055501 ∷ [] ∷ digits 8 date ∷ code gaining ∷ code losing ∷ (status ∷ []) ∷ [])

-- "2500U:", a report, ",K:,,,,,"
abbrev pub objection : List ℕ → List ℕ
objection named = digits 4 2500 ++ (85 ∷ 58 ∷ (named ++ (44 ∷ 75 ∷ 58 ∷ 44 ∷ 44 ∷ 44 ∷ 44 ∷ 44 ∷ [])))

-- 'P' (80), 'L' (76) and 'Z' (90), with date, losing and gaining network
abbrev pub P12 : List ℕ
P12 = report 4032024 1 2 80

abbrev pub L12 : List ℕ
L12 = report 4032024 1 2 76

abbrev pub Z21 : List ℕ
Z21 = report 2042024 2 1 90

abbrev pub P21 : List ℕ
P21 = report 2042024 2 1 80

abbrev pub P23 : ℕ → List ℕ
P23 date = report date 2 3 80

-- the same in 2017: D001 to D002 dated 2017-03-06, and back dated 2017-10-24
abbrev pub P12in2017 : List ℕ
P12in2017 = report 6032017 1 2 80

abbrev pub L12in2017 : List ℕ
L12in2017 = report 6032017 1 2 76

abbrev pub Z21in2017 : List ℕ
Z21in2017 = report 24102017 2 1 90

abbrev pub P21in2017 : List ℕ
P21in2017 = report 24102017 2 1 80

-- ---- the files: each of one record, from its publisher, on a day. 2024-03-05 is day 9560, 03-06 is 9561, 04-03 is 9589, 04-09 is 9595, 04-10 is 9596;
-- 2017-03-06 is 7004, 03-07 is 7005, 10-24 is 7236, 10-25 is 7237, 11-01 is 7244, 11-02 is 7245
abbrev pub default : ℕ → ℕ → List ℕ → Filed
default from on bytes = record { kind = 0; publisher = from; day = on; records = bytes ∷ [] }

abbrev pub correction : ℕ → ℕ → List ℕ → Filed
correction from on bytes = record { kind = 1; publisher = from; day = on; records = bytes ∷ [] }

-- ---- the store that files lead to, filed in this order: owner D001, set up on a day
abbrev pub line : ℕ → TableLine Number
line day = record { number = record { first = record { 0 = 13055501 }; last = record { 0 = 1 } }; owner = 1; set_up = day }

abbrev pub store_of : ℕ → List Filed → Store rules
store_of set_up files = foldl (filed rules) (started rules (line set_up ∷ [])) files

-- what it then shows of the number: the verdict on each record, in order of arrival; holder and last confirmed date in the stored entry; the pair
pub record Shown : Type 0 where
  pub verdicts : List ℕ
  pub holder : ℕ
  pub last : Option CalendarDays
  pub why : Why

abbrev pub shown : List ℕ → ℕ → Option CalendarDays → Why → Shown
shown verdicts holder last why = record { verdicts = verdicts; holder = holder; last = last; why = why }

abbrev pub entry_in : ℕ → Store rules → Entry
entry_in set_up s = get_or s.entries 0 (first_entry (line_by (line set_up)))

abbrev pub shown_of : ℕ → List Filed → Shown
shown_of set_up files =
    shown
    (map (verdict_of rules (store_of set_up files)) (journal files))
    (entry_in set_up (store_of set_up files)).holder.0
    (entry_in set_up (store_of set_up files)).last
    (entry_over standings files (line set_up)).why

-- set up 2024-01-02, as the paper has it, and 2017-01-02
abbrev pub come_to : List Filed → Shown
come_to files = shown_of 9497 files

abbrev pub come_to_in2017 : List Filed → Shown
come_to_in2017 files = shown_of 6941 files

-- a date in the last confirmed date, and a report of a pair: its kind, date, losing and gaining network, and the day on which it was published
abbrev pub on : ℕ → CalendarDays
on n = record { 0 = n }

abbrev pub placed : Kind → ℕ → ℕ → ℕ → ℕ → Place
placed kind date losing gaining published = record {
  taken = true;
  report = record { kind = kind; date = on date; losing = record { 0 = losing }; gaining = record { 0 = gaining } };
  day = on published;
  at = 0;
}

abbrev pub pair12 : ℕ → ℕ → Why
pair12 first second = Pair (placed P 9559 1 2 first) (placed L 9559 1 2 second)

abbrev pub pair21 : ℕ → ℕ → Why
pair21 first second = Pair (placed Z 9588 2 1 first) (placed P 9588 2 1 second)

abbrev pub pair12in2017 : Why
pair12in2017 = Pair (placed P 7004 1 2 7005) (placed L 7004 1 2 7005)

abbrev pub pair21in2017 : Why
pair21in2017 = Pair (placed Z 7236 2 1 7237) (placed P 7236 2 1 7245)

-- P and L, D001 to D002, dated 2024-03-04, published on these days
abbrev pub ported : ℕ → ℕ → List Filed → List Filed
ported p l more = default 2 p P12 ∷ default 1 l L12 ∷ more

-- P and L dated 2017-03-06 and published 03-07, then Z dated 10-24 and published 10-25, then its P, published on this day
abbrev pub returned_in2017 : ℕ → List Filed
returned_in2017 p = default 2 7005 P12in2017 ∷ default 1 7005 L12in2017 ∷ default 2 7237 Z21in2017 ∷ default 1 p P21in2017 ∷ []

abbrev pub WorkedThrough : Type 0
WorkedThrough =
    -- 2000-02-29 is day 789; 2001-02-29 is a fault; 2024-03-04 is day 9559, a Monday; 2049-12-26 is day 18987, the last in the list
    (day_of (date 2000 2 29) ≡ day 789) ×
    (day_of (date 2001 2 29) ≡ None) ×
    (day_of (date 2024 3 4) ≡ day 9559) ×
    (weekday_of 9559 ≡ Monday) ×
    (day_of (date 2049 12 26) ≡ day 18987) ×
    (last_of holidays ≡ 18987) ×
    -- two working days after 2014-05-22, twenty after 2008-06-16, five after 2017-04-13, one after 2049-12-31
    (after_date 2 2014 5 22 ≡ on_date 2014 5 26) ×
    (after_date 20 2008 6 16 ≡ on_date 2008 7 14) ×
    (after_date 5 2017 4 13 ≡ on_date 2017 4 24) ×
    (after_date 1 2049 12 31 ≡ None) ×
    -- P and L, both published 03-05: P gets 10, L gets 11, holder D002
    (come_to (ported 9560 9560 []) ≡ shown (10 ∷ 11 ∷ []) 2 (Some (on 9559)) (pair12 9560 9560)) ×
    -- after that, published 03-06, P from D002 to D003 dated 03-04 gets 18, dated 03-03 gets 17, on its own porting date it gets 15
    (come_to (ported 9560 9560 (default 3 9561 (P23 4032024) ∷ [])) ≡ shown (10 ∷ 11 ∷ 18 ∷ []) 2 (Some (on 9559)) (pair12 9560 9560)) ×
    (come_to (ported 9560 9560 (default 3 9561 (P23 3032024) ∷ [])) ≡ shown (10 ∷ 11 ∷ 17 ∷ []) 2 (Some (on 9559)) (pair12 9560 9560)) ×
    (come_to (ported 9560 9560 (default 3 9561 (P23 6032024) ∷ [])) ≡ shown (10 ∷ 11 ∷ 15 ∷ []) 2 (Some (on 9559)) (pair12 9560 9560)) ×
    -- Z from D002 to D001 dated 2024-04-02, published 04-03: the P published 04-09 gets 21, published 04-10 it gets 11 and the holder is D001
    (come_to (ported 9560 9560 (default 2 9589 Z21 ∷ default 1 9595 P21 ∷ [])) ≡ shown (10 ∷ 11 ∷ 10 ∷ 21 ∷ []) 2 (Some (on 9559)) (pair12 9560 9560)) ×
    (come_to (ported 9560 9560 (default 2 9589 Z21 ∷ default 1 9596 P21 ∷ [])) ≡ shown (10 ∷ 11 ∷ 10 ∷ 11 ∷ []) 1 (Some (on 9588)) (pair21 9589 9596)) ×
    -- P published 03-05, L published 03-06: holder D002
    (come_to (ported 9560 9561 []) ≡ shown (10 ∷ 11 ∷ []) 2 (Some (on 9559)) (pair12 9560 9561)) ×
    -- then D001's objection 2500 against P, published 03-06, arrives last: it gets 30, L gets 10, the holder is D001 again, and no pair is shown
    (come_to (ported 9560 9561 (correction 1 9561 (objection P12) ∷ [])) ≡ shown (10 ∷ 10 ∷ 30 ∷ []) 1 None Nothing) ×
    -- the five working days after 2017-10-25: by the list without 31 October they were 10-26, 27, 30, 31 and 11-01, and now the fifth is 11-02
    (keep formerly_working (days_after 7237 7244) ≡ 7238 ∷ 7239 ∷ 7242 ∷ 7243 ∷ 7244 ∷ []) ×
    (keep working (days_after 7237 7245) ≡ 7238 ∷ 7239 ∷ 7242 ∷ 7244 ∷ 7245 ∷ []) ×
    (after_date 5 2017 10 25 ≡ on_date 2017 11 2) ×
    -- so the P published 11-01 did not come before the fifth working day after its Z, and was confirmed; now it does
    (not_yet (on 7244) (Some (on (last_of (keep formerly_working (days_after 7237 7244))))) ≡ false) ×
    (not_yet (on 7244) (working_day_after 7237 return_period) ≡ true) ×
    -- it gets 21 and the holder stays D002; published 11-02 it gets 11 and the holder is D001
    (come_to_in2017 (returned_in2017 7244) ≡ shown (10 ∷ 11 ∷ 10 ∷ 21 ∷ []) 2 (Some (on 7004)) pair12in2017) ×
    (come_to_in2017 (returned_in2017 7245) ≡ shown (10 ∷ 11 ∷ 10 ∷ 11 ∷ []) 1 (Some (on 7236)) pair21in2017)
