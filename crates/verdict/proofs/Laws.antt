-- What holds all along a number's history, for whoever builds on the fold. `recs` are its records in processing order. Assumes nothing.
--     entry-stands                the entry of where a number stands is the one that is worked out
--     worked-on                   records after records: working out goes on from the entry reached
--     verdict-at                  the verdict of a record is given on the entry that those before it lead to
--     discarded-stays             a record that is discarded leaves the entry as it is (`StepLaws`)
--     last-never-falls            the last confirmed date never falls
--     tidy                        each entry has eight places, and no two open reports are equal;
--     eight-open-at-most, no-two-open-equal      what that says
--     explained                   the pair shown is why the holder and the last date are what they are;
--     pair-exactly-if-confirmed   there is one exactly if the last confirmed date is not none,
--     holder-owner-or-gained      and the holder is the owner, or the gaining network of the pair
use Rattle.calendar.specs.declared.dates.CalendarDays.{CalendarDays}
use Rattle.std.specs.Prelude.{Option, Some, None}
use mathlib.Core.Path.{◌≡◌, refl, sym, ap, ◌∙◌}
use mathlib.Core.Logic.{◌⊎◌, inl, inr}
use mathlib.Core.Bool.{true, false}
use mathlib.Core.List.{List, [], ◌∷◌, ◌++◌, foldl-append}
use Prim.Native.Nat.{ℕ, ◌≤◌, ◌<◌}
use native.Mathlib.Nat.{le_trans}
use native.Mathlib.Omega.{arith}
use lib.ListN.{length, get_or}
use Rattle.laws.specs.Lists.{keep}
use Rattle.laws.proofs.Lists.{keep-at-most}
use Rattle.verdict.specs.declared.verdicts.Verdict.{Verdict}
use Rattle.entries.specs.declared.entry.Place.{Place}
use Rattle.entries.specs.declared.entry.Entry.{Entry}
use Rattle.entries.specs.declared.entry.Line.{Line}
use Rattle.verdict.specs.declared.step.Record.{Record}
use Rattle.verdict.specs.declared.step.Why.{Why}
use Rattle.verdict.specs.declared.step.Why.TheVariants.{Nothing, Pair}
use Rattle.verdict.specs.declared.step.Standing.{Standing}
use Rattle.entries.specs.Entry.{place_count, free_place, first_entry}
use Rattle.entries.specs.places.Places.{holds_open, no_two_equal}
use Rattle.verdict.specs.Step.{verdict_on, entry_after, stand_on, first_standing, worked, verdicts, standing}
use Rattle.verdict.specs.Sound.{NotAfter, holder_by, last_by, Pairing, Tidy, Explained}
use Rattle.entries.proofs.places.PlaceLaws.{apart-at}
use Rattle.verdict.proofs.StepLaws.{not-after-refl, last-stays, tidy-stays, explained-stays}

-- ---- the fold
pub entry-stands : (line : Line) (s : Standing) (recs : List Record) → (standing line s recs).entry ≡ worked line s.entry recs
unfolding stand_on entry_after
entry-stands line s [] = refl
entry-stands line s (rec ∷ recs) = entry-stands line (stand_on line s rec) recs

pub worked-on : (line : Line) (e : Entry) (recs more : List Record) → worked line e (recs ++ more) ≡ worked line (worked line e recs) more
worked-on line e recs more = foldl-append (entry_after line) e recs more

pub verdict-at : (line : Line) (e : Entry) (recs : List Record) (rec : Record) (more : List Record) (other : Verdict) → get_or (verdicts line e (recs ++ (rec ∷ more))) (length recs) other ≡ verdict_on (Some line) (worked line e recs) rec
unfolding verdicts
verdict-at line e [] rec more other = refl
verdict-at line e (r ∷ recs) rec more other = verdict-at line (entry_after line e r) recs rec more other

-- ---- the last confirmed date
not-after-trans : (k l m : Option CalendarDays) → NotAfter k l → NotAfter l m → NotAfter k m
not-after-trans None l m p q = tt
not-after-trans (Some d) None m p q = absurd p
not-after-trans (Some d) (Some t) None p q = absurd q
not-after-trans (Some d) (Some t) (Some u) p q = le_trans p q

pub last-never-falls : (line : Line) (e : Entry) (recs : List Record) → NotAfter e.last (worked line e recs).last
last-never-falls line e [] = not-after-refl e.last
last-never-falls line e (rec ∷ recs) =
    not-after-trans e.last (entry_after line e rec).last (worked line (entry_after line e rec) recs).last (last-stays line e rec)
    (last-never-falls line (entry_after line e rec) recs)

-- ---- the places
pub tidy-first : (line : Line) → Tidy (first_entry line)
unfolding no_two_equal
tidy-first line = record { eight = refl; apart = refl }

pub tidy-along : (line : Line) (e : Entry) (recs : List Record) → Tidy e → Tidy (worked line e recs)
tidy-along line e [] h = h
tidy-along line e (rec ∷ recs) h = tidy-along line (entry_after line e rec) recs (tidy-stays line e rec h)

pub tidy : (line : Line) (recs : List Record) → Tidy (worked line (first_entry line) recs)
tidy line recs = tidy-along line (first_entry line) recs (tidy-first line)

pub eight-open-at-most : (e : Entry) → Tidy e → length (keep (λ (p : Place). p.taken) e.places) ≤ place_count
eight-open-at-most e h = omega (arith, keep-at-most (λ (p : Place). p.taken) e.places, h.eight)

pub no-two-open-equal : (e : Entry) → Tidy e → (i j : ℕ) → i < j → j < place_count → (get_or e.places i free_place).taken ≡ true → holds_open (get_or e.places i free_place).report.kind (get_or e.places i free_place).report (get_or e.places j free_place) ≡ false
no-two-open-equal e h i j p q t = apart-at e.places i j p (omega (arith, h.eight)) h.apart t

-- ---- the pair
pub explained-first : (line : Line) → Explained line (first_standing line)
explained-first line = record { holder = refl; last = refl; pair = tt }

pub explained-along : (line : Line) (s : Standing) (recs : List Record) → Explained line s → Explained line (standing line s recs)
explained-along line s [] h = h
explained-along line s (rec ∷ recs) h = explained-along line (stand_on line s rec) recs (explained-stays line s rec h)

pub explained : (line : Line) (recs : List Record) → Explained line (standing line (first_standing line) recs)
explained line recs = explained-along line (first_standing line) recs (explained-first line)

pub pair-exactly-if-confirmed : (line : Line) (s : Standing) → Explained line s → (s.why ≡ Nothing → s.entry.last ≡ None) × (s.entry.last ≡ None → s.why ≡ Nothing)
pair-exactly-if-confirmed line s h = (λ e. h.last ∙ ap last_by e, λ e. go s.why (sym h.last ∙ e))
  where
    go : (w : Why) → last_by w ≡ None → w ≡ Nothing
    go Nothing e = refl
    go (Pair a b) e = cc

-- the pair a and b is shown; the holder is its gaining network, the last confirmed date is its date
pub record Gained (s : Standing) : Type 0 where
  pub a : Place
  pub b : Place
  pub shown : s.why ≡ Pair a b
  pub pairing : Pairing a b
  pub holder : s.entry.holder ≡ b.report.gaining
  pub last : s.entry.last ≡ Some b.report.date

pub holder-owner-or-gained : (line : Line) (s : Standing) → Explained line s → ((s.entry.holder ≡ line.owner) × (s.why ≡ Nothing)) ⊎ Gained s
holder-owner-or-gained line s h = go s.why refl
  where
    go : (w : Why) → s.why ≡ w → ((s.entry.holder ≡ line.owner) × (s.why ≡ Nothing)) ⊎ Gained s
    go Nothing e = inl (h.holder ∙ ap (holder_by line.owner) e, e)
    go (Pair a b) e = inr (record {
      a = a;
      b = b;
      shown = e;
      pairing = rw e at h.pair;
      holder = h.holder ∙ ap (holder_by line.owner) e;
      last = h.last ∙ ap last_by e;
    })
