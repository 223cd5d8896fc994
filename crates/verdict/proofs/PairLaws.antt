-- The pair. Assumes nothing.
--     partner-pairs       the open report that a confirmed one makes a pair with matches it, and is of the other kind
use mathlib.Core.Path.{◌≡◌, refl, sym, ap}
use mathlib.Core.Bool.{Bool, true, false, cond, ◌||◌, true≢false}
use mathlib.Core.List.{List}
use Prim.Native.Nat.{ℕ}
use lib.ListN.{get_or}
use Rattle.fields.specs.declared.kind.Kind.{Kind}
use Rattle.fields.specs.declared.kind.Kind.TheVariants.{P, L, Z}
use Rattle.entries.specs.declared.report.Report.{Report}
use Rattle.entries.specs.declared.entry.Place.{Place}
use Rattle.entries.specs.Report.{by_kind, matches}
use Rattle.entries.specs.Entry.{place_count, free_place}
use Rattle.entries.specs.places.Places.{is_open, place_of}
use Rattle.entries.proofs.places.PlaceLaws.{found}
use Rattle.verdict.specs.report_tests.Tests.{partner_open, zed_open}
use Rattle.verdict.specs.effects.Reports.{partner_at}
use Rattle.verdict.specs.Sound.{pairs}

pub partner-pairs : (r : Report) (ps : List Place) → (partner_open r ps || zed_open r ps) ≡ true → (pairs (get_or ps (partner_at r ps) free_place).report.kind r.kind ≡ true) × (matches (get_or ps (partner_at r ps) free_place).report r ≡ true)
partner-pairs r ps h = go r.kind h
  where
    at : ℕ → Report
    at i = (get_or ps i free_place).report

    Good : ℕ → Kind → Type 0
    Good i k = (pairs (at i).kind k ≡ true) × (matches (at i) r ≡ true)

    l : is_open L r ps ≡ true → Good (place_of L r ps) P
    l e = let f = found L r ps e in (ap (λ j. pairs j P) f.0, f.1)

    z : is_open Z r ps ≡ true → Good (place_of Z r ps) P
    z e = let f = found Z r ps e in (ap (λ j. pairs j P) f.0, f.1)

    p : is_open P r ps ≡ true → Good (place_of P r ps) L
    p e = let f = found P r ps e in (ap (λ j. pairs j L) f.0, f.1)

    choose : (t : Bool) → is_open L r ps ≡ t → (t || is_open Z r ps) ≡ true → Good (cond t (place_of L r ps) (place_of Z r ps)) P
    choose true e h = l e
    choose false e f = z f

    either : (b : Bool) → (b || false) ≡ true → b ≡ true
    either true e = refl
    either false e = e

    go : (k : Kind) → (by_kind k (is_open L r ps) (is_open P r ps) false || by_kind k (is_open Z r ps) false false) ≡ true → Good (by_kind k (cond (is_open L r ps) (place_of L r ps) (place_of Z r ps)) (place_of P r ps) place_count) k
    go P h = choose (is_open L r ps) refl h
    go L h = p (either (is_open P r ps) h)
    go Z h = absurd (true≢false (sym h))
