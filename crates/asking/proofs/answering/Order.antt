-- The two reports of a pair are processed in the order in which they are shown. Assumes nothing.
--     first-processed     the first one is processed before the second
use mathlib.Core.Path.{◌≡◌, refl, sym, ap, subst, ◌∙◌}
use mathlib.Core.Bool.{Bool, true, false, not, true≢false}
use mathlib.Core.List.Memᴰ
use mathlib.Core.List.{List, [], ◌∷◌, ◌++◌, Memᴰ}
use Rattle.laws.specs.Lists.{keep}
use Rattle.laws.specs.Order.{Ordered}
use Rattle.laws.proofs.Lists.{mem-keep}
use Rattle.laws.proofs.Order.{mem-in_order, in_order-ordered}
use Rattle.laws.proofs.ByKey.{by_key}
use Rattle.fields.specs.declared.code.Code.{Code}
use Rattle.fields.specs.declared.kind.Kind.{Kind}
use Rattle.fields.specs.declared.number.Number.{Number}
use Rattle.entries.specs.declared.report.Published.{Published}
use Rattle.entries.specs.declared.entry.Place.{Place}
use Rattle.entries.specs.Report.{meant_by}
use Rattle.verdict.specs.declared.step.Says.{Says}
use Rattle.verdict.specs.Sound.{Pairing, pairs}
use Rattle.verdict.specs.Step.{placed_as}
use Rattle.model.specs.Rules.{Event}
use Rattle.model.specs.Model.{Filed, journal, about, key, not_later, history}
use Rattle.model.proofs.Files.{Once, journal-decided}
use Rattle.rules.specs.Rules.{rules, record_of}
use Rattle.rules.proofs.Lawful.{lawful}
use Rattle.asking.specs.answering.Confirmed.{processed_before}
use Rattle.asking.proofs.answering.Roots.{Roots}

-- what stands before another in a list in order is not after it
ordered-before : {A : Type 0} (le : A → A → Bool) (l m : List A) (x y : A) → Ordered le (l ++ (y ∷ m)) → Memᴰ x l → le x y ≡ true
ordered-before le [] m x y o k = absurd (Memᴰ.not-nil k)
ordered-before le (z ∷ l) m x y o (Memᴰ.head e) = ap (λ w. le w y) e ∙ o.0 y (Memᴰ.append_right l (Memᴰ.head refl))
ordered-before le (z ∷ l) m x y o (Memᴰ.tail k) = ordered-before le l m x y o.1 k

-- ---- one record makes no pair: of the two reports one is a P, the other none
one-kind : (k : Kind) → pairs k k ≡ false
one-kind Kind.P = refl
one-kind Kind.L = refl
one-kind Kind.Z = refl

-- what a report says
abbrev said_in : Published → Says → Published
said_in other (Says.Reported p) = p
said_in other (Says.Objected o) = other
said_in other Says.Other = other

two_records : (owner : Code) (es : List Event) (a b : Place) (w : Roots owner es a b) → Pairing a b → w.first.event ≡ w.second.event → ⊥
two_records owner es a b w pairing same =
    let x = w.first in
    let y = w.second in
    let says : x.report ≡ y.report = ap (said_in x.report) (sym x.says ∙ ap (λ (e : Event). (record_of e).says) same ∙ y.says) in
    let places : a ≡ b = x.placed ∙ (λ k. placed_as (record_of (same k)) (meant_by owner (says k))) ∙ sym y.placed in
    true≢false (sym pairing.kinds ∙ ap (λ (p : Place). pairs a.report.kind p.report.kind) (sym places) ∙ one-kind a.report.kind)

module _ (files : List Filed) (once : Once files) (owner : Code) (number : Number) (a b : Place) (w : Roots owner (history rules files number) a b) (pairing : Pairing a b) where
  abbrev one : Event
  one = w.first.event

  abbrev other : Event
  other = w.second.event

  in-journal : (e : Event) → Memᴰ e (history rules files number) → Memᴰ e (journal files)
  unfolding history
  in-journal e m = mem-keep (about rules number) (journal files) (mem-in_order (not_later rules) (keep (about rules number) (journal files)) m)

  in_order_lem : Ordered (not_later rules) (history rules files number)
  unfolding history
  in_order_lem = in_order-ordered (not_later rules) (by_key (key rules)) (keep (about rules number) (journal files))

  not_after : not_later rules one other ≡ true
  not_after = ordered-before (not_later rules) w.apart.earlier w.apart.later one other (subst (Ordered (not_later rules)) w.apart.split in_order_lem) w.apart.among

  pub first-processed : processed_before one other ≡ true
  first-processed = go (not_later rules other one) refl
    where
      go : (t : Bool) → not_later rules other one ≡ t → not (not_later rules other one) ≡ true
      go false e = ap not e
      go true e = absurd (two_records owner (history rules files number) a b w pairing (journal-decided rules lawful files once one other (in-journal one w.first.member) (in-journal other w.second.member) not_after e))
