-- What a number's group of the index holds of its records is all of them. Assumes nothing.
use mathlib.Core.Path.{◌≡◌, refl, sym, ap, subst, ◌∙◌}
use mathlib.Core.Logic.{⊎_elim}
use mathlib.Core.Bool.{Bool, true, false, ◌&&◌, ◌||◌, or-true}
use mathlib.Core.List.{List, [], ◌∷◌, ◌++◌, map, map-append, Memᴰ}
use Prim.Native.Nat.{ℕ, ◌+◌, ◌%◌, ◌<◌}
use native.Mathlib.Numerals.{add-one}
use native.Mathlib.Omega.{arith}
use borrow.Author.Tests.{eq-eqb}
use lib.Dec.{eqb}
use lib.ListN.{length, take, get_or, set, length-take}
use lib.Seq.{take-suc}
use Rattle.laws.specs.Lists.{table, keep}
use Rattle.laws.specs.Order.{sorted}
use Rattle.laws.proofs.Lists.{keep-end-yes, keep-end-no, keep-both, keep_same, keep-map, mem-keep}
use Rattle.order.specs.groups.Groups.{tag, group}
use Rattle.order.proofs.groups.Groups.{grouped}
use Rattle.fields.specs.declared.number.Number.{Number}
use Rattle.fields.specs.Number.{same_number}
use Rattle.fields.proofs.NumberLaws.{same_number_lem}
use Rattle.model.specs.Rules.{Event}
use Rattle.store.specs.journals.Files.{file_at}
use Rattle.store.specs.journals.Reads.{records_at}
use Rattle.rules.specs.Records.{number_in, first_in}
use Rattle.working.specs.Slips.{Slip, slips, about_slip, key_of, keys_of, event_behind}
use Rattle.working.specs.Working.{Sound, Behind, Gathered}
use Rattle.working.proofs.GatherLaws.{ranged}
use Rattle.working.proofs.KeyLaws.{behind, bounded}
use Rattle.working.proofs.SlipLaws.{kept}
use Rattle.working.specs.indexing.Index.{front, is_wanted, Wanted, may_name, candidate, listed, number_behind, front_behind, about_key, Indexed, keys_behind}
use Rattle.rules.proofs.First.{first-in}
use Rattle.working.proofs.indexing.Laying.{behind-none, behind_more}
use Rattle.working.proofs.indexing.Grouping.{sorted-again}

-- ---- the loop over a group
pub pick-none : (q : ℕ → Bool) (out : List ℕ) → Behind out 0 (keep q []) out 0
unfolding keep
pick-none q out = behind-none out 0

module _ (q : ℕ → Bool) (keys places : List ℕ) where
  abbrev chosen : ℕ → List ℕ
  chosen m = keep q (keys_behind keys (take m places))

  one_more : (i : ℕ) → i < length places → keys_behind keys (take (i + 1) places) ≡ keys_behind keys (take i places) ++ (get_or keys (get_or places i 0 % 16384) 0 ∷ [])
  one_more i h =
      ap (λ (j : ℕ). keys_behind keys (take j places)) (add-one i) ∙ ap (keys_behind keys) (take-suc places i 0 h)
      ∙ map-append (λ (g : ℕ). get_or keys (g % 16384) 0) (take i places) (get_or places i 0 ∷ [])

  module _ (out₀ out : List ℕ) (k i v : ℕ) (inv : Behind out₀ 0 (chosen i) out k) (h : i < length places) (e : v ≡ get_or keys (get_or places i 0 % 16384) 0) where
    pub pick_yes : k < length out → q v ≡ true → Behind out₀ 0 (chosen (i + 1)) (set out k v) (k + 1)
    pick_yes b t =
        subst (λ (l : List ℕ). Behind out₀ 0 l (set out k v) (k + 1))
        (sym (ap (keep q) (one_more i h ∙ ap (λ (x : ℕ). keys_behind keys (take i places) ++ (x ∷ [])) (sym e)) ∙ keep-end-yes q (keys_behind keys (take i places)) v t))
        (behind_more v b inv)

    pub pick_no : q v ≡ false → Behind out₀ 0 (chosen (i + 1)) out k
    pick_no t =
        subst (λ (l : List ℕ). Behind out₀ 0 l out k)
        (sym (ap (keep q) (one_more i h ∙ ap (λ (x : ℕ). keys_behind keys (take i places) ++ (x ∷ [])) (sym e)) ∙ keep-end-no q (keys_behind keys (take i places)) v t))
        inv

-- ---- the places of an index are in order
pub places-ordered : (n : ℕ) (files regular corrections wanted keys places : List ℕ) (c : ℕ) → Indexed n files regular corrections wanted keys places c → Wanted places c
places-ordered n files regular corrections wanted keys places c x = record {
  few = x.few;
  ordered =
      ap sorted x.grouped ∙ sorted-again (table (length (take c keys)) (λ (i : ℕ). tag (front_behind regular corrections (get_or (take c keys) i 0)) i)) ∙ sym x.grouped;
}

-- ---- the records of a number
and-implied : (s t : Bool) → (s ≡ true → t ≡ true) → (s && t) ≡ s
and-implied true t h = h refl
and-implied false t h = refl

module _ (n : ℕ) (files regular corrections wanted keys places : List ℕ) (c : ℕ) (sound : Sound n files regular corrections)
    (x : Indexed n files regular corrections wanted keys places c) (number : Number) where
  abbrev r : ℕ → ℕ → List ℕ
  r = records_at regular corrections

  about-behind : (s : Slip) → Memᴰ s (slips r (file_at files) n) → about_slip r number s ≡ about_key regular corrections number (key_of s)
  unfolding about_slip about_key number_behind event_behind
  about-behind s m =
      let ranges = ranged n files regular corrections sound in
      let within = bounded regular corrections sound.regular_room sound.correction_room (file_at files) n ranges sound.reports sound.objections s (kept r (file_at files) n ranges s m) in
      sym (ap (λ (e : Event). same_number (number_in e.kind e.bytes) number) (behind regular corrections sound.regular_room sound.correction_room s within))

  about-front : (k : ℕ) → about_key regular corrections number k ≡ true → eqb (front_behind regular corrections k) (front number.first.0) ≡ true
  unfolding about_key front_behind
  about-front k e = eq-eqb _ _ (ap (λ (m : Number). front m.first.0) (same_number_lem (number_behind regular corrections k) number e))

  module _ (some : number.first.0 ≡ 1 → ⊥) (want : is_wanted wanted number.first.0 ≡ true) where
    about-candidate : (s : Slip) → about_slip r number s ≡ true → candidate r wanted s ≡ true
    unfolding about_slip candidate may_name
    about-candidate s e =
        let bytes = r s.kind s.index in
        let first : (number_in s.kind bytes).first.0 ≡ number.first.0 = ap (λ (m : Number). m.first.0) (same_number_lem (number_in s.kind bytes) number e) in
        ⊎_elim (λ (h : first_in s.kind bytes ≡ 1). rw (eq-eqb (first_in s.kind bytes) 1 h))
        (⊎_elim (λ (h : (number_in s.kind bytes).first.0 ≡ 1). absurd (some (sym first ∙ h)))
        (λ (h : (number_in s.kind bytes).first.0 ≡ first_in s.kind bytes). ap (λ (d : ℕ). eqb (first_in s.kind bytes) 1 || is_wanted wanted d) (sym h ∙ first) ∙ ap (λ (b : Bool). eqb (first_in s.kind bytes) 1 || b) want ∙ or-true (eqb (first_in s.kind bytes) 1)))
        (first-in s.kind bytes)

    -- the group's records that name the number are all that do, in the order of the files
    in_group : keep (about_key regular corrections number) (keys_behind (take c keys) (group (front number.first.0) (take c places))) ≡ keys_of r number (file_at files) n
    unfolding keys_of listed
    in_group =
        let about = about_key regular corrections number in
        let level : ℕ → Bool = λ (k : ℕ). eqb (front_behind regular corrections k) (front number.first.0) in
        let may = candidate r wanted in
        let those = slips r (file_at files) n in
        ap (λ (l : List ℕ). keep about (keys_behind (take c keys) (group (front number.first.0) l))) x.grouped
        ∙ ap (keep about) (grouped (front_behind regular corrections) (take c keys) (omega (arith, length-take c keys, x.few)) (front number.first.0))
        ∙ keep-both about level (take c keys)
        ∙ keep_same (λ (k : ℕ). about k && level k) about (take c keys) (λ k m. and-implied (about k) (level k) (about-front k))
        ∙ ap (keep about) x.candidates.laid
        ∙ sym (keep-map key_of about (about_slip r number) (keep may those) (λ s m. about-behind s (mem-keep may those m)))
        ∙ ap (map key_of) (keep-both (about_slip r number) may those ∙ keep_same (λ (s : Slip). about_slip r number s && may s) (about_slip r number) those (λ s m. and-implied (about_slip r number s) (may s) (about-candidate s)))

    pub gathered : (out after : List ℕ) (k : ℕ) → Behind out 0 (keep (about_key regular corrections number) (keys_behind (take c keys) (group (front number.first.0) (take c places)))) after k
        → Gathered n files regular corrections number after k
    gathered out after k b = record {
      laid = b.laid ∙ in_group;
      counted = omega (arith, b.counted, ap length in_group);
    }
