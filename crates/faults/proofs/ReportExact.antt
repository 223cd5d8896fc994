-- A line is a report exactly if no fault is found in it as one (`report-exact`). Assumes nothing.
use Rattle.std.specs.Prelude.{Result, Err, is_ok, ⊤}
use Rattle.faults.specs.declared.cause.Cause.{Cause}
use Rattle.std.specs.Prelude.{is_some}
use Rattle.std.specs.Prelude.{None}
use Prim.Native.Nat.{ℕ, ◌<◌, ◌≤◌}
use native.Mathlib.Omega.{arith}
use mathlib.Core.Path.{◌≡◌, refl, sym, ap, ◌∙◌}
use mathlib.Core.Bool.{Bool, true, false, cond}
use mathlib.Core.List.{List, []}
use mathlib.Core.Logic.{⊎_elim}
use lib.Dec.{eqb}
use lib.ListN.{length}
use borrow.Author.Tests.{eqb-true, eq-eqb}
use Rattle.laws.specs.Lists.{all}
use Rattle.laws.specs.Split.{split}
use Rattle.laws.proofs.Split.{rest-none, rest-piece}
use Rattle.laws.proofs.Tests.{le-or-lt, never, agree-where}
use Rattle.laws.proofs.Tables.{all-at}
use Rattle.fields.specs.Bytes.{field_byte}
use Rattle.layout.specs.Part.{six_of, part_of}
use Rattle.layout.specs.Report.{report_from, report_of}
use Rattle.faults.specs.declared.cause.Cause.TheVariants.{Length}
use Rattle.faults.specs.Cut.{field_at, rest_at}
use Rattle.faults.specs.Record.{report_fault}
use Rattle.faults.proofs.CutLaws.{fields-counted}
use Rattle.faults.proofs.SixExact.{six-exact, six-bytes, six-status, report-six}

abbrev wrong : Result ⊤ Cause
wrong = Err Length

module _ (s : List ℕ) where
  -- a line without a fault has six fields
  six-without-fault : is_ok (report_fault s) ≡ true → length (split 44 s) ≡ 6
  unfolding report_fault rest_at
  six-without-fault h =
      let bytes = six-bytes 1 wrong wrong (field_at s 0) (field_at s 1) (field_at s 2) (field_at s 3) (field_at s 4) (rest_at s 5) h in
      let most = fields-counted s 5 (all-at (all field_byte) _ 5 [] bytes (omega arith)) in
      let some = six-status 1 wrong wrong (field_at s 0) (field_at s 1) (field_at s 2) (field_at s 3) (field_at s 4) (rest_at s 5) refl h in
      ⊎_elim
      (λ (l : length (split 44 s) ≤ 5). absurd (some (ap length (rest-none 44 (split 44 s) 5 l))))
      (λ (l : 5 < length (split 44 s)). omega arith)
      (le-or-lt (length (split 44 s)) 5)

  -- and so has one that is read
  six-read : is_some (report_of s) ≡ true → length (split 44 s) ≡ 6
  unfolding report_of report_from part_of
  six-read h = go (eqb (length (split 44 s)) 6) refl h
    where
      go : (t : Bool) → eqb (length (split 44 s)) 6 ≡ t → is_some (report_from (cond t (six_of (field_at s 0) (field_at s 1) (field_at s 2) (field_at s 3) (field_at s 4) (field_at s 5)) None)) ≡ true → length (split 44 s) ≡ 6
      go true q e = eqb-true (length (split 44 s)) 6 q
      go false q e = never e

  -- six fields
  six-agree : length (split 44 s) ≡ 6 → is_some (report_of s) ≡ is_ok (report_fault s)
  unfolding report_of part_of report_fault rest_at
  six-agree l =
      rw (eq-eqb (length (split 44 s)) 6 l, rest-piece 44 (split 44 s) 5 l)
      (report-six (field_at s 0) (field_at s 1) (field_at s 2) (field_at s 3) (field_at s 4) (field_at s 5)
      ∙ sym (six-exact 1 wrong wrong (field_at s 0) (field_at s 1) (field_at s 2) (field_at s 3) (field_at s 4) (field_at s 5)))

  pub report-exact : is_some (report_of s) ≡ is_ok (report_fault s)
  report-exact = agree-where (is_some (report_of s)) (is_ok (report_fault s)) six-read six-without-fault six-agree
