-- `asking::record::locate` meets its contract: the records of the files passed and the place that is left make the whole (`Records`). Assumes nothing.
use mathlib.Core.Path.{◌≡◌, ap}
use Prim.Native.Nat.{ℕ}
use native.Mathlib.Omega.{arith}
use Rattle.laws.specs.Lists.{table}
use Rattle.store.specs.journals.Files.{file_at, records_of}
use Rattle.asking.proofs.Records.{located, located-on, located-start}
use Rattle.asking.proofs.record.locate.Goals as goal

pub loop-k-init : goal.loop-k-init
loop-k-init c = let a = c.args in located-start (file_at a.files.now) a.kind a.place

pub returns-then-at-count : goal.returns-then-at-count
returns-then-at-count c =
    let a = c.args in
    let f = c.file_at-f in
    let m = c.records_in-count in
    located (file_at a.files.now) a.kind a.place c.loop-k.k c.loop-k.at f.result m.result f.ensures.0 m.ensures.0 c.loop-k.invariant a.n (omega arith) c.if-at-count.true

pub loop-k-preserved : goal.loop-k-preserved
loop-k-preserved c =
    let a = c.args in
    let f = c.file_at-f in
    let m = c.records_in-count in
    located-on (file_at a.files.now) a.kind a.place c.loop-k.k c.loop-k.at f.result m.result f.ensures.0 m.ensures.0 c.loop-k.invariant c.if-at-count.false

pub returns : goal.returns
returns c =
    let a = c.args in
    let e : c.loop-k.k ≡ a.n = omega arith in
    omega (arith, c.loop-k.invariant, ap (λ (k : ℕ). records_of a.kind (table k (file_at a.files.now))) e)
