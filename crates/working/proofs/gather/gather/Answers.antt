-- `working::gather::gather` meets its contract: a turn of the loop is `passing-more`. Assumes nothing.
use mathlib.Core.Path.{ap, ◌∙◌}
use Prim.Native.Nat.{ℕ, ◌+◌}
use native.Mathlib.Omega.{arith}
use Rattle.store.specs.journals.Files.{file_at}
use Rattle.store.specs.declared.journals.files.File.{File}
use Rattle.store.proofs.journals.Counting.{records-none, records-next}
use Rattle.working.proofs.GatherLaws.{begins, reports-few, objections-few}
use Rattle.working.proofs.PassLaws.{passing-none, passing-more, room}
use Rattle.working.proofs.gather.gather.Goals as goal

pub loop-k-init : goal.loop-k-init
loop-k-init g c =
    let filed = c.args.filed.now in record {
      reports = records-none 0 (file_at filed.files.now);
      objections = records-none 1 (file_at filed.files.now);
      laid = passing-none filed.files.now filed.journals.regular.now filed.journals.corrections.now (g.W.Wanting.takes c.args.wanting.now) c.args.keys.now;
    }

pub records_from-records-requires-clause-start_value : goal.records_from-records-requires-clause-start_value
records_from-records-requires-clause-start_value g c =
    let filed = c.args.filed.now in
    let f = c.file_at-kind in
    let begun = begins filed.n filed.files.now filed.journals.regular.now filed.journals.corrections.now filed.sound c.loop-k.k f.result c.loop-k.begins.reports c.loop-k.begins.objections c.loop-k-test.true f.ensures.0 c.loop-k.invariant.reports c.loop-k.invariant.objections in
    rw f.ensures.0 at (c.of.ensures ∙ begun)

pub gather_file-r-requires : goal.gather_file-r-requires
gather_file-r-requires g c =
    let filed = c.args.filed.now in
    omega (
      arith,
      room filed.files.now filed.journals.regular.now filed.journals.corrections.now (g.W.Wanting.takes c.args.wanting.now) filed.n filed.sound c.loop-k.k c.loop-k-test.true,
      ap (λ (f : File). f.count) c.records_from-records.ensures.file,
      c.loop-k.invariant.laid.counted,
      c.loop-k.auto.keys,
      c.requires,
    )

pub overflow_add-begins : goal.overflow_add-begins
overflow_add-begins g c =
    let filed = c.args.filed.now in
    omega (
      arith,
      c.loop-k.invariant.reports,
      reports-few filed.n filed.files.now filed.journals.regular.now filed.journals.corrections.now filed.sound (c.loop-k.k + 1) (omega (arith, c.loop-k-test.true)),
      records-next 0 (file_at filed.files.now) c.loop-k.k c.loop-k.begins.reports c.records_from-records.result.file c.records_from-records.ensures.file c.loop-k.invariant.reports,
      c.records_in.ensures.0,
    )

pub overflow_add-begins-in-loop-k : goal.overflow_add-begins-in-loop-k
overflow_add-begins-in-loop-k g c =
    let filed = c.args.filed.now in
    omega (
      arith,
      c.loop-k.invariant.objections,
      objections-few filed.n filed.files.now filed.journals.regular.now filed.journals.corrections.now filed.sound (c.loop-k.k + 1) (omega (arith, c.loop-k-test.true)),
      records-next 1 (file_at filed.files.now) c.loop-k.k c.loop-k.begins.objections c.records_from-records.result.file c.records_from-records.ensures.file c.loop-k.invariant.objections,
      c.records_in-in-loop-k.ensures.0,
    )

pub loop-k-preserved : goal.loop-k-preserved
loop-k-preserved g c =
    let filed = c.args.filed.now in
    let l = c.loop-k in
    let f = c.records_from-records in
    let begun = begins filed.n filed.files.now filed.journals.regular.now filed.journals.corrections.now filed.sound l.k c.file_at-kind.result l.begins.reports l.begins.objections c.loop-k-test.true c.file_at-kind.ensures.0 l.invariant.reports l.invariant.objections in record {
      reports = ap (λ (m : ℕ). l.begins.reports + m) c.records_in.ensures.0 ∙ records-next 0 (file_at filed.files.now) l.k l.begins.reports f.result.file f.ensures.file l.invariant.reports;
      objections = ap (λ (m : ℕ). l.begins.objections + m) c.records_in-in-loop-k.ensures.0 ∙ records-next 1 (file_at filed.files.now) l.k l.begins.objections f.result.file f.ensures.file l.invariant.objections;
      laid =
          passing-more filed.files.now filed.journals.regular.now filed.journals.corrections.now (g.W.Wanting.takes c.args.wanting.now) l.k f.result.file f.result.start l.keys _ l.r _
          f.ensures.file (f.ensures.start ∙ (rw c.file_at-kind.ensures.0 at (c.of.ensures ∙ begun))) l.invariant.laid (rw f.ensures.journals at c.gather_file-r.ensures);
    }
