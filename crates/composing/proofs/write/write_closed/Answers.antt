-- `composing::write::write_closed` meets its contract. Assumes nothing.
use Prim.Native.Nat.{◌+◌}
use Rattle.std.proofs.lemmas.Result.{err_from_is_err_and}
use Rattle.composing.proofs.WroteLaws.{wrote_unfit, wrote-long, wrote-whole}
use Rattle.composing.proofs.LayLaws.{measured-length, held_all_lem, length-closed, lines_long}
use Rattle.composing.specs.Measuring.{closed_text}
use Rattle.files.specs.Writing.{values_in, held_all}
use Rattle.records.proofs.closing.ClosingLaws.{length-closing, short-closing}
use Rattle.records.specs.closing.Closing.{closing_text}
use lib.ListN.{length}
use mathlib.Core.Path.{sym, ap, ◌∙◌}
use native.Mathlib.Omega.{arith}
use Prim.Native.Nat.{ℕ}
use Rattle.composing.proofs.write.write_closed.Goals as goal

pub returns-then-out-measured : goal.returns-then-out-measured
returns-then-out-measured c =
    let k = c.args.kind in
    let vs = values_in k c.args.words.now in
    let h = measured-length k vs _ _ (sym c.measure.ensures ∙ c.in_ok-measured.was) in
    wrote-long (held_all k vs) (closed_text k vs) _ (length vs) (held_all_lem k vs h.fit) (omega (arith, length-closed k vs))

pub overflow_add-lines : goal.overflow_add-lines
overflow_add-lines c =
    let k = c.args.kind in
    let vs = values_in k c.args.words.now in
    let h = measured-length k vs _ _ (sym c.measure.ensures ∙ c.in_ok-measured.was) in
    omega (arith, lines_long k vs)

pub overflow_add-text_len : goal.overflow_add-text_len
overflow_add-text_len c =
    let k = c.args.kind in
    let vs = values_in k c.args.words.now in
    let h = measured-length k vs _ _ (sym c.measure.ensures ∙ c.in_ok-measured.was) in
    let lines = c.in_ok-measured.measured.count + 1 in
    omega (arith, lines_long k vs, length-closing lines, short-closing lines (omega (arith, lines_long k vs)))

pub returns-then-out-measured-2 : goal.returns-then-out-measured-2
returns-then-out-measured-2 c =
    let k = c.args.kind in
    let vs = values_in k c.args.words.now in
    let h = measured-length k vs _ _ (sym c.measure.ensures ∙ c.in_ok-measured.was) in
    let e = ap (λ (n : ℕ). length (closing_text (n + 1))) h.count in
    wrote-long (held_all k vs) (closed_text k vs) _ (length vs) (held_all_lem k vs h.fit) (omega (arith, length-closed k vs, c.text_len.ensures))

pub put_closed-requires : goal.put_closed-requires
put_closed-requires c =
    let k = c.args.kind in
    let vs = values_in k c.args.words.now in
    let h = measured-length k vs _ _ (sym c.measure.ensures ∙ c.in_ok-measured.was) in
    let e = ap (λ (n : ℕ). length (closing_text (n + 1))) h.count in
    (h.fit, (omega arith, omega (arith, length-closed k vs, c.text_len.ensures)))

pub returns-in_err-measured : goal.returns-in_err-measured
returns-in_err-measured c =
    let k = c.args.kind in
    let vs = values_in k c.args.words.now in
    let p = err_from_is_err_and c.from_residual.result c.from_residual.ensures.1 in
    rw (p.1, p.2) (wrote_unfit k vs (closed_text k vs) _ _ (sym c.measure.ensures ∙ c.in_err-measured.was))

pub returns : goal.returns
returns c =
    let k = c.args.kind in
    let vs = values_in k c.args.words.now in
    let h = measured-length k vs _ _ (sym c.measure.ensures ∙ c.in_ok-measured.was) in
    let e = ap (λ (n : ℕ). length (closing_text (n + 1))) h.count in
    wrote-whole (held_all k vs) (closed_text k vs) _ (length vs) (held_all_lem k vs h.fit) (omega (arith, length-closed k vs, c.text_len.ensures)) c.put_closed.ensures
