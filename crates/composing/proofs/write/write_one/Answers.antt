-- `composing::write::write_one` meets its contract. Assumes nothing.
use Rattle.composing.proofs.WroteLaws.{wrote-fault, wrote-long, wrote-whole, one-unfit, one-two, one-held, one-fit, one-length}
use native.Mathlib.Nat.{min-le_right}
use lib.ListN.{length, length-take}
use Rattle.records.proofs.RecordLaws.{fits-short}
use Rattle.composing.specs.Measuring.{record_lines}
use Rattle.files.specs.Writing.{values_in, held_one}
use mathlib.Core.Path.{sym, ap, ◌∙◌}
use native.Mathlib.Omega.{arith}
use Rattle.composing.proofs.write.write_one.Goals as goal

pub returns-then-not-fits : goal.returns-then-not-fits
returns-then-not-fits c =
    let k = c.args.kind in
    let ws = c.args.words.now in
    let vs = values_in k ws in
    wrote-fault (held_one k vs) (record_lines k vs) _ 0 (one-unfit k ws _ _ c.width-w.ensures c.group-values.ensures (sym c.fits.ensures ∙ c.if-not-fits.true))

pub returns-then-w-words : goal.returns-then-w-words
returns-then-w-words c =
    let k = c.args.kind in
    let ws = c.args.words.now in
    let vs = values_in k ws in
    let fit = sym c.fits.ensures ∙ c.if-not-fits.false in
    wrote-fault (held_one k vs) (record_lines k vs) _ 1 (one-two k ws _ _ c.width-w.ensures c.group-values.ensures fit c.if-w-words.true)

pub overflow_add-len : goal.overflow_add-len
overflow_add-len c =
    let k = c.args.kind in
    let ws = c.args.words.now in
    let fit = sym c.fits.ensures ∙ c.if-not-fits.false in
    omega (arith, fits-short k _ fit, c.len.ensures, ap length c.group-values.ensures, length-take c.width-w.result ws, min-le_right c.width-w.result (length ws))

pub returns-then-out-len : goal.returns-then-out-len
returns-then-out-len c =
    let k = c.args.kind in
    let ws = c.args.words.now in
    let vs = values_in k ws in
    let fit = sym c.fits.ensures ∙ c.if-not-fits.false in
    wrote-long (held_one k vs) (record_lines k vs) _ 1 (one-held k ws _ _ c.width-w.ensures c.group-values.ensures fit c.if-w-words.false) (omega (arith, one-length k ws _ _ c.width-w.ensures c.group-values.ensures _ fit c.if-w-words.false c.len.ensures))

pub put_records-requires : goal.put_records-requires
put_records-requires c =
    let k = c.args.kind in
    let ws = c.args.words.now in
    let vs = values_in k ws in
    let fit = sym c.fits.ensures ∙ c.if-not-fits.false in
    (one-fit k ws _ _ c.width-w.ensures c.group-values.ensures fit c.if-w-words.false, omega (arith, one-length k ws _ _ c.width-w.ensures c.group-values.ensures _ fit c.if-w-words.false c.len.ensures))

pub returns : goal.returns
returns c =
    let k = c.args.kind in
    let ws = c.args.words.now in
    let vs = values_in k ws in
    let fit = sym c.fits.ensures ∙ c.if-not-fits.false in
    wrote-whole (held_one k vs) (record_lines k vs) _ 1 (one-held k ws _ _ c.width-w.ensures c.group-values.ensures fit c.if-w-words.false) (omega (arith, one-length k ws _ _ c.width-w.ensures c.group-values.ensures _ fit c.if-w-words.false c.len.ensures)) c.put_records.ensures
