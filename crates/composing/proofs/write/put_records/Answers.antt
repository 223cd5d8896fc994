-- `composing::write::put_records` meets its contract. What is left to lay, laid from here on, gives what is to be laid in all. Assumes nothing.
use Rattle.composing.proofs.GroupLaws.{cut_of}
use Rattle.composing.proofs.LayLaws.{lay-on, lay-end, lay-length, left-lines, left-length, left-fit, left-none}
use Rattle.laws.proofs.Overlay.{laid-length, overlay-none}
use Rattle.laws.specs.Overlay.{overlay}
use lib.ListN.{length}
use native.Mathlib.Omega.{arith}
use mathlib.Core.Path.{sym, ap, ◌∙◌}
use Rattle.composing.proofs.write.put_records.Goals as goal

pub put-end-requires : goal.put-end-requires
put-end-requires c =
    let l = c.loop-values in
    let s = c.in-Some.ensures.steps.1 in
    let g = cut_of l.invariant.size s.0 s.1 s.2 in
    omega (arith, left-length g, l.invariant.lengths, l.invariant.room, c.requires.1)

pub put_byte-to-requires : goal.put_byte-to-requires
put_byte-to-requires c =
    let l = c.loop-values in
    let s = c.in-Some.ensures.steps.1 in
    let g = cut_of l.invariant.size s.0 s.1 s.2 in
    omega (arith, left-length g, l.invariant.lengths, l.invariant.room, c.requires.1, laid-length c.put-end.ensures, c.put-end.ensures.ends)

pub loop-values-preserved : goal.loop-values-preserved
loop-values-preserved c =
    let l = c.loop-values in
    let s = c.in-Some.ensures.steps.1 in
    let g = cut_of l.invariant.size s.0 s.1 s.2 in
    record {
      size = c.next.ensures.steps.0 ∙ l.invariant.size;
      room = lay-length c.put-end.ensures c.put_byte-to.ensures ∙ l.invariant.room;
      fit = left-fit g l.invariant.fit;
      lengths = omega (arith, lay-end c.put-end.ensures c.put_byte-to.ensures, left-length g, l.invariant.lengths);
      laid = l.invariant.laid ∙ ap (overlay l.out l.to) (left-lines g) ∙ lay-on c.put-end.ensures c.put_byte-to.ensures _;
    }

pub returns : goal.returns
returns c =
    let l = c.loop-values in
    let none = left-none c.args.kind _ c.in-None.ensures.steps.1.0 in
    record {
      bytes = overlay-none l.out l.to ∙ sym (l.invariant.laid ∙ ap (overlay l.out l.to) none);
      ends = omega (arith, l.invariant.lengths, ap length none);
    }
